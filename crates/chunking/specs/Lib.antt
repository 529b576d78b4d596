-- The runs of forward zones, and the backward clusters inside them.
pub mod Chunks
pub mod Inner
