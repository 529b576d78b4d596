-- A chunk of clusters, places for its clusters, and the orders that figure 4 lists for it.
pub mod Chunk
