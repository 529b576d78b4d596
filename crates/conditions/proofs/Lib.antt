-- What the code looks at, its loop, what each of its tests computes, and all of them as a chain.
pub mod Shows
pub mod Silence
pub mod Chain
pub mod Examined
pub mod Openings
