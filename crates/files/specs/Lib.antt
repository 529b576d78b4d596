-- History files: what is asked of them.
pub mod Files
