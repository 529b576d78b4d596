-- Texts in a lent buffer, of a refusal and of a file.
pub mod Texts
pub mod Files
