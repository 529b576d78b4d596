-- From a search to the outcome.
pub mod Replies
