-- The laws of the marking call's steps.
pub mod Asking
pub mod Refusing
pub mod Working
