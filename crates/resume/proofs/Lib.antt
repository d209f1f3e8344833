-- The laws of `resume`. Assumes nothing.
pub mod Places
pub mod Turns
