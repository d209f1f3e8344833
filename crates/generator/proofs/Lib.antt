-- The laws of `generator`. Assumes nothing.
pub mod Wrap
