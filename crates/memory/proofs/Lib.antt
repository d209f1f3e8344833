-- The laws of `memory`. Assumes nothing.
pub mod Counted
