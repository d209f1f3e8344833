-- The laws of `solver`. Assumes nothing.
pub mod Bits
pub mod Solving
