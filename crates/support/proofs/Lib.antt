-- The laws of counting over some of the bits of a number. Assumes nothing.
pub mod Counting
pub mod Support
