-- The laws of `numbers`. Assumes nothing.
pub mod Digits
pub mod ReadBack
pub mod Run
pub mod Gather
pub mod Reading
