pub mod Sizes
pub mod Refusals
