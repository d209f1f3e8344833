-- The theorems of `generated`. Assumes nothing.
pub mod Examples
pub mod Drawn
pub mod Parts
pub mod Short
pub mod Loads
pub mod Draws
pub mod Theorems
