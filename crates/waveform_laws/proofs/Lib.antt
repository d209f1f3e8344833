pub mod Twins
pub mod Positions
pub mod Own
pub mod Examples
pub mod Theorems
