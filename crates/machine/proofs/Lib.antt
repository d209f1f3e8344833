pub mod First
pub mod Meet
pub mod Starts
pub mod Expand
pub mod Theorems
