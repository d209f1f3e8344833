pub mod Steps
pub mod Outputs
pub mod Pins
pub mod Headings
pub mod Theorems
