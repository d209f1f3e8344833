pub mod Put
pub mod Rows
pub mod Starts
pub mod Parts
pub mod Lines
pub mod Heads
