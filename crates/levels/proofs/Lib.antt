pub mod Levels
pub mod Wires
