pub mod Text
pub mod Wires
