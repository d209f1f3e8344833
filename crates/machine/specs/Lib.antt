pub mod Machine
pub mod Layers
