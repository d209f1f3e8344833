pub mod Entries
pub mod Covering
pub mod Frames
pub mod Simulation
