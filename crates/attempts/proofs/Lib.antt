pub mod Small
pub mod Sound
pub mod Graphs
pub mod Frames
