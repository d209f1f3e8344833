-- The laws of what is decided of a frame. Assumes nothing.
pub mod Deciding
pub mod Resuming
pub mod Graphs
pub mod Counted
