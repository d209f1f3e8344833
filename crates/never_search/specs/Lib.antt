-- The search at a depth: its two questions, what it may answer, its tests and its effect. Assumes nothing.
pub mod Runs
pub mod Depth
pub mod Operation
