pub mod Ahead
pub mod Frames
pub mod Walks
pub mod Places
pub mod Runs
pub mod Examples
