pub mod Implied
pub mod Latches
pub mod Differences
