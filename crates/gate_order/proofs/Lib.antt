pub mod Counts
pub mod Links
pub mod Blocks
pub mod Users
pub mod Taking
