pub mod Quotas
pub mod Frames
pub mod Steps
pub mod Ends
pub mod More
