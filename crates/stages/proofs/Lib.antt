pub mod Lists
pub mod Attempts
pub mod Choice
pub mod Passing
pub mod More
pub mod Layers
