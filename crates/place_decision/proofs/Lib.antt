pub mod Numbers
pub mod Choosing
pub mod Parts
pub mod More
pub mod Told
