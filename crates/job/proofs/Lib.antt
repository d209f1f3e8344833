pub mod Requests
pub mod Replying
pub mod Printing
pub mod Running
pub mod Theorems
