pub mod Looks
pub mod Steps
pub mod Unwound
pub mod Runs
pub mod Orders
