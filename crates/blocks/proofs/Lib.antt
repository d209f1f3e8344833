pub mod Words
pub mod Starts
pub mod Runs
pub mod Judging
