pub mod Putting
pub mod Causes
pub mod Loading
