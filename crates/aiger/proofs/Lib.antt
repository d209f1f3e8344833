pub mod Tests
pub mod Reached
pub mod Examples
pub mod Forms
