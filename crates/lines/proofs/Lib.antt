pub mod Tests
pub mod Reading
pub mod Storing
pub mod Lines
pub mod Tail
