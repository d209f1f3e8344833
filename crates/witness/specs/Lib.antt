pub mod Writing
pub mod Line
pub mod Heading
