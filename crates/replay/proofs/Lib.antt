pub mod Symbols
pub mod Heads
pub mod Lines
pub mod Shapes
pub mod Answers
pub mod Under
pub mod Plain
pub mod Theorems
