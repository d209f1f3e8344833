pub mod Choice
pub mod Frame
pub mod Blocks
