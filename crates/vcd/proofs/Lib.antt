pub mod Names
pub mod Parts
