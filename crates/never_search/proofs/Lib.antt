pub mod Windows
pub mod Never
pub mod Freed
pub mod Left
pub mod Answers
pub mod Determined
pub mod Examples
