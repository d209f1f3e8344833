pub mod Within
pub mod Choice
pub mod ByRounds
pub mod Answers
pub mod Theorems
pub mod Constraints
