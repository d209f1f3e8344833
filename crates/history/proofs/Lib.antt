pub mod Calls
pub mod Moves
pub mod Undisturbed
pub mod Free
pub mod Obeying
pub mod Rows
pub mod Budgets
