pub mod Rows
pub mod Slots
pub mod Ask
pub mod Begin
