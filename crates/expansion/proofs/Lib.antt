pub mod Rows
pub mod Witnesses
