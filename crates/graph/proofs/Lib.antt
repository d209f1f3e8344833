-- The laws of `graph`. Assumes nothing.
pub mod Growth
pub mod Chosen
pub mod Outcomes
pub mod Signed
pub mod Empty
pub mod Operands
