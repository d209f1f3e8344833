-- The laws of `netlist`. Assumes nothing.
pub mod Building
pub mod Links
pub mod Records
pub mod Premises
