-- The laws of `floor`. Assumes nothing.
pub mod Turns
pub mod Bits
pub mod Rise
pub mod Leaves
pub mod False
pub mod Evaluation
