-- The laws of `propagation`. Assumes nothing.
pub mod Rules
pub mod Turns
pub mod Frame
