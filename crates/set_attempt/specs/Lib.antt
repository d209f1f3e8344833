-- Attempts at the frames by sets of states. Assumes nothing.
pub mod Fit
pub mod Attempt
pub mod Stage
pub mod Bits
