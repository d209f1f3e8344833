-- The proofs of `trace_bits`. Assumes nothing.
pub mod Ranks
pub mod Values
