-- The proofs of `set_table`. Assumes nothing.
pub mod Resets
pub mod Frees
pub mod Distinct
pub mod Table
