-- A bench of searches on one allowance, and sequences of what happens to it. Assumes nothing.
pub mod Bench
pub mod Happenings
