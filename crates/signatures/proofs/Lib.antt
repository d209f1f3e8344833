-- The laws of signatures. Assumes nothing.
pub mod Words
pub mod Buckets
pub mod Stores
pub mod Patterns
pub mod Candidates
pub mod Simulations
pub mod Twins
