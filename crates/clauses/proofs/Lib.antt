-- The laws of clauses and of the floor. Assumes nothing.
pub mod Resolution
pub mod Raise
