-- The laws of `literals`. Assumes nothing.
pub mod Words
