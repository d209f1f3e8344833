-- Circuits made from a seed and counts. Assumes nothing.
pub mod Generated
pub mod Parts
pub mod Examples
