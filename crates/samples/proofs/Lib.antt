pub mod Standing
pub mod Values
pub mod Samples
