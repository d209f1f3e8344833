-- The laws of `collection`. Assumes nothing.
pub mod Words
pub mod Turns
pub mod Marks
pub mod Packing
pub mod Sound
