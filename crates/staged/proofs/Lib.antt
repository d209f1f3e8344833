-- What is proved of `staged`. Assumes nothing.
pub mod Onward
pub mod Sound
pub mod Turns
