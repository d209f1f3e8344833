-- What is proved of `set_search`. Assumes nothing.
pub mod Below
pub mod Parts
pub mod Plans
pub mod Reached
pub mod Trial
pub mod Turns
