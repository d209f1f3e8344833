-- The laws of `conflicts`. Assumes nothing.
pub mod Turns
pub mod Calls
pub mod Begin
pub mod Sound
pub mod Theorems
pub mod Held
