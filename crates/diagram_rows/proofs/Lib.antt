-- Laws of the definitions. Assumes nothing.
pub mod Read
pub mod Follow
pub mod Sound
pub mod Inputs
pub mod Machine
