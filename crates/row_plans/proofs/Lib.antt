-- Laws of the definitions. Assumes nothing.
pub mod Steps
pub mod Kept
pub mod Read
