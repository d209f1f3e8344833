pub mod Correct
pub mod Agreement
pub mod Told
