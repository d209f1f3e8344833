pub mod Outputs
pub mod Turns
pub mod Lacking
pub mod Undisturbed
pub mod Start
