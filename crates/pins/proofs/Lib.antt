pub mod Inputs
pub mod Values
pub mod Valid
pub mod Questions
