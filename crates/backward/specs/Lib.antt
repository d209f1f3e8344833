pub mod Sets
pub mod Walk
pub mod Place
pub mod Runs
