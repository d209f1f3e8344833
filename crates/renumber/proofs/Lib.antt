pub mod Runs
pub mod Renamed
pub mod Naming
