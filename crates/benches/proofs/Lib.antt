pub mod Entries
pub mod Sums
pub mod Order
pub mod Turns
pub mod Finished
pub mod Examples
