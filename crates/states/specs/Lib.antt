pub mod Number
pub mod Table
pub mod Trace
