pub mod Numbers
pub mod Prefixes
pub mod Bridge
pub mod Packing
pub mod Words
pub mod Rows
