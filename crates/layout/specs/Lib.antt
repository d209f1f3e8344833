pub mod Layout
pub mod Order
pub mod Words
pub mod Table
