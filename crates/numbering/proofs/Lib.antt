pub mod InOrder
pub mod Reading
