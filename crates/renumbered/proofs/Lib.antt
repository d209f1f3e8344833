pub mod Examples
pub mod Written
