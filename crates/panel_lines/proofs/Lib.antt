pub mod Reading
pub mod Commands
