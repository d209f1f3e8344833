pub mod Flags
pub mod Previews
