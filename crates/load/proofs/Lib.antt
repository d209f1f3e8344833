pub mod Copying
pub mod Finishing
pub mod Previews
