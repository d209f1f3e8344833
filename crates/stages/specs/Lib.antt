pub mod Endings
pub mod Conflicts
pub mod Choice
pub mod Layers
