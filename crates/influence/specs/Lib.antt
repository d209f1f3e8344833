pub mod Part
pub mod Cone
