pub mod Obeys
pub mod Places
