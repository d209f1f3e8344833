-- The laws of simulation. Assumes nothing.
pub mod Words
pub mod Nets
pub mod Slots
pub mod FirstUses
pub mod Places
pub mod Blocks
pub mod Founds
