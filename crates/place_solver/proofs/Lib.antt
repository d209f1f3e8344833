pub mod Started
pub mod Digits
pub mod Beginning
pub mod Solving
