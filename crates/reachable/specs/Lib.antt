pub mod Quota
pub mod Layers
pub mod Asking
