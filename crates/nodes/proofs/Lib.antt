-- The laws of `nodes`. Assumes nothing.
pub mod Laws
pub mod Last
