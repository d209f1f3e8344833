-- The laws of `rules`. Assumes nothing.
pub mod Rules
