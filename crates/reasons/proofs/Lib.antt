-- The laws of `reasons`. Assumes nothing.
pub mod Valid
pub mod Frame
