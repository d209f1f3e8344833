-- The laws of `output`. Assumes nothing.
pub mod Output
pub mod Row
