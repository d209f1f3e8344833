-- The laws of `headers`. Assumes nothing.
pub mod Heading
