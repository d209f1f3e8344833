-- The laws of `pairs`. Assumes nothing.
pub mod Buckets
pub mod Walk
pub mod Append
pub mod Found
