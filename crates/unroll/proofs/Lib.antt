-- The laws of `unroll`. Assumes nothing.
pub mod Edges
pub mod Growth
pub mod Stores
pub mod Follows
pub mod Gates
pub mod Facts
pub mod Hits
pub mod Frames
pub mod Unrolling
