pub mod Gates
pub mod DepthFirst
