-- What the contracts over graphs cite. Assumes nothing.
pub mod Graph
pub mod Store
pub mod Edges
pub mod Last
