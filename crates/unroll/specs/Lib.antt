-- What the contracts of `unroll` cite. Assumes nothing.
pub mod Edges
pub mod Chosen
pub mod Map
pub mod Unrolled
