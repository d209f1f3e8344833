-- What the contracts of `state_sets` cite, and what its tables mean. Assumes nothing.
pub mod Shape
pub mod Sets
pub mod Meaning
