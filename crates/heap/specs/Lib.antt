-- What the contracts of `heap` cite. Assumes nothing.
pub mod Heap
