-- What the contracts of `propagation` cite. Assumes nothing.
pub mod Gates
