-- What the contracts of `trail` cite. Assumes nothing.
pub mod Trail
