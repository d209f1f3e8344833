-- What the contracts of `simulation` cite. Assumes nothing.
pub mod Store
pub mod Found
