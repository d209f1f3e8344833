-- What the contracts of `output` cite. Assumes nothing.
pub mod Output
pub mod Row
