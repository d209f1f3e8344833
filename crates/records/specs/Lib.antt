-- What the contracts of `records` cite. Assumes nothing.
pub mod Steps
