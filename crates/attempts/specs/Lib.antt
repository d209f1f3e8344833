-- What the contracts of `attempts` cite. Assumes nothing.
pub mod Attempts
pub mod Stage
