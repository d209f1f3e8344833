-- What the contracts of `graph` cite. Assumes nothing.
pub mod Chosen
pub mod Stored
