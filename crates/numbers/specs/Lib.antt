-- What the contracts of `numbers` cite. Assumes nothing.
pub mod Number
pub mod Last
