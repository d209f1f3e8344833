-- What the contracts of `set_table` cite. Assumes nothing.
pub mod Room
