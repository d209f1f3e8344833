-- What the contracts of `set_search` cite. Assumes nothing.
pub mod Search
