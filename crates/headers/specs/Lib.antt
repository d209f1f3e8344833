-- What the contracts of `headers` cite. Assumes nothing.
pub mod Header
