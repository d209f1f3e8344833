-- What the contracts of `rules` cite. Assumes nothing.
pub mod Rules
