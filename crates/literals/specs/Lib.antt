-- What the contracts of `literals` cite. Assumes nothing.
pub mod Literal
