-- What the contracts of `decision` cite. Assumes nothing.
pub mod Reach
pub mod Decided
