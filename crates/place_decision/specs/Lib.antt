-- What the contracts of `place_decision` cite. Assumes nothing.
pub mod Reach
pub mod Decided
