-- What the contracts of `place_enumeration` cite. Assumes nothing.
pub mod From
