-- What the contracts of `place_solver` cite. Assumes nothing.
pub mod From
