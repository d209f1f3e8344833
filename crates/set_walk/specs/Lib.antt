-- What the contracts of `set_walk` cite. Assumes nothing.
pub mod Walk
pub mod Start
