-- What the contracts of `set_stage` cite. Assumes nothing.
pub mod Plans
pub mod Table
