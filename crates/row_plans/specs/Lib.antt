-- What the contracts of `row_plans` cite. Assumes nothing.
pub mod Plans
