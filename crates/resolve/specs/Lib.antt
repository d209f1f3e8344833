-- What the contracts of `resolve` cite. Assumes nothing.
pub mod Draft
