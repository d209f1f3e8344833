-- What the contracts of `resume` cite. Assumes nothing.
pub mod Resume
