-- What the contracts of `generate` cite. Assumes nothing.
pub mod Steps
pub mod Answer
