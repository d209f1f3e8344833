-- What the contracts of `fold` cite. Assumes nothing.
pub mod Chosen
pub mod Examples
pub mod Text
pub mod Answer
