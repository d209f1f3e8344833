-- What the contracts of `learning` cite. Assumes nothing.
pub mod Learning
