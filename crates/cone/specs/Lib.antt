-- What the contracts of `cone` cite. Assumes nothing.
pub mod Cone
pub mod Store
