-- What the contracts of `memory` cite. Assumes nothing.
pub mod Record
