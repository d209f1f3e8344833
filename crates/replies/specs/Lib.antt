-- What the contracts of `replies` cite. Assumes nothing.
pub mod Refusal
pub mod Reply
pub mod Loading
