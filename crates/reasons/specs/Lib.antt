-- What the contracts of `reasons` cite, and what is claimed of the words of a search. Assumes nothing.
pub mod Reason
pub mod Claims
