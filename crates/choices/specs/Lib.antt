-- What the contracts of `choices` cite, and what is given of the words before a search. Assumes nothing.
pub mod Choices
pub mod Begun
