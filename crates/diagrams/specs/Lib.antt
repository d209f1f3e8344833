-- What the contracts of `diagrams` cite, and what edges mean. Assumes nothing.
pub mod Words
pub mod States
pub mod Meaning
