pub mod Answers
pub mod Chained
pub mod Starting
pub mod Refused
pub mod Examples
pub mod Searches
