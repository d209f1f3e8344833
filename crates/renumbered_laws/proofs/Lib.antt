pub mod Taken
pub mod Numbers
pub mod Accepted
pub mod Same
pub mod Reading
pub mod Again
