-- What the contracts of `panel_session` cite. Assumes nothing.
pub mod Session
pub mod Answered
