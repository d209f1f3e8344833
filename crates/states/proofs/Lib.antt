pub mod Numbers
pub mod Places
pub mod Walk
pub mod Laws
