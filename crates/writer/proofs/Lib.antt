pub mod Forms
pub mod Texts
pub mod RoundTrip
