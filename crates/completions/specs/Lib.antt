pub mod Either
pub mod Operations
pub mod Examples
pub mod Forms
