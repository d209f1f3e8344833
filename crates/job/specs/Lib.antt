pub mod Query
pub mod Replies
pub mod Job
