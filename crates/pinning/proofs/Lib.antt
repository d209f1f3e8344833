pub mod Tables
pub mod Stores
pub mod Contents
pub mod Fresh
pub mod Tests
pub mod Free
pub mod FromPlace
