pub mod Kept
pub mod Cone
pub mod Marks
pub mod Rooms
