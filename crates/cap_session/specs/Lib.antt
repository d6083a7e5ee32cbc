pub mod Answers
pub mod Asked
pub mod Counted
pub mod Kept
pub mod Reading
pub mod Rooms
pub mod Session
