pub mod Calls
pub mod Following
pub mod Journal
pub mod Laws
pub mod Parts
pub mod Passes
pub mod Rooms
pub mod WordRule
