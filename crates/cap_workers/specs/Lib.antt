pub mod Worker
pub mod Following
pub mod Committing
pub mod Lanes
pub mod Scheduling
pub mod Idle
