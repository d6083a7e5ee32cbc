mod Prelude
pub mod Spelled
pub mod Calls
pub mod Answered
pub mod Worlds
