mod Prelude
mod ServedRequests
mod Starving
mod Tables
mod Working
pub mod Lawful
pub mod Keeping
pub mod Heard
pub mod Running
pub mod Promises
