pub mod Codes
pub mod Waiters
