pub mod Tables
pub mod Counting
pub mod Loads
pub mod Places
pub mod Changes
