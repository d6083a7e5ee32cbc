pub mod Script
pub mod Settings
pub mod World
pub mod Streams
pub mod Progress
pub mod Print
pub mod Status
