pub mod Apps
pub mod Asks
pub mod Limits
pub mod Nodes
mod Prelude
pub mod Shutting
pub mod Sizes
pub mod Tied
