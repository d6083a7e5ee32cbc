pub mod Amounts
pub mod Levels
mod Prelude
pub mod lists
pub mod paths
