pub mod Crossing
pub mod Entering
pub mod Following
pub mod Lists
pub mod Moves
pub mod Pasts
mod Prelude
