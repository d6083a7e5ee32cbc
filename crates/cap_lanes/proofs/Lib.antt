pub mod Lists
pub mod Moves
mod Prelude
pub mod Tallies
pub mod Puts
pub mod Takes
