mod Prelude
pub mod bounds
pub mod calls
pub mod choice
pub mod ending
pub mod lists
pub mod numbers
pub mod telling
pub mod uses
