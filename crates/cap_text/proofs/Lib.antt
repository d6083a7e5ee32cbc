pub mod Cuts
mod Prelude
pub mod Trims
pub mod Digits
