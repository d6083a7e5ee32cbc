pub mod Blocks
pub mod Copies
pub mod Farming
pub mod Fitting
pub mod Found
pub mod Limited
pub mod LoopSteps
pub mod NextServed
mod Prelude
pub mod Ranging
pub mod Reserving
pub mod Seeing
pub mod Sights
pub mod Waits
