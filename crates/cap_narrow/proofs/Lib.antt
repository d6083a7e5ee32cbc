pub mod Lists
mod Prelude
pub mod Vectors
pub mod Sights
pub mod Reasons
pub mod Choices
pub mod Changes
pub mod Asking
pub mod Refreshing
pub mod Refusals
pub mod Calls
pub mod Steps
pub mod Words
pub mod Gpus
pub mod Examples
