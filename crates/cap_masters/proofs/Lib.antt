mod Prelude
pub mod Processing
pub mod TooLarge
pub mod Refused
pub mod Submitting
