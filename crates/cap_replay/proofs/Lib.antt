pub mod Commands
mod Prelude
pub mod Results
pub mod Making
pub mod Scripts
pub mod Lines
pub mod Reading
