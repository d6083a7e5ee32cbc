mod Prelude
pub mod Admitting
pub mod Choosing
pub mod Converting
pub mod Passing
pub mod Reading
pub mod Ring
pub mod Unique
pub mod Walking
