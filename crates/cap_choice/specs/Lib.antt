pub mod Admitting
pub mod Nearest
pub mod Sizes
pub mod Unique
