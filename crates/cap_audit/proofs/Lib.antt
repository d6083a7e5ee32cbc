mod Prelude
pub mod Truth
pub mod Pieces
pub mod Blanks
pub mod Onwards
pub mod Steps
pub mod Faults
