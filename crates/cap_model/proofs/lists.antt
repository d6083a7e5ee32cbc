-- Lists of what is numbered, in order of number.
pub mod Numbered
