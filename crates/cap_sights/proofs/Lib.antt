pub mod Alike
pub mod Fitting
pub mod Sighting
