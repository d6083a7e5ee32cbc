pub mod Paths
pub mod Said
