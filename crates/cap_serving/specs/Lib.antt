pub mod Sessions
pub mod Batches
