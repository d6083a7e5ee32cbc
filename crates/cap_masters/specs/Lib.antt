pub mod Processed
