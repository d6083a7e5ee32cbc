-- What queues and users use, over trees and over runs.
pub mod Parents
pub mod Tallies
pub mod TreeSums
pub mod UseSums
pub mod Counting
pub mod Idle
