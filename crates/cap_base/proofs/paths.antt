-- Dotted paths, the levels of queues, and lists of queues that are trees.
pub mod Levels
pub mod Listed
pub mod Paths
pub mod Trees
