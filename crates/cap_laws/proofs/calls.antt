-- The cases of a step, and what calls and steps change of applications, containers and nodes.
pub mod Steps
pub mod Lessening
pub mod Moves
pub mod Registering
pub mod Refreshing
