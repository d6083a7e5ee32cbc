-- Steps and runs keep a cluster well-formed and within its bounds.
pub mod BoundedRuns
pub mod CallBounds
pub mod Formed
pub mod Growing
pub mod PartBounds
pub mod ReservedAfter
pub mod Risen
pub mod Reserving
pub mod Sizes
pub mod StepBounds
pub mod Wanting
pub mod KeptReservations
pub mod ReservedNodes
