-- Containers that end one after the other, and those that some numbers name.
pub mod EndsInOrder
pub mod NamedEnds
pub mod EndsLeft
