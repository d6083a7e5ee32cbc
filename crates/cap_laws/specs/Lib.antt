pub mod EngineLaws
pub mod NewsLaws
pub mod BoundLaws
pub mod Reservations
pub mod RefreshLaws
