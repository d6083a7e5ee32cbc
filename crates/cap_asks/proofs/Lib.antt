pub mod AtLeast
pub mod Entries
pub mod Keeping
pub mod KeptAsks
pub mod Impossible
pub mod Changing
pub mod NodeCame
mod Prelude
pub mod Slots
pub mod Telling
pub mod Waiters
