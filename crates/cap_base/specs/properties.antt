-- Property lines: what they set, their first fault, and the settings that they make.
pub mod Fault
pub mod Keys
pub mod Seen
pub mod Values
pub mod Entries
pub mod Queues
pub mod Tests
pub mod Rows
pub mod First
