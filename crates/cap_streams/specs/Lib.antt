pub mod Backlogs
pub mod Interrupts
pub mod Sends
