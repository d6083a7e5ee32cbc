mod Logs
mod Prelude
mod Reading
mod Owing
pub mod Answering
mod SessionSteps
pub mod Continuing
mod Unanswered
mod Bytes
