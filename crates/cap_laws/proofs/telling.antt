-- Grants and ends are told in order, each once, over steps and runs.
pub mod EndsOfEnded
pub mod News
pub mod Telling
pub mod ToldRuns
pub mod Replying
