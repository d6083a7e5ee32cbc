-- Proposals: their reasons to be rejected, their ranks, and the choice among them.
pub mod Choosing
pub mod Proposers
pub mod Ranks
pub mod Reasons
