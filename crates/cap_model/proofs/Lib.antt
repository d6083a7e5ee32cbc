mod Prelude
pub mod SameReplies
pub mod calls
pub mod choice
pub mod lists
pub mod uses
