pub mod Items
pub mod ChannelRule
pub mod Sides
pub mod Ends
