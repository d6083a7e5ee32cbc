pub mod Offers
pub mod Ring
pub mod Rooms
pub mod Service
