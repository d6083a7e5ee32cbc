pub mod Apps
pub mod Accounts
pub mod Changes
pub mod Impossible
