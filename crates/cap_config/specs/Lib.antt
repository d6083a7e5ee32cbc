pub mod Bounds
pub mod Index
pub mod Laws
pub mod TreeLaws
pub mod LineKeys
pub mod Details
