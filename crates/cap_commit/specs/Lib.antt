pub mod ClusterState
pub mod Owners
pub mod Admission
pub mod Making
pub mod Waiting
