pub mod Narrowing
pub mod Clusters
pub mod VectorLaws
pub mod ClusterLaws
pub mod Steps
pub mod Gpus
pub mod Example
