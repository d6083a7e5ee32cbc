pub mod ExampleClusters
pub mod ExampleShares
pub mod ExampleProposals
pub mod ExampleCalls
pub mod ExampleRefresh
