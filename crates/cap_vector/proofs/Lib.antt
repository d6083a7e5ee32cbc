pub mod AmountLemmas
pub mod ShareLemmas
