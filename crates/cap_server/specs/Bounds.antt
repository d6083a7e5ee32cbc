-- How large a daemon can be.
use Rattle.std.specs.Prelude.{◌≤◌, IfSome}
use Rattle.cap_server.specs.declared.serving.Sizes.{Sizes}

pub record IsAllowed (sizes : Sizes) : Type 0 where
  pub workers : (1 ≤ sizes.workers) × (sizes.workers ≤ 8)
  pub connections : (1 ≤ sizes.connections) × (sizes.connections ≤ 128)
  pub journal : (1 ≤ sizes.journal) × (sizes.journal ≤ 1000000)
  pub lanes : IfSome sizes.lanes (λ places. (8 ≤ places) × (places ≤ 1024))
  pub drain : IfSome sizes.drain (λ seconds. seconds ≤ 3600)
  pub stats : IfSome sizes.stats (λ seconds. (1 ≤ seconds) × (seconds ≤ 3600))
