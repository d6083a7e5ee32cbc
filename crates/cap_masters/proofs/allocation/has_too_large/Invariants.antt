use Rattle.cap_masters.proofs.Prelude.{◌≡◌, drop, list_any, is_too_large}
use Rattle.cap_masters.proofs.allocation.has_too_large.Given as goal

abbrev pub invariant-loop-ask : goal.invariant-loop-ask
invariant-loop-ask g l = list_any (is_too_large l.cluster.flat) l.asks ≡ list_any (is_too_large l.cluster.flat) (drop l.ask-index l.asks)
