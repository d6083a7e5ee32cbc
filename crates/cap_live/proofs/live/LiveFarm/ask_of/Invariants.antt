use Rattle.cap_live.proofs.Prelude.{◌≡◌, ◌<◌, ℕ, false, Some, slice_get, Ask, same_key}
use Rattle.cap_live.proofs.live.LiveFarm.ask_of.Given as goal

-- the asks so far have other keys
abbrev pub invariant-loop-index : goal.invariant-loop-index
invariant-loop-index g l = (i : ℕ) (ask : Ask) → i < l.index → slice_get l.of.app.asks i ≡ Some ask → same_key ask.key l.key ≡ false
