use Rattle.cap_copy.proofs.Prelude.{◌≡◌, ℕ, ◌+◌, ◌<◌, false, Some, slice_get, Ask, same_key, app_nth}
use Rattle.cap_copy.proofs.farm.SnapshotFarm.ask_of.Given as goal

-- the asks so far have other keys
abbrev pub invariant-loop-index : goal.invariant-loop-index
invariant-loop-index g l = (k : ℕ) (ask : Ask) → l.initial.index + k < l.index → slice_get (app_nth l.self.waiting l.of).asks k ≡ Some ask → same_key ask.key l.key ≡ false
