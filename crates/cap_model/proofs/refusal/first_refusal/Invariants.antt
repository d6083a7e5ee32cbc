use Rattle.cap_model.proofs.Prelude.{◌≡◌, drop, earliest}
use Rattle.cap_model.proofs.refusal.first_refusal.Given as goal

-- no test so far holds
abbrev pub invariant-loop-holds : goal.invariant-loop-holds
invariant-loop-holds l = earliest l.tests ≡ earliest (drop l.holds-index l.tests)
