use Rattle.cap_choice.proofs.Prelude.{◌-◌, ◌≤◌, length, IsNearestUpTo}
use Rattle.cap_choice.proofs.choice.nearer_taker.Given as goal

abbrev pub invariant-loop-from : goal.invariant-loop-from
invariant-loop-from g l = (l.from ≤ length (g.F.Farm.shown l.farm l.app).asks) × IsNearestUpTo (g.F.Farm.sight l.farm) l.first (g.F.Farm.shown l.farm l.app) l.from l.nearest.turn l.nearest.proposal

abbrev pub decreases-loop-from : goal.decreases-loop-from
decreases-loop-from g l = l.asks - l.from
