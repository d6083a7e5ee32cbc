use Rattle.std.specs.Prelude.{◌-◌, ◌≤◌, length}
use Rattle.cap_choice.proofs.Ring.{NoneBefore}
use Rattle.cap_choice.proofs.choice.propose_on.Given as goal

abbrev pub invariant-loop-turn : goal.invariant-loop-turn
invariant-loop-turn g l = (l.turn ≤ length (g.F.Farm.sight l.farm).nodes) × NoneBefore (g.F.Farm.sight l.farm) l.first l.turn l.nearest.turn

abbrev pub decreases-loop-turn : goal.decreases-loop-turn
decreases-loop-turn g l = l.nearest.turn - l.turn
