use Rattle.cap_choice.proofs.Prelude.{◌-◌, ◌≤◌, length, IsPassed}
use Rattle.cap_choice.proofs.choice.first_taker.Given as goal

abbrev pub invariant-loop-turn : goal.invariant-loop-turn
invariant-loop-turn g l = (l.turn ≤ length (g.F.Farm.sight l.farm).nodes) × IsPassed (g.F.Farm.sight l.farm) l.first l.turn (record { app = g.F.Farm.shown l.farm l.fn.app; ask = l.ask })

abbrev pub decreases-loop-turn : goal.decreases-loop-turn
decreases-loop-turn g l = l.end - l.turn
