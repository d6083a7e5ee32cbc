use Rattle.cap_choice.proofs.Prelude.{IsNearestBefore, IsWaiter, option_map}
use Rattle.std.specs.Prelude.{IfSome}
use Rattle.cap_choice.proofs.Walking.{apps_left}
use Rattle.cap_choice.proofs.choice.nearest_taker.Given as goal

abbrev pub invariant-loop-next : goal.invariant-loop-next
invariant-loop-next g l = record {
  near : IsNearestBefore (g.F.Farm.sight l.farm) l.first (option_map (g.F.Farm.shown l.farm) l.next) l.nearest.turn l.nearest.proposal;
  has : IfSome l.next (λ app. g.F.Farm.has l.farm app);
  served : IfSome l.next (λ app. g.F.Farm.served l.farm app);
  waits : IfSome l.next (λ app. IsWaiter (g.F.Farm.sight l.farm) (g.F.Farm.shown l.farm app));
}

abbrev pub decreases-loop-next : goal.decreases-loop-next
decreases-loop-next g l = apps_left (g.F.Farm.sight l.farm) (option_map (g.F.Farm.shown l.farm) l.next)
