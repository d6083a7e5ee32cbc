use Rattle.cap_live.proofs.Prelude.{IsTurn, sight_of, IsIdle}
use Rattle.cap_live.proofs.live.LiveFarm.next_reserved.Given as goal

abbrev pub invariant-loop-next : goal.invariant-loop-next
invariant-loop-next g l = IsTurn (IsIdle (sight_of l.self.flat)) (sight_of l.self.flat).nodes l.first l.turn l.next
