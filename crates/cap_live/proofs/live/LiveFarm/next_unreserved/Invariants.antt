use Rattle.cap_live.proofs.Prelude.{IsTurn, sight_of, IsReserved}
use Rattle.cap_live.proofs.live.LiveFarm.next_unreserved.Given as goal

abbrev pub invariant-loop-next : goal.invariant-loop-next
invariant-loop-next g l = IsTurn IsReserved (sight_of l.self.flat).nodes l.first l.turn l.next
