use Rattle.cap_copy.proofs.Prelude.{IsIdle, IsTurn, sight_in}
use Rattle.cap_copy.proofs.farm.SnapshotFarm.next_reserved.Given as goal

abbrev pub invariant-loop-next : goal.invariant-loop-next
invariant-loop-next g l = IsTurn (IsIdle (sight_in g.row.K l.self)) l.self.nodes l.first l.turn l.next
