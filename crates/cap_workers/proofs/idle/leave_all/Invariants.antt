use Rattle.cap_workers.proofs.Prelude.{◌≡◌, ◌+◌, length, map, ◌++◌}
use Rattle.std.specs.List.{All}
use Rattle.cap_workers.specs.Idle.{AllFollowed, HasSpell}
use Rattle.cap_workers.specs.Scheduling.{spell}
use Rattle.cap_workers.proofs.idle.leave_all.Given as goal

-- those who have left so far
abbrev pub invariant-loop-one : goal.invariant-loop-one
invariant-loop-one g l = record {
  all : l.yielded ++ l.one-iterator.rest.items ≡ l.fn.scheduled.items;
  count : length l.seats.items ≡ length l.fn.seats.items + length l.yielded;
  work : All (HasSpell g.J.Naming.opening g.J.Naming.limit l.seats.items l.lanes.items) (map spell l.yielded);
  followed : AllFollowed l.seats.items l.leaving.items;
  back : map (λ w. w.0) l.leaving.items ≡ map (λ w. w.worker) l.yielded;
}
