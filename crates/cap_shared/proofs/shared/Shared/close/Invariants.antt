use Rattle.cap_shared.proofs.Prelude.{◌≡◌, ◌≤◌, [], ◌++◌, map, true, vec_capacity, view_of, AllHonest, report_of}
use Rattle.cap_shared.proofs.shared.Shared.close.Given as goal

-- the pass sits for the seats so far, and their reports are kept
abbrev pub invariant-loop-seat : goal.invariant-loop-seat
invariant-loop-seat g l = record {
  same : l.pass.table_id ≡ g.J.Naming.table;
  me : l.pass.me ≡ (view_of true l.journal.items l.yielded, []);
  all : l.yielded ++ l.seat-iterator.rest.items ≡ l.fn.seats.items;
  reports : l.room.items ≡ map report_of l.yielded;
  honest : AllHonest g.J.Naming.opening g.J.Naming.limit l.yielded;
  room : g.J.Naming.seats ≤ vec_capacity l.room;
}
