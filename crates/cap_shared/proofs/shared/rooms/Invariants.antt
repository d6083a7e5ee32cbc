use Rattle.cap_shared.proofs.Prelude.{◌≡◌, ◌-◌, ◌≤◌, [], true, vec_capacity, view_of, fresh}
use Rattle.cap_shared.proofs.shared.rooms.Given as goal

-- the seats so far, and the pass sits for the others
abbrev pub invariant-loop-number : goal.invariant-loop-number
invariant-loop-number g l = record {
  same : l.pass.table_id ≡ g.J.Naming.table;
  me : l.pass.me ≡ (view_of true [] (fresh l.number (l.count - l.number)), []);
  seats : l.seats.items ≡ fresh 0 l.number;
  room : l.count ≤ vec_capacity l.seats;
}
