use Rattle.cap_lanes.proofs.Prelude.{◌≡◌, ℕ, [], slice_get, Some, false, true, receives_on, view, IsSeatAt, puts_in, taker, Flags}
use Rattle.cap_lanes.proofs.taking.take_next.Given as goal

-- ends alone were taken so far
abbrev pub invariant-loop : goal.invariant-loop
invariant-loop g l = record {
  seat : IsSeatAt (receives_on l.front) l.pass;
  table : l.pass.table_id ≡ l.fn.pass.table_id;
  key : l.pass.me.0.of ≡ l.fn.pass.me.0.of;
  takes : view l.pass ≡ taker (view l.pass).took [];
  flags : Flags l.over (view l.pass).took;
  same : puts_in (view l.pass).took ≡ puts_in (view l.fn.pass).took;
  kept : (w : ℕ) → slice_get l.fn.over w ≡ Some true → slice_get l.over w ≡ Some true;
  later : (w : ℕ) → slice_get l.over w ≡ Some false → slice_get l.fn.over w ≡ Some false;
}
