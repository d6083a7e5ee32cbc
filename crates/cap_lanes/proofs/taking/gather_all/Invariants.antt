use Rattle.cap_lanes.proofs.Prelude.{◌≡◌, List, ◌++◌, array_into_iter_items, sends_on, view, IsSeatAt, Lane, taker, Alike}
use Rattle.cap_lanes.proofs.taking.gather_all.Given as goal

-- the lanes of those that came
abbrev pub invariant-loop-e : goal.invariant-loop-e
invariant-loop-e l = record {
  seat : IsSeatAt (sends_on l.back) l.pass;
  table : l.pass.table_id ≡ l.fn.pass.table_id;
  key : l.pass.me.0.of ≡ l.fn.pass.me.0.of;
  lanes : (ls : List Lane) × (view l.pass ≡ taker (view l.fn.pass).took ls) × Alike ls l.yielded;
  all : l.yielded ++ array_into_iter_items l.e-iterator ≡ l.fn.ended;
}
