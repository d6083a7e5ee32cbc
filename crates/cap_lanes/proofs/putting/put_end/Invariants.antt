use Rattle.cap_lanes.proofs.Prelude.{◌≡◌, sends_on, view, IsOpen}
use Rattle.cap_lanes.proofs.putting.put_end.Given as goal

-- nothing was put yet
abbrev pub invariant-loop : goal.invariant-loop
invariant-loop g l = record {
  is : IsOpen (sends_on l.back) l.worker l.pass;
  same : view l.pass ≡ view l.fn.pass;
}
