use Rattle.cap_tree.proofs.Prelude.{arith, inl, inr}
use Rattle.cap_tree.specs.Measure.{Measure}
use Rattle.cap_tree.proofs.change.WaitChangeQueue.change_at.Goals as goal

pub wait_at-requires : goal.wait_at-requires
wait_at-requires g c = (
  (search),
  (
    elim (c.requires.within Measure.waiting) [ inl none ↦ absurd (omega (arith, none)) | inr most ↦ omega (arith, most) ],
    (c.requires.can.numbers, (c.requires.can.other, c.requires.can.room)),
  ),
)
