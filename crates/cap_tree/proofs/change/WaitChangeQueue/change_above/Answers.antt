use Rattle.cap_tree.proofs.Prelude.{arith, inl, inr}
use Rattle.cap_tree.specs.Measure.{Measure}
use Rattle.cap_tree.proofs.change.WaitChangeQueue.change_above.Goals as goal

pub wait_above-requires : goal.wait_above-requires
wait_above-requires g c = ((search), elim (c.requires.within Measure.waiting) [ inl none ↦ absurd (omega (arith, none)) | inr most ↦ omega (arith, most) ])
