use Rattle.cap_copy.proofs.Prelude.{arith}
use Rattle.cap_copy.proofs.farm.SnapshotFarm.next_possible.Goals as goal

pub returns : goal.returns
returns g c = record { later = omega arith; within = c.requires.from; passed = λ index ask late early. absurd (omega (arith, late, early)) }
