use Rattle.std.proofs.Common.{refl, arith}
use Rattle.cap_nodes.proofs.present.Present.new.Goals as goal

pub invariant_of-result : goal.invariant_of-result
invariant_of-result g c =
    rw (c.new.ensures.empty, c.new-2.ensures)
    (record { tagged = refl; rising = omega arith; few = omega arith }, record { hosts = record { counts = λ t. refl; texts = λ t e. refl }; racks = record { counts = λ t. refl; texts = λ t e. refl } }, tt)
