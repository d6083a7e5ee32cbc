use Rattle.cap_text.proofs.Prelude.{arith, nat_tests}
use Rattle.cap_text.proofs.Trims.{front_trimmed}
use Rattle.cap_text.proofs.trim.from_first_word.Goals.{then-loop-start-test+else-bytes-start-eq32, else-loop-start-test}
use Rattle.cap_text.proofs.trim.from_first_word.Goals as goal

pub returns : goal.returns
returns c = front_trimmed c.args.bytes.now c.loop-start.start c.loop-start.invariant.within c.loop-start.invariant.spaces
    (λ h. elim c.loop-start-test.branch [
      | then-loop-start-test+else-bytes-start-eq32 w ↦ grind (arith, nat_tests)
      | else-loop-start-test w ↦ absurd (omega arith)
    ])
