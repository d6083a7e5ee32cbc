use Rattle.cap_text.proofs.Prelude.{arith, nat_tests}
use Rattle.cap_text.proofs.Trims.{end_trimmed}
use Rattle.cap_text.proofs.trim.to_last_word.Goals.{then-loop-end-test+else-bytes-end-eq32, else-loop-end-test}
use Rattle.cap_text.proofs.trim.to_last_word.Goals as goal

pub returns : goal.returns
returns c = end_trimmed c.args.bytes.now c.loop-end.end c.loop-end.invariant.within c.loop-end.invariant.spaces
    (λ h. elim c.loop-end-test.branch [
      | then-loop-end-test+else-bytes-end-eq32 w ↦ grind (arith, nat_tests)
      | else-loop-end-test w ↦ absurd (omega arith)
    ])
