use Rattle.cap_audit.proofs.Prelude.{inl, inr, ap, ◌∙◌, decode_of, decode_of-encode_lower}
use Rattle.cap_audit.proofs.Onwards.{unsaid}
use Rattle.cap_audit.proofs.reading.decoded.Goals as goal

pub returns : goal.returns
returns c = λ bytes are is.
    let read = ap decode_of is ∙ decode_of-encode_lower bytes are in
    cc (read, c.in-Ok.ensures.ok)

pub returns-in-Err : goal.returns-in-Err
returns-in-Err c = λ bytes are is.
    let read = ap decode_of is ∙ decode_of-encode_lower bytes are in
    elim c.in-Err.ensures.err [
      | inl full ↦ unsaid c.stop_of_digits.result ⊥ (c.stop_of_digits.ensures full)
      | inr other ↦ absurd (cc (read, other))
    ]
