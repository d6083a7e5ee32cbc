use Rattle.cap_audit.proofs.Prelude.{◌∷◌, ◌++◌, ap, append_assoc, sym, arith, ◌∙◌, decimal, lacks, IsCut, one_cut}
use Rattle.cap_audit.proofs.Blanks.{broken, lacks-decimal, number_is}
use Rattle.cap_audit.proofs.reading.call_parts.Goals as goal

pub returns-in_default-split_once : goal.returns-in_default-split_once
returns-in_default-split_once c = λ by digits reply small none is.
    let cut : IsCut 32 c.args.bytes.now (decimal by) (digits ++ 32 ∷ reply) = record { whole = is ∙ append_assoc (decimal by) (32 ∷ digits) (32 ∷ reply); first = lacks-decimal by (omega arith) } in
    let same = one_cut 32 c.args.bytes.now c.in-Some.number.now c.in-Some.rest.now (decimal by) (digits ++ 32 ∷ reply) c.in-Some.ensures.found cut in
    broken digits reply (ap (lacks 32) (sym same.1) ∙ c.in_default-split_once.ensures.none)

pub returns-in_default-connection_of : goal.returns-in_default-connection_of
returns-in_default-connection_of c = λ by digits reply small none is.
    let cut : IsCut 32 c.args.bytes.now (decimal by) (digits ++ 32 ∷ reply) = record { whole = is ∙ append_assoc (decimal by) (32 ∷ digits) (32 ∷ reply); first = lacks-decimal by (omega arith) } in
    let same = one_cut 32 c.args.bytes.now c.in-Some.number.now c.in-Some.rest.now (decimal by) (digits ++ 32 ∷ reply) c.in-Some.ensures.found cut in
    let read = c.in_default-connection_of.ensures by small same.0 in
    cc read

pub returns : goal.returns
returns c = λ by digits reply small none is.
    let cut : IsCut 32 c.args.bytes.now (decimal by) (digits ++ 32 ∷ reply) = record { whole = is ∙ append_assoc (decimal by) (32 ∷ digits) (32 ∷ reply); first = lacks-decimal by (omega arith) } in
    let same = one_cut 32 c.args.bytes.now c.in-Some.number.now c.in-Some.rest.now (decimal by) (digits ++ 32 ∷ reply) c.in-Some.ensures.found cut in
    let inner : IsCut 32 c.in-Some.rest.now digits reply = record { whole = same.1; first = none } in (
      number_is c.connection_of.result c.in-Some-connection_of.by by c.in-Some-connection_of.is (c.connection_of.ensures by small same.0),
      (one_cut 32 c.in-Some.rest.now c.in-Some-split_once.digits.now c.in-Some-split_once.field-0-1.now digits reply c.in-Some-split_once.ensures.found inner).0,
    )
