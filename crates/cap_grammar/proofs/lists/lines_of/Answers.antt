use Rattle.cap_grammar.proofs.Prelude.{◌∙◌, refl, arith, w32, number_at, text_max, byte_at}
use Rattle.cap_grammar.proofs.ListLaws.{counted_fails, counted_bytes, counted_missing}
use Rattle.cap_grammar.proofs.lists.lines_of.Goals as goal

pub returns-in_default-clause-gives : goal.returns-in_default-clause-gives
returns-in_default-clause-gives c = counted_fails byte_at (number_at w32) text_max _ c.in_default.ensures.gives.1

pub returns-then-rest-size-clause-gives : goal.returns-then-rest-size-clause-gives
returns-then-rest-size-clause-gives c = counted_missing (number_at w32) text_max _ _ _ c.in-Ok.ensures.gives c.if-rest-size.true

pub returns-then-size-eq0-clause-gives : goal.returns-then-size-eq0-clause-gives
returns-then-size-eq0-clause-gives c =
    let none = c.if-size-eq0.true in
    let whole = counted_bytes (number_at w32) text_max _ _ _ c.in-Ok.ensures.gives (omega (arith, none)) in
    rw (c.empty.ensures, c.split_at.ensures.back, none) (whole ∙ rw none refl)

pub returns-in-Ok-of-clause-gives : goal.returns-in-Ok-of-clause-gives
returns-in-Ok-of-clause-gives c =
    let long = c.if-rest-size.false in
    let whole = counted_bytes (number_at w32) text_max _ _ _ c.in-Ok.ensures.gives (omega (arith, long)) in
    rw (c.in-Ok-of.ensures, c.in-Ok-extend_from_slice.ensures.items, c.new-text.ensures.items, c.split_at.ensures.front, c.split_at.ensures.back) whole
