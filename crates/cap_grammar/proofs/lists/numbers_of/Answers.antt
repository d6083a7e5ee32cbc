use Rattle.cap_grammar.proofs.Prelude.{[], refl, length, length-append, ap, ◌∙◌, arith, nat_le, w16, w64, number_at, numbers_max}
use Rattle.cap_grammar.proofs.ItemLaws.{has_items}
use Rattle.cap_grammar.proofs.ListLaws.{counted_start, counted_fails, more_step, more_fails, more_ends}
use Rattle.cap_grammar.proofs.lists.numbers_of.Goals as goal

pub returns-in_default-clause-gives : goal.returns-in_default-clause-gives
returns-in_default-clause-gives c = counted_fails (number_at w64) (number_at w16) numbers_max _ c.in_default.ensures.gives.1

pub loop-i-init : goal.loop-i-init
loop-i-init c = record { rest = counted_start (number_at w64) (number_at w16) numbers_max _ _ _ _ c.in-Ok.ensures.gives c.in-Ok-with_capacity.ensures.items; count = (let none = c.in-Ok-with_capacity.ensures.items in ap length none) }

pub returns-in_default-u64_of-clause-gives : goal.returns-in_default-u64_of-clause-gives
returns-in_default-u64_of-clause-gives c = more_fails (number_at w64) _ _ c.in-Ok.length c.loop-i.i _ c.loop-i.invariant.rest (omega (arith, c.loop-i-test.true)) c.in_default-u64_of.ensures.1

pub loop-i-preserved : goal.loop-i-preserved
loop-i-preserved c = record {
  rest = more_step (number_at w64) _ _ _ c.in-Ok.length c.loop-i.i _ _ _ c.loop-i.invariant.rest (omega (arith, c.loop-i-test.true)) c.in-Ok-u64_of.ensures c.in-Ok-push.ensures.items;
  count = (let items = c.in-Ok-push.ensures.items in let so_far = c.loop-i.invariant.count in let more = ap length items ∙ length-append c.loop-i.numbers.items _ in omega (arith, so_far, more));
}

pub returns-in-Ok-of-clause-gives : goal.returns-in-Ok-of-clause-gives
returns-in-Ok-of-clause-gives c = rw c.in-Ok-of.ensures (more_ends (number_at w64) _ _ c.in-Ok.length c.loop-i.i _ c.loop-i.invariant.rest (omega (arith, c.loop-i-test.false)))

pub returns-then-length-eq0-clause-gives : goal.returns-then-length-eq0-clause-gives
returns-then-length-eq0-clause-gives c =
    let none = c.if-length-eq0.true in
    rw c.empty.ensures (more_ends (number_at w64) _ [] c.in-Ok.length 0 _ (counted_start (number_at w64) (number_at w16) numbers_max _ c.in-Ok.length _ [] c.in-Ok.ensures.gives refl) (omega (arith, none)))

pub returns-in_default-with_capacity-clause-memory : goal.returns-in_default-with_capacity-clause-memory
returns-in_default-with_capacity-clause-memory c = λ is. has_items w16 (λ n. nat_le n numbers_max) c.args.bytes.now c.in-Ok.length _ c.in-Ok.ensures.gives (let some = c.if-length-eq0.false in omega (arith, some))

pub returns-in_default-push-clause-memory : goal.returns-in_default-push-clause-memory
returns-in_default-push-clause-memory c = λ is. has_items w16 (λ n. nat_le n numbers_max) c.args.bytes.now c.in-Ok.length _ c.in-Ok.ensures.gives (let some = c.if-length-eq0.false in omega (arith, some))
