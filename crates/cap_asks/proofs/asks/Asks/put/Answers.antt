use Rattle.cap_asks.proofs.Prelude.{◌≡◌, true, false, ap, sym, ◌∙◌, arith, ◌==◌, nat_tests, inl, HeldAsks}
use Rattle.cap_asks.proofs.Keeping.{placed, is_within, is_within_end, is_removed, is_replaced, is_absent, is_added, kept_put, put_as_seen}
use Rattle.cap_asks.proofs.Impossible.{marked_set, marked_with, marked_without, same_set, same_with, same_without}
use Rattle.cap_asks.proofs.asks.Asks.put.Goals as goal

pub remove-requires : goal.remove-requires
remove-requires g c =
    let seen = ap (λ (a : HeldAsks). a.asks) c.self.view_is in
    let p = placed c.args.ask.now c.self.inside.items.items c.args.self.now.asks c.key.result c.in-Ok-true.index c.count.result true true seen c.key.ensures c.in-Ok-true.ensures.ok c.count.ensures (ap (λ n. n == 0) c.in-Ok-true.is-1) in
    let h = is_within c.args.ask.now c.self.inside.items.items c.in-Ok-true.index c.self.invariant.0 true p in
    omega (arith, h)

pub index_mut-requires : goal.index_mut-requires
index_mut-requires g c =
    let takes : (c.count.result == 0) ≡ false = (let h = c.in-Ok-false.is-1 in grind (arith, nat_tests, h)) in
    let seen = ap (λ (a : HeldAsks). a.asks) c.self.view_is in
    let p = placed c.args.ask.now c.self.inside.items.items c.args.self.now.asks c.key.result c.in-Ok-false.index c.count.result true false seen c.key.ensures c.in-Ok-false.ensures.ok c.count.ensures takes in
    let h = is_within c.args.ask.now c.self.inside.items.items c.in-Ok-false.index c.self.invariant.0 false p in
    omega (arith, h)

pub insert-requires : goal.insert-requires
insert-requires g c =
    let takes : (c.count.result == 0) ≡ false = (let h = c.in-Err-false.is-1 in grind (arith, nat_tests, h)) in
    let seen = ap (λ (a : HeldAsks). a.asks) c.self.view_is in
    let p = placed c.args.ask.now c.self.inside.items.items c.args.self.now.asks c.key.result c.in-Err-false.index c.count.result false false seen c.key.ensures c.in-Err-false.ensures.err c.count.ensures takes in
    let h = is_within_end c.args.ask.now c.self.inside.items.items c.in-Err-false.index c.self.invariant.0 false p in
    omega (arith, h)

pub invariant_of-self : goal.invariant_of-self
invariant_of-self g c =
    let seen = ap (λ (a : HeldAsks). a.asks) c.self.view_is in
    let p = placed c.args.ask.now c.self.inside.items.items c.args.self.now.asks c.key.result c.in-Ok-true.index c.count.result true true seen c.key.ensures c.in-Ok-true.ensures.ok c.count.ensures (ap (λ n. n == 0) c.in-Ok-true.is-1) in
    let within = is_within c.args.ask.now c.self.inside.items.items c.in-Ok-true.index c.self.invariant.0 true p in (
      rw (c.remove.ensures.items ∙ is_removed c.args.ask.now c.self.inside.items.items c.in-Ok-true.index c.self.invariant.0 p) (kept_put c.args.ask.now c.self.inside.items.items c.self.invariant.0),
      rw (c.remove.ensures.items, c.remove-in-Ok-true.ensures.marks) (same_without c.self.inside.impossible.marks c.self.inside.items.items c.in-Ok-true.index c.self.invariant.1 within),
    )

pub invariant_of-self-in-Ok-false : goal.invariant_of-self-in-Ok-false
invariant_of-self-in-Ok-false g c =
    let takes : (c.count.result == 0) ≡ false = (let h = c.in-Ok-false.is-1 in grind (arith, nat_tests, h)) in
    let seen = ap (λ (a : HeldAsks). a.asks) c.self.view_is in
    let p = placed c.args.ask.now c.self.inside.items.items c.args.self.now.asks c.key.result c.in-Ok-false.index c.count.result true false seen c.key.ensures c.in-Ok-false.ensures.ok c.count.ensures takes in (
      rw (is_replaced c.args.ask.now c.self.inside.items.items c.in-Ok-false.index c.self.invariant.0 p) (kept_put c.args.ask.now c.self.inside.items.items c.self.invariant.0),
      rw c.set.ensures.marks (same_set c.self.inside.impossible.marks c.self.inside.items.items c.in-Ok-false.index c.args.impossible c.args.ask.now c.self.invariant.1),
    )

pub set-requires : goal.set-requires
set-requires g c =
    let takes : (c.count.result == 0) ≡ false = (let h = c.in-Ok-false.is-1 in grind (arith, nat_tests, h)) in
    let seen = ap (λ (a : HeldAsks). a.asks) c.self.view_is in
    let p = placed c.args.ask.now c.self.inside.items.items c.args.self.now.asks c.key.result c.in-Ok-false.index c.count.result true false seen c.key.ensures c.in-Ok-false.ensures.ok c.count.ensures takes in
    let h = is_within c.args.ask.now c.self.inside.items.items c.in-Ok-false.index c.self.invariant.0 false p in
    let same = c.self.invariant.1 in
    omega (arith, h, same)

pub insert-requires-in-Err-false-clause-index : goal.insert-requires-in-Err-false-clause-index
insert-requires-in-Err-false-clause-index g c =
    let takes : (c.count.result == 0) ≡ false = (let h = c.in-Err-false.is-1 in grind (arith, nat_tests, h)) in
    let seen = ap (λ (a : HeldAsks). a.asks) c.self.view_is in
    let p = placed c.args.ask.now c.self.inside.items.items c.args.self.now.asks c.key.result c.in-Err-false.index c.count.result false false seen c.key.ensures c.in-Err-false.ensures.err c.count.ensures takes in
    let h = is_within_end c.args.ask.now c.self.inside.items.items c.in-Err-false.index c.self.invariant.0 false p in
    let same = c.self.invariant.1 in
    omega (arith, h, same)

pub invariant_of-self-in-Err-false : goal.invariant_of-self-in-Err-false
invariant_of-self-in-Err-false g c =
    let takes : (c.count.result == 0) ≡ false = (let h = c.in-Err-false.is-1 in grind (arith, nat_tests, h)) in
    let seen = ap (λ (a : HeldAsks). a.asks) c.self.view_is in
    let p = placed c.args.ask.now c.self.inside.items.items c.args.self.now.asks c.key.result c.in-Err-false.index c.count.result false false seen c.key.ensures c.in-Err-false.ensures.err c.count.ensures takes in
    let within = is_within_end c.args.ask.now c.self.inside.items.items c.in-Err-false.index c.self.invariant.0 false p in (
      rw (c.in-Ok.ensures.items ∙ is_added c.args.ask.now c.self.inside.items.items c.in-Err-false.index c.self.invariant.0 p) (kept_put c.args.ask.now c.self.inside.items.items c.self.invariant.0),
      rw (c.in-Ok.ensures.items, c.insert-in-Err-false.ensures.marks) (same_with c.self.inside.impossible.marks c.self.inside.items.items c.in-Err-false.index c.args.impossible c.args.ask.now c.self.invariant.1 within),
    )

pub returns-in-Ok-true-clause-asks : goal.returns-in-Ok-true-clause-asks
returns-in-Ok-true-clause-asks g c =
    let seen = ap (λ (a : HeldAsks). a.asks) c.self.view_is in
    let p = placed c.args.ask.now c.self.inside.items.items c.args.self.now.asks c.key.result c.in-Ok-true.index c.count.result true true seen c.key.ensures c.in-Ok-true.ensures.ok c.count.ensures (ap (λ n. n == 0) c.in-Ok-true.is-1) in
    c.remove.ensures.items ∙ is_removed c.args.ask.now c.self.inside.items.items c.in-Ok-true.index c.self.invariant.0 p ∙ put_as_seen c.args.ask.now seen

pub returns-in-Ok-false-clause-asks : goal.returns-in-Ok-false-clause-asks
returns-in-Ok-false-clause-asks g c =
    let takes : (c.count.result == 0) ≡ false = (let h = c.in-Ok-false.is-1 in grind (arith, nat_tests, h)) in
    let seen = ap (λ (a : HeldAsks). a.asks) c.self.view_is in
    let p = placed c.args.ask.now c.self.inside.items.items c.args.self.now.asks c.key.result c.in-Ok-false.index c.count.result true false seen c.key.ensures c.in-Ok-false.ensures.ok c.count.ensures takes in
    is_replaced c.args.ask.now c.self.inside.items.items c.in-Ok-false.index c.self.invariant.0 p ∙ put_as_seen c.args.ask.now seen

pub returns-in-Err-true-clause-asks : goal.returns-in-Err-true-clause-asks
returns-in-Err-true-clause-asks g c =
    let seen = ap (λ (a : HeldAsks). a.asks) c.self.view_is in
    let p = placed c.args.ask.now c.self.inside.items.items c.args.self.now.asks c.key.result _ c.count.result false true seen c.key.ensures c.in-Err-true.ensures.err c.count.ensures (ap (λ n. n == 0) c.in-Err-true.is-1) in
    sym seen ∙ is_absent c.args.ask.now c.self.inside.items.items _ c.self.invariant.0 p ∙ put_as_seen c.args.ask.now seen

pub returns-in-Ok-clause-asks : goal.returns-in-Ok-clause-asks
returns-in-Ok-clause-asks g c =
    let takes : (c.count.result == 0) ≡ false = (let h = c.in-Err-false.is-1 in grind (arith, nat_tests, h)) in
    let seen = ap (λ (a : HeldAsks). a.asks) c.self.view_is in
    let p = placed c.args.ask.now c.self.inside.items.items c.args.self.now.asks c.key.result c.in-Err-false.index c.count.result false false seen c.key.ensures c.in-Err-false.ensures.err c.count.ensures takes in
    c.in-Ok.ensures.items ∙ is_added c.args.ask.now c.self.inside.items.items c.in-Err-false.index c.self.invariant.0 p ∙ put_as_seen c.args.ask.now seen

pub returns-in-Ok-true-clause-impossible : goal.returns-in-Ok-true-clause-impossible
returns-in-Ok-true-clause-impossible g c =
    rw (c.remove.ensures.items, c.remove-in-Ok-true.ensures.marks, ← c.self.view_is) (λ want m. inl (marked_without c.self.inside.impossible.marks c.self.inside.items.items c.in-Ok-true.index want m))

pub returns-in-Ok-false-clause-impossible : goal.returns-in-Ok-false-clause-impossible
returns-in-Ok-false-clause-impossible g c =
    rw (c.set.ensures.marks, ← c.self.view_is) (marked_set c.self.inside.impossible.marks c.self.inside.items.items c.in-Ok-false.index c.args.impossible c.args.ask.now)

pub returns-in-Ok-clause-impossible : goal.returns-in-Ok-clause-impossible
returns-in-Ok-clause-impossible g c =
    let takes : (c.count.result == 0) ≡ false = (let h = c.in-Err-false.is-1 in grind (arith, nat_tests, h)) in
    let seen = ap (λ (a : HeldAsks). a.asks) c.self.view_is in
    let p = placed c.args.ask.now c.self.inside.items.items c.args.self.now.asks c.key.result c.in-Err-false.index c.count.result false false seen c.key.ensures c.in-Err-false.ensures.err c.count.ensures takes in
    let within = is_within_end c.args.ask.now c.self.inside.items.items c.in-Err-false.index c.self.invariant.0 false p in
    rw (c.in-Ok.ensures.items, c.insert-in-Err-false.ensures.marks, ← c.self.view_is) (marked_with c.self.inside.impossible.marks c.self.inside.items.items c.in-Err-false.index c.args.impossible c.args.ask.now c.self.invariant.1 within)
