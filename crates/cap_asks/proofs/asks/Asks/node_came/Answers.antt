use Rattle.cap_asks.proofs.Prelude.{◌≡◌, ap, sym, refl, ◌∙◌, arith, length, ◌+◌, ◌<◌, get_or, subst, slice_get_read, nat_tests, IsIn}
use Rattle.cap_asks.proofs.Impossible.{AreSeenTo, all_seen, none_marked, one_fits, seen_gone, seen_kept}
use Rattle.cap_asks.proofs.asks.Asks.node_came.Goals as goal
use Rattle.cap_asks.proofs.asks.Asks.node_came.Goals.{then-could_take, else-could_take}

pub could_take-requires : goal.could_take-requires
could_take-requires g c =
    let items = c.loop-index.invariant.items in
    let same = ap length (c.as_slice-items.ensures.value ∙ ap (λ v. v.items) items) in
    let below = c.loop-index-test.true in
    let end = c.len-index-end.ensures in
    let ok = c.self.inside.items.ok.0 in
    let whole = one_fits (length c.as_slice-items.result.now) _ _ (omega (arith, same, below, end, ok)) c.as_slice-items.type_inv.1 in
    (whole, omega (arith, whole))

pub loop-index-preserved : goal.loop-index-preserved
loop-index-preserved g c =
    let items = c.self.inside.items.items in
    let host = c.args.host.now in
    let rack = c.args.rack.now in
    let total = c.args.total.now in
    let before = c.loop-index.invariant in
    let there = c.as_slice-items.ensures.value ∙ ap (λ v. v.items) before.items in
    let below = c.loop-index-test.true in
    let end = c.len-index-end.ensures in
    let ok = c.self.inside.items.ok.0 in
    let marks = before.seen.count in
    let owns = c.self.invariant.1 in
    let within : c.loop-index.index < length items = omega (arith, below, end, ok) in
    let at = slice_get_read items (length items) c.loop-index.index c.index-items-index.result refl within (c.index-items-index.is ∙ ap (λ xs. get_or xs c.loop-index.index c.index-items-index.result) there) in
    elim c.if-could_take.branch [
      | then-could_take w ↦ record {
        seen = subst (λ ms. AreSeenTo host rack total ms c.self.inside.impossible.marks items (c.loop-index.index + 1)) (sym w.set.ensures.marks ∙ ap (λ s. s.impossible.marks) (sym w.self-inside-is)) (seen_gone host rack total c.loop-index.self-inside.impossible.marks c.self.inside.impossible.marks items c.loop-index.index (omega (arith, within, marks, owns)) before.seen);
        items = ap (λ s. s.items) w.self-inside-is ∙ before.items;
        room = ap (λ s. s.impossible.room) w.self-inside-is ∙ w.set.ensures.room ∙ before.room;
      }
      | else-could_take w ↦ record {
        seen = subst (λ ms. AreSeenTo host rack total ms c.self.inside.impossible.marks items (c.loop-index.index + 1)) (ap (λ s. s.impossible.marks) (sym w.self-inside-is)) (seen_kept host rack total c.loop-index.self-inside.impossible.marks c.self.inside.impossible.marks items c.loop-index.index c.index-items-index.result at (sym c.could_take.ensures ∙ w.if-could_take.false) before.seen);
        items = ap (λ s. s.items) w.self-inside-is ∙ before.items;
        room = ap (λ s. s.impossible.room) w.self-inside-is ∙ before.room;
      }
    ]

pub returns-clause-impossible : goal.returns-clause-impossible
returns-clause-impossible g c =
    let before = c.loop-index.invariant in
    let test = c.loop-index-test.false in
    let end = c.len-index-end.ensures in
    let ok = c.self.inside.items.ok.0 in
    let i : c.loop-index.index ≡ length c.self.inside.items.items = omega (arith, test, end, ok) in
    rw (ap (λ v. v.items) before.items, ← c.self.view_is) (all_seen c.args.host.now c.args.rack.now c.args.total.now c.loop-index.self-inside.impossible.marks c.self.inside.impossible.marks c.self.inside.items.items (subst (AreSeenTo c.args.host.now c.args.rack.now c.args.total.now c.loop-index.self-inside.impossible.marks c.self.inside.impossible.marks c.self.inside.items.items) i before.seen))

pub returns-then-count-eq0-clause-impossible : goal.returns-then-count-eq0-clause-impossible
returns-then-count-eq0-clause-impossible g c want m =
    let count = c.count.ensures in
    let none = c.if-count-eq0.true in
    absurd (subst (IsIn want) (none_marked c.self.inside.impossible.marks c.self.inside.items.items (grind (arith, nat_tests, count, none))) (rw (← c.self.view_is) at m))
