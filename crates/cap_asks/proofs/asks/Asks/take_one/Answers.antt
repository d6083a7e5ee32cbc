use Rattle.cap_asks.proofs.Prelude.{◌≡◌, ◌-◌, ap, sym, ◌∙◌, arith, length, get_or, length-set, refl, slice_get_read, take_one, HeldAsks}
use Rattle.cap_asks.proofs.Keeping.{is_taken, stands_within, last_taken, fewer_taken, kept_taken, taken_wanted, none_there}
use Rattle.cap_asks.specs.Impossible.{want_of}
use Rattle.cap_asks.proofs.Impossible.{marked_same, marked_without, one_fits, same_without}
use Rattle.cap_asks.proofs.asks.Asks.take_one.Goals as goal

pub remove-requires : goal.remove-requires
remove-requires g c =
    let seen = ap (λ (a : HeldAsks). a.asks) c.self.view_is in
    let h = stands_within c.args.key.now c.self.inside.items.items c.args.self.now.asks c.in-Ok.index c.self.invariant.0 seen c.in-Ok.ensures.ok in
    omega (arith, h)

pub index_mut-requires : goal.index_mut-requires
index_mut-requires g c =
    let seen = ap (λ (a : HeldAsks). a.asks) c.self.view_is in
    let h = stands_within c.args.key.now c.self.inside.items.items c.args.self.now.asks c.in-Ok.index c.self.invariant.0 seen c.in-Ok.ensures.ok in
    omega (arith, h)

pub invariant_of-self : goal.invariant_of-self
invariant_of-self g c =
    let seen = ap (λ (a : HeldAsks). a.asks) c.self.view_is in
    let t = is_taken c.args.key.now c.index-items-index.result c.self.inside.items.items c.args.self.now.asks c.in-Ok.index c.self.invariant.0 seen c.in-Ok.ensures.ok (c.index-items-index.is ∙ ap (λ xs. get_or xs c.in-Ok.index c.index-items-index.result) c.as_slice-items.ensures.value) in
    let within = stands_within c.args.key.now c.self.inside.items.items c.args.self.now.asks c.in-Ok.index c.self.invariant.0 seen c.in-Ok.ensures.ok in (
      rw (c.remove.ensures.items ∙ last_taken c.args.key.now c.index-items-index.result c.self.inside.items.items c.in-Ok.index c.self.invariant.0 t (sym c.count.ensures ∙ c.if-count-eq1.true)) (kept_taken c.args.key.now c.index-items-index.result c.self.inside.items.items c.in-Ok.index c.self.invariant.0 t),
      rw (c.remove.ensures.items, c.remove-then-count-eq1.ensures.marks) (same_without c.self.inside.impossible.marks c.self.inside.items.items c.in-Ok.index c.self.invariant.1 within),
    )

pub overflow_sub-count : goal.overflow_sub-count
overflow_sub-count g c =
    let seen = ap (λ (a : HeldAsks). a.asks) c.self.view_is in
    let t = is_taken c.args.key.now c.index-items-index.result c.self.inside.items.items c.args.self.now.asks c.in-Ok.index c.self.invariant.0 seen c.in-Ok.ensures.ok (c.index-items-index.is ∙ ap (λ xs. get_or xs c.in-Ok.index c.index-items-index.result) c.as_slice-items.ensures.value) in
    rw c.count-else-count-eq1.ensures (taken_wanted c.args.key.now c.index-items-index.result c.self.inside.items.items c.in-Ok.index c.self.invariant.0 t)

pub invariant_of-self-else-count-eq1 : goal.invariant_of-self-else-count-eq1
invariant_of-self-else-count-eq1 g c =
    let seen = ap (λ (a : HeldAsks). a.asks) c.self.view_is in
    let t = is_taken c.args.key.now c.index-items-index.result c.self.inside.items.items c.args.self.now.asks c.in-Ok.index c.self.invariant.0 seen c.in-Ok.ensures.ok (c.index-items-index.is ∙ ap (λ xs. get_or xs c.in-Ok.index c.index-items-index.result) c.as_slice-items.ensures.value) in
    let less = c.with_count-less.ensures ∙ ap (λ n. record c.index-items-index.result { count = n - 1 }) c.count-else-count-eq1.ensures in
    let more : c.index-items-index.result.count ≡ 1 → ⊥ = λ e. c.if-count-eq1.false (c.count.ensures ∙ e) in (
      rw (fewer_taken c.args.key.now c.index-items-index.result c.self.inside.items.items c.in-Ok.index c.self.invariant.0 t c.with_count-less.result less more) (kept_taken c.args.key.now c.index-items-index.result c.self.inside.items.items c.in-Ok.index c.self.invariant.0 t),
      c.self.invariant.1 ∙ sym (length-set c.self.inside.items.items c.in-Ok.index c.with_count-less.result),
    )

pub returns-then-count-eq1-clause-asks : goal.returns-then-count-eq1-clause-asks
returns-then-count-eq1-clause-asks g c =
    let seen = ap (λ (a : HeldAsks). a.asks) c.self.view_is in
    let t = is_taken c.args.key.now c.index-items-index.result c.self.inside.items.items c.args.self.now.asks c.in-Ok.index c.self.invariant.0 seen c.in-Ok.ensures.ok (c.index-items-index.is ∙ ap (λ xs. get_or xs c.in-Ok.index c.index-items-index.result) c.as_slice-items.ensures.value) in
    c.remove.ensures.items ∙ last_taken c.args.key.now c.index-items-index.result c.self.inside.items.items c.in-Ok.index c.self.invariant.0 t (sym c.count.ensures ∙ c.if-count-eq1.true) ∙ ap (take_one c.args.key.now) seen

pub returns-else-count-eq1-clause-asks : goal.returns-else-count-eq1-clause-asks
returns-else-count-eq1-clause-asks g c =
    let seen = ap (λ (a : HeldAsks). a.asks) c.self.view_is in
    let t = is_taken c.args.key.now c.index-items-index.result c.self.inside.items.items c.args.self.now.asks c.in-Ok.index c.self.invariant.0 seen c.in-Ok.ensures.ok (c.index-items-index.is ∙ ap (λ xs. get_or xs c.in-Ok.index c.index-items-index.result) c.as_slice-items.ensures.value) in
    let less = c.with_count-less.ensures ∙ ap (λ n. record c.index-items-index.result { count = n - 1 }) c.count-else-count-eq1.ensures in
    let more : c.index-items-index.result.count ≡ 1 → ⊥ = λ e. c.if-count-eq1.false (c.count.ensures ∙ e) in
    fewer_taken c.args.key.now c.index-items-index.result c.self.inside.items.items c.in-Ok.index c.self.invariant.0 t c.with_count-less.result less more ∙ ap (take_one c.args.key.now) seen

pub returns-in_default-clause-asks : goal.returns-in_default-clause-asks
returns-in_default-clause-asks g c =
    let seen = ap (λ (a : HeldAsks). a.asks) c.self.view_is in
    sym seen ∙ none_there c.args.key.now c.self.inside.items.items c.args.self.now.asks c.in_default.field-0 c.self.invariant.0 seen c.in_default.ensures.err ∙ ap (take_one c.args.key.now) seen

pub returns-then-count-eq1-clause-impossible : goal.returns-then-count-eq1-clause-impossible
returns-then-count-eq1-clause-impossible g c =
    rw (c.remove.ensures.items, c.remove-then-count-eq1.ensures.marks, ← c.self.view_is) (marked_without c.self.inside.impossible.marks c.self.inside.items.items c.in-Ok.index)

pub returns-else-count-eq1-clause-impossible : goal.returns-else-count-eq1-clause-impossible
returns-else-count-eq1-clause-impossible g c =
    let seen = ap (λ (a : HeldAsks). a.asks) c.self.view_is in
    let h = stands_within c.args.key.now c.self.inside.items.items c.args.self.now.asks c.in-Ok.index c.self.invariant.0 seen c.in-Ok.ensures.ok in
    let item = c.index-items-index.is ∙ ap (λ xs. get_or xs c.in-Ok.index c.index-items-index.result) c.as_slice-items.ensures.value in
    let at = slice_get_read c.self.inside.items.items (length c.self.inside.items.items) c.in-Ok.index c.index-items-index.result refl h item in
    rw (← c.self.view_is, marked_same c.self.inside.impossible.marks c.self.inside.items.items c.in-Ok.index c.with_count-less.result c.index-items-index.result at (ap want_of c.with_count-less.ensures)) (λ want m. m)

pub offset_bounds-items-index : goal.offset_bounds-items-index
offset_bounds-items-index g c =
    let seen = ap (λ (a : HeldAsks). a.asks) c.self.view_is in
    let h = stands_within c.args.key.now c.self.inside.items.items c.args.self.now.asks c.in-Ok.index c.self.invariant.0 seen c.in-Ok.ensures.ok in
    let same = ap length c.as_slice-items.ensures.value in
    omega (arith, h, same)

pub bounds-items-index : goal.bounds-items-index
bounds-items-index g c =
    let seen = ap (λ (a : HeldAsks). a.asks) c.self.view_is in
    let h = stands_within c.args.key.now c.self.inside.items.items c.args.self.now.asks c.in-Ok.index c.self.invariant.0 seen c.in-Ok.ensures.ok in
    let same = ap length c.as_slice-items.ensures.value in
    omega (arith, h, same)

pub count-requires : goal.count-requires
count-requires g c =
    let seen = ap (λ (a : HeldAsks). a.asks) c.self.view_is in
    let h = stands_within c.args.key.now c.self.inside.items.items c.args.self.now.asks c.in-Ok.index c.self.invariant.0 seen c.in-Ok.ensures.ok in
    let same = ap length c.as_slice-items.ensures.value in
    one_fits (length c.as_slice-items.result.now) _ _ (omega (arith, h, same)) c.as_slice-items.type_inv.1

pub count-requires-else-count-eq1 : goal.count-requires-else-count-eq1
count-requires-else-count-eq1 g c =
    let seen = ap (λ (a : HeldAsks). a.asks) c.self.view_is in
    let h = stands_within c.args.key.now c.self.inside.items.items c.args.self.now.asks c.in-Ok.index c.self.invariant.0 seen c.in-Ok.ensures.ok in
    let same = ap length c.as_slice-items.ensures.value in
    one_fits (length c.as_slice-items.result.now) _ _ (omega (arith, h, same)) c.as_slice-items.type_inv.1

pub with_count-less-requires : goal.with_count-less-requires
with_count-less-requires g c =
    let seen = ap (λ (a : HeldAsks). a.asks) c.self.view_is in
    let h = stands_within c.args.key.now c.self.inside.items.items c.args.self.now.asks c.in-Ok.index c.self.invariant.0 seen c.in-Ok.ensures.ok in
    let same = ap length c.as_slice-items.ensures.value in
    one_fits (length c.as_slice-items.result.now) _ _ (omega (arith, h, same)) c.as_slice-items.type_inv.1
