use Rattle.cap_tree.proofs.Prelude.{AreSpots, IsBranch, ℕ, rules, ap, arith, get_or, drop, ◌-◌, take, length, subst, sym, ◌∙◌, ◌≡◌, set, ◌+◌, ◌<◌, List, Result, Ok, Err, on_ok_weaker, on_err_weaker, length-set, set-get_or, All-set, OnOk, OnErr, AreApart, HasOrderOfOthers, HoldsOfItem, IsOrderOf, kid_items, that_pass, Spot, first_of, item_at, spots}
use Rattle.cap_tree.proofs.Spots.{steps-empty, as_in_child, changed_at_root, in_child, changed_in_child, child-le-sum, sum-set_child}
use Rattle.cap_tree.proofs.Moves.{others_stay, still_differ}
use Rattle.cap_tree.proofs.Service.{once_in_child}
use Rattle.cap_tree.proofs.Rooms.{room_in_child}
use Rattle.cap_tree.proofs.Trees.{tree_changed}
use Rattle.cap_tree.proofs.branch.Branch.+change.Goals as goal

pub index_mut-child-requires : goal.index_mut-child-requires
index_mut-child-requires g t c =
    let into = in_child (g.C.Change.can c.args.change.now) g.T.TreeItem.name c.self.inside.item c.self.inside.children.items c.args.self.now c.args.steps.now c.self.view_is c.in-len1-up.len_at_least c.requires.can in
    let w = into.within in
    omega arith

pub change-requires : goal.change-requires
change-requires g t c =
    let into = in_child (g.C.Change.can c.args.change.now) g.T.TreeItem.name c.self.inside.item c.self.inside.children.items c.args.self.now c.args.steps.now c.self.view_is c.in-len1-up.len_at_least c.requires.can in
    let kids = c.self.inside.children.items in
    let i = get_or c.args.steps.now 0 0 in
    let kid = c.index_mut-child.result.now in
    let is = c.index_mut-child.ensures.value in
    let once = once_in_child g.T.TreeItem.name c.self.inside.item kids c.args.self.now c.self.view_is i kid into.within is c.requires.once in
    λ κs l. (
      search rules,
      (
        search rules,
        (
          search rules,
          (
            search rules,
            (
              once,
              (
                rw is (into.holds kid),
                λ m.
                    let w = rw (← c.self.view_is) at (c.requires.within m) in
                    let s = c.self.invariant.0.sums m in
                    let b = child-le-sum (first_of (λ x. g.T.TreeItem.stored x m)) kids i kid into.within is in
                    room_in_child _ _ _ _ _ (omega arith) w,
              ),
            ),
          ),
        ),
      ),
    )

pub change_at-requires-clause-sums : goal.change_at-requires-clause-sums
change_at-requires-clause-sums g t c m = let s = c.self.invariant.0.sums m in omega arith

pub change_above-requires-clause-fits : goal.change_above-requires-clause-fits
change_above-requires-clause-fits g t c m =
    let into = in_child (g.C.Change.can c.args.change.now) g.T.TreeItem.name c.self.inside.item c.self.inside.children.items c.args.self.now c.args.steps.now c.self.view_is c.in-len1-up.len_at_least c.requires.can in
    let s = c.self.invariant.0.sums m in
    let b = child-le-sum (first_of (λ x. g.T.TreeItem.stored x m)) c.self.inside.children.items (get_or c.args.steps.now 0 0) c.index_mut-child.result.now into.within c.index_mut-child.ensures.value in
    let f = c.change.ensures.fitted m in
    omega arith

pub returns-in-Ok-clause-changed : goal.returns-in-Ok-clause-changed
returns-in-Ok-clause-changed g t c =
    let into = in_child (g.C.Change.can c.args.change.now) g.T.TreeItem.name c.self.inside.item c.self.inside.children.items c.args.self.now c.args.steps.now c.self.view_is c.in-len1-up.len_at_least c.requires.can in
    changed_in_child (g.C.Change.above c.args.change.now) (g.C.Change.at c.args.change.now) g.T.TreeItem.name c.self.inside.item c.change_above.new.item c.self.inside.children.items c.args.self.now c.args.steps.now
    c.index_mut-child.result.now c.change.new.self c.self.view_is c.in-len1-up.len_at_least (g.met.C.Change.name_above c.args.change.now c.self.inside.item) c.change_above.ensures
    into.within c.index_mut-child.ensures.value c.in-Ok.ensures.changed

pub returns-in-Ok-clause-fitted : goal.returns-in-Ok-clause-fitted
returns-in-Ok-clause-fitted g t c m =
    let into = in_child (g.C.Change.can c.args.change.now) g.T.TreeItem.name c.self.inside.item c.self.inside.children.items c.args.self.now c.args.steps.now c.self.view_is c.in-len1-up.len_at_least c.requires.can in
    let s = c.self.invariant.0.sums m in
    let b = child-le-sum (first_of (λ x. g.T.TreeItem.stored x m)) c.self.inside.children.items (get_or c.args.steps.now 0 0) c.index_mut-child.result.now into.within c.index_mut-child.ensures.value in
    let f = c.change.ensures.fitted m in
    rw (← c.self.view_is) (omega arith)

pub returns-in-Err-clause-fitted : goal.returns-in-Err-clause-fitted
returns-in-Err-clause-fitted g t c m =
    let into = in_child (g.C.Change.can c.args.change.now) g.T.TreeItem.name c.self.inside.item c.self.inside.children.items c.args.self.now c.args.steps.now c.self.view_is c.in-len1-up.len_at_least c.requires.can in
    let s = c.self.invariant.0.sums m in
    let b = child-le-sum (first_of (λ x. g.T.TreeItem.stored x m)) c.self.inside.children.items (get_or c.args.steps.now 0 0) c.index_mut-child.result.now into.within c.index_mut-child.ensures.value in
    let f = c.change.ensures.fitted m in
    rw (← c.self.view_is) (omega arith)

pub invariant_of-self-in-Ok : goal.invariant_of-self-in-Ok
invariant_of-self-in-Ok g t c =
    let into = in_child (g.C.Change.can c.args.change.now) g.T.TreeItem.name c.self.inside.item c.self.inside.children.items c.args.self.now c.args.steps.now c.self.view_is c.in-len1-up.len_at_least c.requires.can in
    let i = get_or c.args.steps.now 0 0 in
    let same = c.index_mut-child.ensures.value in
    let tree : AreSpots g.T.TreeItem.name c.index_mut-child.result.now = subst (AreSpots g.T.TreeItem.name) (sym same) (c.self.invariant.0.trees i c.index_mut-child.result.now into.within) in
    let changed : AreSpots g.T.TreeItem.name c.change.new.self = subst (AreSpots g.T.TreeItem.name) (sym c.in-Ok.ensures.changed)
    (tree_changed (g.C.Change.above c.args.change.now) (g.C.Change.at c.args.change.now) g.T.TreeItem.name (g.met.C.Change.name_above c.args.change.now) (g.met.C.Change.name_at c.args.change.now) tree (take (length c.args.steps.now - 1) (drop 1 c.args.steps.now))) in (
      record {
        sums = λ m.
            let s = c.self.invariant.0.sums m in
            let b = child-le-sum (first_of (λ x. g.T.TreeItem.stored x m)) c.self.inside.children.items i c.index_mut-child.result.now into.within same in
            let e = sum-set_child (first_of (λ x. g.T.TreeItem.stored x m)) c.self.inside.children.items i c.index_mut-child.result.now c.change.new.self into.within same in
            let f = c.change.ensures.fitted m in
            let k = c.in-Ok.ensures.moved m in
            let u = g.met.C.Change.stored_above c.args.change.now c.self.inside.item m in
            let v = g.met.C.Change.own_above c.args.change.now c.self.inside.item m in
            rw c.change_above.ensures (omega arith);
        trees = All-set (AreSpots g.T.TreeItem.name) c.self.inside.children.items i c.change.new.self changed c.self.invariant.0.trees;
        few = let l = length-set c.self.inside.children.items i c.change.new.self in omega (arith, l, c.self.invariant.0.few);
      },
      λ sorted. subst (λ ks. IsOrderOf g.T.TreeItem.order (that_pass g.T.TreeItem.waits (kid_items ks)) (length ks) c.move_child-self-inside.new.order.items) c.deref.ensures.value (c.move_child-self-inside.ensures sorted),
    )

pub returns-in-empty-clause-changed : goal.returns-in-empty-clause-changed
returns-in-empty-clause-changed g t c =
    on_ok_weaker c.change_at.result
    (changed_at_root (g.C.Change.above c.args.change.now) (g.C.Change.at c.args.change.now) g.T.TreeItem.name c.self.inside.item c.change_at.new.item c.self.inside.children.items c.args.self.now c.args.steps.now c.self.view_is c.in-empty.len_below (g.met.C.Change.name_at c.args.change.now c.self.inside.item))
    c.change_at.ensures.ok

pub returns-in-Err-clause-grows : goal.returns-in-Err-clause-grows
returns-in-Err-clause-grows g t c =
    let into = in_child (g.C.Change.can c.args.change.now) g.T.TreeItem.name c.self.inside.item c.self.inside.children.items c.args.self.now c.args.steps.now c.self.view_is c.in-len1-up.len_at_least c.requires.can in
    let same = as_in_child g.T.TreeItem.name c.self.inside.item c.self.inside.children.items c.args.self.now c.args.steps.now c.index_mut-child.result.now c.self.view_is c.in-len1-up.len_at_least into.within c.index_mut-child.ensures.value in
    subst (HoldsOfItem (g.C.Change.grows c.args.change.now)) (sym same) c.in-Err.ensures.grows

pub returns-in-Ok-clause-moved : goal.returns-in-Ok-clause-moved
returns-in-Ok-clause-moved g t c m = rw (← c.self.view_is, c.change_above.ensures) (g.met.C.Change.stored_above c.args.change.now c.self.inside.item m)

-- a child that is not changed leaves the children as they were
same_kids : {T : Type 0} (kids : List (List (Spot T))) (i : ℕ) (kid new : List (Spot T)) → kid ≡ get_or kids i kid → new ≡ kid → set kids i new ≡ kids
same_kids kids i kid new is e = ap (set kids i) (e ∙ is) ∙ set-get_or kids i kid

pub invariant_of-self-in-Err : goal.invariant_of-self-in-Err
invariant_of-self-in-Err g t c =
    let kids = c.self.inside.children.items in
    let same = same_kids kids (get_or c.args.steps.now 0 0) c.index_mut-child.result.now c.change.new.self c.index_mut-child.ensures.value c.in-Err.ensures.unchanged in (
      subst (IsBranch g.T.TreeItem.name g.T.TreeItem.stored g.T.TreeItem.own c.self.inside.item) (sym same) c.self.invariant.0,
      λ sorted. subst (λ ks. IsOrderOf g.T.TreeItem.order (that_pass g.T.TreeItem.waits (kid_items ks)) (length ks) c.self.inside.order.items) (sym same) (c.self.invariant.1 sorted),
    )

pub returns-in-Err-clause-unchanged : goal.returns-in-Err-clause-unchanged
returns-in-Err-clause-unchanged g t c =
    ap (spots g.T.TreeItem.name c.self.inside.item) (same_kids c.self.inside.children.items (get_or c.args.steps.now 0 0) c.index_mut-child.result.now c.change.new.self c.index_mut-child.ensures.value c.in-Err.ensures.unchanged) ∙ c.self.view_is

pub change_at-requires-clause-within : goal.change_at-requires-clause-within
change_at-requires-clause-within g t c = rw (← c.self.view_is) at c.requires.within

pub change_above-requires-clause-within : goal.change_above-requires-clause-within
change_above-requires-clause-within g t c = rw (← c.self.view_is) at c.requires.within

-- what holds at the root holds of the item
of_item : {T : Type 0} (P : T → Type 0) (name : T → List ℕ) (item : T) (kids : List (List (Spot T))) (value : List (Spot T)) (steps : List ℕ) → spots name item kids ≡ value → length steps < 1 → HoldsOfItem P (item_at steps value) → P item
of_item P name item kids value steps e h p = rw (steps-empty steps h, ← e) at p

pub change_at-requires-clause-can : goal.change_at-requires-clause-can
change_at-requires-clause-can g t c =
    of_item (g.C.Change.can c.args.change.now) g.T.TreeItem.name c.self.inside.item c.self.inside.children.items c.args.self.now c.args.steps.now c.self.view_is c.in-empty.len_below c.requires.can

pub returns-in-empty-clause-fitted : goal.returns-in-empty-clause-fitted
returns-in-empty-clause-fitted g t c m =
    let can = of_item (g.C.Change.can c.args.change.now) g.T.TreeItem.name c.self.inside.item c.self.inside.children.items c.args.self.now c.args.steps.now c.self.view_is c.in-empty.len_below c.requires.can in
    let s = c.self.invariant.0.sums m in
    let f = g.met.C.Change.old_fits c.args.change.now c.self.inside.item m can in
    rw (← c.self.view_is) (omega (arith, s, f))

pub returns-in-empty-clause-moved : goal.returns-in-empty-clause-moved
returns-in-empty-clause-moved g t c =
    on_ok_weaker c.change_at.result (λ e m. rw (← c.self.view_is) (ap (λ x. g.T.TreeItem.stored x m) e ∙ g.met.C.Change.stored_at c.args.change.now c.self.inside.item m)) c.change_at.ensures.ok

-- an item that was changed, or not, counts what it counted with what is below
sums_either : {X E T : Type 0} (r : Result X E) (f own : T → ℕ) (x y z : T) (below : ℕ) → OnOk r (z ≡ y) → OnErr r (z ≡ x) → f x ≡ own x + below → f y ≡ own y + below → f z ≡ own z + below
sums_either (Ok v) f own x y z below ok err a b = rw ok b
sums_either (Err v) f own x y z below ok err a b = rw err a

pub invariant_of-self : goal.invariant_of-self
invariant_of-self g t c =
    let can = of_item (g.C.Change.can c.args.change.now) g.T.TreeItem.name c.self.inside.item c.self.inside.children.items c.args.self.now c.args.steps.now c.self.view_is c.in-empty.len_below c.requires.can in (
      record {
        sums = λ m.
            let s = c.self.invariant.0.sums m in
            let f = g.met.C.Change.old_fits c.args.change.now c.self.inside.item m can in
            let u = g.met.C.Change.stored_at c.args.change.now c.self.inside.item m in
            let v = g.met.C.Change.own_at c.args.change.now c.self.inside.item m can in
            sums_either c.change_at.result (λ x. g.T.TreeItem.stored x m) (λ x. g.T.TreeItem.own x m) c.self.inside.item (g.C.Change.at c.args.change.now c.self.inside.item) c.change_at.new.item _ c.change_at.ensures.ok c.change_at.ensures.err s (omega (arith, s, f, u, v));
        trees = c.self.invariant.0.trees;
        few = c.self.invariant.0.few;
      },
      c.self.invariant.1,
    )

pub returns-in-empty-clause-grows : goal.returns-in-empty-clause-grows
returns-in-empty-clause-grows g t c = on_err_weaker c.change_at.result (λ p. rw (steps-empty c.args.steps.now c.in-empty.len_below, ← c.self.view_is) p) c.change_at.ensures.grows

pub returns-in-empty-clause-unchanged : goal.returns-in-empty-clause-unchanged
returns-in-empty-clause-unchanged g t c = on_err_weaker c.change_at.result (λ e. ap (λ x. spots g.T.TreeItem.name x c.self.inside.children.items) e ∙ c.self.view_is) c.change_at.ensures.err

pub move_child-self-inside-requires-clause-apart : goal.move_child-self-inside-requires-clause-apart
move_child-self-inside-requires-clause-apart g t c =
    let into = in_child (g.C.Change.can c.args.change.now) g.T.TreeItem.name c.self.inside.item c.self.inside.children.items c.args.self.now c.args.steps.now c.self.view_is c.in-len1-up.len_at_least c.requires.can in
    let kids = c.self.inside.children.items in
    let i = get_or c.args.steps.now 0 0 in
    let kid = c.index_mut-child.result.now in
    let same = c.index_mut-child.ensures.value in
    let above = g.C.Change.above c.args.change.now in
    let at = g.C.Change.at c.args.change.now in
    let tree : AreSpots g.T.TreeItem.name kid = subst (AreSpots g.T.TreeItem.name) (sym same) (c.self.invariant.0.trees i kid into.within) in
    let changed : AreSpots g.T.TreeItem.name c.change.new.self = subst (AreSpots g.T.TreeItem.name) (sym c.in-Ok.ensures.changed)
    (tree_changed above at g.T.TreeItem.name (g.met.C.Change.name_above c.args.change.now) (g.met.C.Change.name_at c.args.change.now) tree (take (length c.args.steps.now - 1) (drop 1 c.args.steps.now))) in
    let value = changed_in_child above at g.T.TreeItem.name c.self.inside.item c.change_above.new.item kids c.args.self.now c.args.steps.now kid c.change.new.self c.self.view_is c.in-len1-up.len_at_least
    (g.met.C.Change.name_above c.args.change.now c.self.inside.item) c.change_above.ensures into.within same c.in-Ok.ensures.changed in
    subst (λ ks. AreApart g.T.TreeItem.order (kid_items ks)) (sym c.deref.ensures.value)
    (still_differ g.T.TreeItem.name kids i c.change.new.self g.T.TreeItem.order g.met.T.Served.total g.met.T.Served.names c.change_above.new.item above at c.args.steps.now c.args.self.now value c.requires.once c.self.invariant.0.trees changed)

pub move_child-self-inside-requires-clause-index : goal.move_child-self-inside-requires-clause-index
move_child-self-inside-requires-clause-index g t c =
    let into = in_child (g.C.Change.can c.args.change.now) g.T.TreeItem.name c.self.inside.item c.self.inside.children.items c.args.self.now c.args.steps.now c.self.view_is c.in-len1-up.len_at_least c.requires.can in
    let w = into.within in
    let e = ap length c.deref.ensures.value in
    let l = length-set c.self.inside.children.items (get_or c.args.steps.now 0 0) c.change.new.self in
    omega (arith, w, e, l)

pub move_child-self-inside-requires-clause-others : goal.move_child-self-inside-requires-clause-others
move_child-self-inside-requires-clause-others g t c sorted =
    let kids = c.self.inside.children.items in
    let i = get_or c.args.steps.now 0 0 in
    let order = g.T.TreeItem.order in
    let waits = g.T.TreeItem.waits in
    subst (λ ks. HasOrderOfOthers order (that_pass waits (kid_items ks)) (length ks) i c.self.inside.order.items) (sym c.deref.ensures.value)
    (others_stay g.T.TreeItem.name kids i c.change.new.self order waits c.self.inside.order.items (c.self.invariant.1 sorted))
