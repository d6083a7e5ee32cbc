use Rattle.cap_copy.proofs.Prelude.{arith, ◌∙◌, ◌≡◌, ◌+◌, ◌++◌, ◌∷◌, ◌<◌, ◌≤◌, [], ap, sym, subst, map, length, vec_capacity, inl, option_map_or, map_push, IsSeenTree, SeenQueue, waiting_at, waiting_below, IsPosition, change_along, mark_at}
use Rattle.cap_tree.proofs.Callers.{never_grows}
use Rattle.cap_copy.proofs.Copies.{position-made}
use Rattle.cap_copy.proofs.Fitting.{seen_fits}
use Rattle.cap_copy.proofs.NextServed.{once}
use Rattle.cap_tree.specs.Service.{HasPathsOnce}
use Rattle.cap_copy.proofs.Waits.{index_of_mark, last_within, links_after, links_at, mark_fits, one_more, same_rows}
use Rattle.cap_copy.proofs.seen_tree.SeenTree.wait.Goals.{then-last-ne0, else-last-ne0}
use Rattle.cap_copy.proofs.seen_tree.SeenTree.wait.Goals as goal

pub get-requires-room-T-TreeItem : goal.get-requires-room-T-TreeItem
get-requires-room-T-TreeItem g c κs within = search seen_fits

pub get-requires-room-T-Destruct : goal.get-requires-room-T-Destruct
get-requires-room-T-Destruct g c κs within = search seen_fits

pub get-requires : goal.get-requires
get-requires g c = position-made (λ (q : SeenQueue). q.queue) c.as_slice.result.now c.self.inside.root (rw (← c.self.view_is, ← c.as_slice.ensures) at c.requires.position)

pub last-last-requires : goal.last-last-requires
last-last-requires g c = search seen_fits

pub change-requires-room-T-TreeItem : goal.change-requires-room-T-TreeItem
change-requires-room-T-TreeItem g c κs within = search seen_fits

pub change-requires-room-T-Destruct : goal.change-requires-room-T-Destruct
change-requires-room-T-Destruct g c κs within = search seen_fits

pub change-requires-room-C-Change : goal.change-requires-room-C-Change
change-requires-room-C-Change g c κs within = search seen_fits

pub index_mut-requires : goal.index_mut-requires
index_mut-requires g c =
    let last : mark_at (λ (q : SeenQueue). q.last) c.as_slice.result.now c.self.inside.root ≡ c.last-last.result = ap (λ o. option_map_or (λ (q : SeenQueue). q.last) o 0) c.get.ensures ∙ sym c.last-last.ensures in
    let w = last_within c.self.inside.root _ c.self.inside.links.items c.self.invariant c.as_slice.result.now in
    rw c.self.inside.links.ok.0 (index_of_mark c.last-last.result (length c.self.inside.links.items) c.if-last-ne0.true (subst (λ n. n ≤ length c.self.inside.links.items) last w))

pub push_reserved-requires : goal.push_reserved-requires
push_reserved-requires g c =
    let less = subst (λ n. n < vec_capacity c.self.inside.links) (sym (c.self.inside.links.ok.0 ∙ c.self.invariant.many)) (rw (← c.self.view_is) at c.requires.room) in
    elim c.if-last-ne0.branch [ then-last-ne0 w ↦ rw w.self-inside-is less | else-last-ne0 w ↦ rw w.self-inside-is less ]

pub change-requires-clause-can : goal.change-requires-clause-can
change-requires-clause-can g c =
    let root : c.if-last-ne0.self-inside.root ≡ c.self.inside.root = elim c.if-last-ne0.branch [ then-last-ne0 w ↦ ap (λ s. s.root) w.self-inside-is | else-last-ne0 w ↦ ap (λ s. s.root) w.self-inside-is ] in
    subst (λ r. IsPosition r c.as_slice-2.result.now) (sym root) (position-made (λ (q : SeenQueue). q.queue) c.as_slice-2.result.now c.self.inside.root (rw (← c.self.view_is, ← c.as_slice-2.ensures) at c.requires.position))

pub change-requires-clause-within : goal.change-requires-clause-within
change-requires-clause-within g c m = inl (omega arith)

pub unreachable-requires : goal.unreachable-requires
unreachable-requires g c = never_grows c.as_slice-2.result.now c.if-last-ne0.self-inside.root c.in_default.ensures.grows

-- the tree after the change, and the links
changed_is : (g : _) (c : goal.After-self-2-1 g) → c.change.new.self ≡ map (change_along waiting_below (waiting_at (c.len.result + 1)) c.args.path.now.items) c.self.inside.root
changed_is g c =
    let root : c.if-last-ne0.self-inside.root ≡ c.self.inside.root = elim c.if-last-ne0.branch [ then-last-ne0 w ↦ ap (λ s. s.root) w.self-inside-is | else-last-ne0 w ↦ ap (λ s. s.root) w.self-inside-is ] in
    c.in-Ok.ensures.changed ∙ (λ k. map (change_along waiting_below (waiting_at (c.len.result + 1)) (c.as_slice-2.ensures k)) (root k))

waiting_is : (g : _) (c : goal.After-self-2-1 g) → map (λ e. e.0.items) c.and-self-inside.result.items ≡ map (λ e. e.0.items) c.self.inside.places.items ++ c.args.path.now.items ∷ []
waiting_is g c =
    let places : c.if-last-ne0.self-inside.places ≡ c.self.inside.places = elim c.if-last-ne0.branch [ then-last-ne0 w ↦ ap (λ s. s.places) w.self-inside-is | else-last-ne0 w ↦ ap (λ s. s.places) w.self-inside-is ] in
    ap (map (λ e. e.0.items)) c.and-self-inside.ensures ∙ map_push (λ e. e.0.items) c.if-last-ne0.self-inside.places.items (c.args.path.now, 0) ∙ ap (λ ps. map (λ e. e.0.items) ps.items ++ c.args.path.now.items ∷ []) places

links_are : (g : _) (c : goal.After-self-2-1 g) → c.push_reserved.new.self.items ≡ links_after c.self.inside.links.items (c.len.result + 1) (mark_at (λ (q : SeenQueue). q.last) c.args.path.now.items c.self.inside.root) ++ 0 ∷ []
links_are g c =
    let last : mark_at (λ (q : SeenQueue). q.last) c.args.path.now.items c.self.inside.root ≡ c.last-last.result =
    ap (λ p. mark_at (λ (q : SeenQueue). q.last) p c.self.inside.root) (sym c.as_slice.ensures) ∙ ap (λ o. option_map_or (λ (q : SeenQueue). q.last) o 0) c.get.ensures ∙ sym c.last-last.ensures in
    let links : c.if-last-ne0.self-inside.links.items ≡ links_after c.self.inside.links.items (c.len.result + 1) c.last-last.result = elim c.if-last-ne0.branch [
      | then-last-ne0 w ↦ ap (λ s. s.links.items) w.self-inside-is ∙ sym (links_at c.self.inside.links.items (c.len.result + 1) c.last-last.result (omega (arith, w.if-last-ne0.true)))
      | else-last-ne0 w ↦ ap (λ s. s.links.items) w.self-inside-is ∙ ap (links_after c.self.inside.links.items (c.len.result + 1)) (sym w.if-last-ne0.false)
    ] in
    c.push_reserved.ensures.items ∙ ap (λ xs. xs ++ 0 ∷ []) (links ∙ ap (links_after c.self.inside.links.items (c.len.result + 1)) (sym last))

there : (g : _) (c : goal.After-self-2-1 g) → IsPosition c.self.inside.root c.args.path.now.items
there g c = position-made (λ (q : SeenQueue). q.queue) c.args.path.now.items c.self.inside.root (rw (← c.self.view_is) at c.requires.position)

pub returns-clause-rows : goal.returns-clause-rows
returns-clause-rows g c = same_rows (c.len.result + 1) c.args.path.now.items c.self.inside.root c.change.new.self (changed_is g c) ∙ ap (λ v. v.rows) c.self.view_is

pub returns-clause-waiting : goal.returns-clause-waiting
returns-clause-waiting g c = waiting_is g c ∙ ap (λ v. v.waiting ++ c.args.path.now.items ∷ []) c.self.view_is

pub returns-clause-room : goal.returns-clause-room
returns-clause-room g c =
    let room : c.if-last-ne0.self-inside.links.cap ≡ c.self.inside.links.cap = elim c.if-last-ne0.branch [ then-last-ne0 w ↦ ap (λ s. s.links.cap) w.self-inside-is | else-last-ne0 w ↦ ap (λ s. s.links.cap) w.self-inside-is ] in
    c.push_reserved.ensures.capacity ∙ room ∙ ap (λ v. v.room) c.self.view_is

pub invariant_of-self : goal.invariant_of-self
invariant_of-self g c =
    let waiting = map (λ e. e.0.items) c.self.inside.places.items in
    let mark : c.len.result + 1 ≡ length waiting + 1 = ap (λ n. n + 1) (c.len.ensures ∙ c.self.inside.links.ok.0 ∙ c.self.invariant.many) in
    subst (λ ps. IsSeenTree c.change.new.self ps c.push_reserved.new.self.items) (sym (waiting_is g c))
    (one_more c.self.inside.root waiting c.self.inside.links.items c.self.invariant c.args.path.now.items (there g c) (c.len.result + 1) mark c.change.new.self c.push_reserved.new.self.items (changed_is g c) (links_are g c))

pub overflow_cast-mark : goal.overflow_cast-mark
overflow_cast-mark g c =
    let many = c.self.invariant.many in
    let few = rw (← c.self.view_is) at c.requires.few in
    let l = c.len.ensures in
    let items = c.self.inside.links.ok.0 in
    omega (arith, many, few, l, items)

pub overflow_add-mark : goal.overflow_add-mark
overflow_add-mark g c = mark_fits _ _ (c.len.ensures ∙ c.self.inside.links.ok.0 ∙ c.self.invariant.many) (rw (← c.self.view_is) at c.requires.few)

pub overflow_sub-last : goal.overflow_sub-last
overflow_sub-last g c = omega (arith, c.if-last-ne0.true)

pub overflow_cast-last : goal.overflow_cast-last
overflow_cast-last g c = let last = c.last-last.type_inv in omega (arith, last)

pub unreachable-unreachable : goal.unreachable-unreachable
unreachable-unreachable g c = c.unreachable.result

pub change-requires-room-T-Marked : goal.change-requires-room-T-Marked
change-requires-room-T-Marked g c κs within = search seen_fits

pub change-requires-room-T-Served : goal.change-requires-room-T-Served
change-requires-room-T-Served g c κs within = search seen_fits

pub change-requires-clause-once : goal.change-requires-clause-once
change-requires-clause-once g c =
    let root : c.if-last-ne0.self-inside.root ≡ c.self.inside.root = elim c.if-last-ne0.branch [ then-last-ne0 w ↦ ap (λ s. s.root) w.self-inside-is | else-last-ne0 w ↦ ap (λ s. s.root) w.self-inside-is ] in
    subst HasPathsOnce (sym root) (once c.self.inside.root (map (λ e. e.0.items) c.self.inside.places.items) c.self.inside.links.items c.self.invariant)
