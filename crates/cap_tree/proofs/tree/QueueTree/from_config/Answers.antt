use Rattle.cap_tree.proofs.Sizes.{row_fits}
use Rattle.cap_tree.proofs.Prelude.{arith, ◌∙◌, ◌≡◌, ◌∷◌, ◌++◌, ◌-◌, ap, refl, sym, subst, take, drop, length, [], All, AreSpots, IsUnused, Row, of_tree, Queue, IsListing, IsGrowing, queues_of}
use Rattle.cap_tree.proofs.Growing.{start, finished, none_listed, split_list, unused_stored, unused_own}
use Rattle.cap_tree.specs.Rows.{IsQueueTree}
use Rattle.cap_tree.proofs.ServiceRows.{rows_once}
use Rattle.cap_tree.proofs.Waits.{none_waiting}
use Rattle.cap_tree.proofs.tree.QueueTree.from_config.Goals as goal

pub unreachable-requires : goal.unreachable-requires
unreachable-requires g c = none_listed c.queues.result.now c.in_default.len_below (subst IsListing (sym c.queues.ensures.rows) c.queues.ensures.listing)

pub new-requires : goal.new-requires
new-requires g c = (search row_fits, (c.requires.queue, c.path.ensures))

pub leaf-root-requires : goal.leaf-root-requires
leaf-root-requires g c m = unused_stored g.row.K c.in-Ok.queue m c.in-Ok.ensures.1 ∙ sym (unused_own g.row.K c.in-Ok.queue m c.in-Ok.ensures.1)

pub add_all-requires : goal.add_all-requires
add_all-requires g c =
    let qs = c.queues.result.now in
    let others = take (length qs - 1) (drop 1 qs) in
    let e : qs ≡ c.first-item.result ∷ others = split_list qs c.first-item.result c.in-len1-up.len_at_least c.first-item.is in
    let s = start g.row.K qs others c.first-item.result c.in-Ok.queue e (subst IsListing (sym c.queues.ensures.rows) c.queues.ensures.listing) c.in-Ok.ensures.0 c.in-Ok.ensures.1 in
    let few = c.queues.ensures.few in
    let all = ap length e in
    let root = ap length c.leaf-root.ensures in (
      (search),
      (
        search row_fits,
        (
          subst (λ r. IsGrowing g.row.K r others) (sym c.leaf-root.ensures) s.growing,
          (omega (arith, few, all, root), subst (AreSpots (λ (q : Queue). q.name)) (sym c.leaf-root.ensures) (of_tree c.in-Ok.queue [] (λ i lt. absurd (omega (arith, lt))))),
        ),
      ),
    )

pub same-root : goal.same-root
same-root g c = refl

pub new-requires-2 : goal.new-requires-2
new-requires-2 g c = c.requires.path

pub invariant_of-result : goal.invariant_of-result
invariant_of-result g c =
    let qs = c.queues.result.now in
    let others = take (length qs - 1) (drop 1 qs) in
    let e : qs ≡ c.first-item.result ∷ others = split_list qs c.first-item.result c.in-len1-up.len_at_least c.first-item.is in
    let l = subst IsListing (sym c.queues.ensures.rows) c.queues.ensures.listing in
    let s = start g.row.K qs others c.first-item.result c.in-Ok.queue e l c.in-Ok.ensures.0 c.in-Ok.ensures.1 in
    let q : queues_of c.add_all.new.root ≡ qs = c.in-Ok-add_all.ensures.queues ∙ ap (λ r. queues_of r ++ others) c.leaf-root.ensures ∙ ap (λ x. x ++ others) s.queues ∙ sym e in
    subst (λ rows. IsQueueTree rows c.new-2.result) (sym c.sort_waiting.ensures)
    (record { rows_are = finished g.row.K c.add_all.new.root qs c.in-Ok-add_all.ensures.grown q l; start_is = record { empty = c.new-2.ensures.items; room = c.new-2.ensures.capacity }; waiting_are = none_waiting g.row.K c.add_all.new.root c.add_all.ensures.tree c.in-Ok-add_all.ensures.grown.unused })

pub returns-clause-queues : goal.returns-clause-queues
returns-clause-queues g c =
    let qs = c.queues.result.now in
    let others = take (length qs - 1) (drop 1 qs) in
    let e : qs ≡ c.first-item.result ∷ others = split_list qs c.first-item.result c.in-len1-up.len_at_least c.first-item.is in
    let l = subst IsListing (sym c.queues.ensures.rows) c.queues.ensures.listing in
    let s = start g.row.K qs others c.first-item.result c.in-Ok.queue e l c.in-Ok.ensures.0 c.in-Ok.ensures.1 in
    ap queues_of c.sort_waiting.ensures ∙ c.in-Ok-add_all.ensures.queues ∙ ap (λ r. queues_of r ++ others) c.leaf-root.ensures ∙ ap (λ x. x ++ others) s.queues ∙ sym e ∙ c.queues.ensures.rows

pub returns-clause-unused : goal.returns-clause-unused
returns-clause-unused g c = subst (All (λ (r : Row). IsUnused g.row.K r.item)) (sym c.sort_waiting.ensures) c.in-Ok-add_all.ensures.grown.unused

pub sort_waiting-requires : goal.sort_waiting-requires
sort_waiting-requires g c = record { once = rows_once c.add_all.new.root c.in-Ok-add_all.ensures.grown.paths }

pub leaf-root-requires-room-T-TreeItem : goal.leaf-root-requires-room-T-TreeItem
leaf-root-requires-room-T-TreeItem g c κs within = search

pub drop-root-inside-requires-in-Err-add_all-6-room-T-Destruct-2 : goal.drop-root-inside-requires-in-Err-add_all-6-room-T-Destruct-2
drop-root-inside-requires-in-Err-add_all-6-room-T-Destruct-2 g c κs within = search

pub drop-root-inside-requires-in-Err-add_all-6-room-T-Destruct : goal.drop-root-inside-requires-in-Err-add_all-6-room-T-Destruct
drop-root-inside-requires-in-Err-add_all-6-room-T-Destruct g c κs within = search

pub leaf-root-requires-room-T-Destruct : goal.leaf-root-requires-room-T-Destruct
leaf-root-requires-room-T-Destruct g c κs within = search

pub queues-requires : goal.queues-requires
queues-requires g c = search row_fits

pub path-requires : goal.path-requires
path-requires g c = search row_fits
