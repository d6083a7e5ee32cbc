use Rattle.cap_tree.proofs.Prelude.{◌≡◌, ◌∙◌, sym, subst, arith, true, map, map-id, IsListing, has_same_paths, queues_of, with_row_of_path}
use Rattle.cap_tree.proofs.RowSettings.{all_rows, never_missing, next_row, row_factor}
use Rattle.cap_tree.proofs.Sizes.{path_fits, row_in_tree}
use Rattle.cap_tree.proofs.tree.QueueTree.set_limits.Goals as goal
use Rattle.cap_tree.proofs.tree.QueueTree.set_limits.Goals.{in-Leaf+in-Heap-1, in-Leaf+in-Inline-1, in-Parent+in-Heap-1, in-Parent+in-Inline-1}

pub queues-rows-requires : goal.queues-rows-requires
queues-rows-requires g c = search row_in_tree

pub set_row-requires : goal.set_row-requires
set_row-requires g c =
    let listing = subst IsListing (sym c.queues-rows.ensures.rows) c.queues-rows.ensures.listing in
    let at = c.in-Leaf.ensures.found.0 in (
      search,
      (search path_fits, (search row_in_tree, (at.present, (at.path_is ∙ c.as_bytes.ensures.value ∙ c.path-path.ensures, row_factor c.queues-rows.result.now c.loop-row.row-index c.row-item.result listing c.loop-row-test.true c.row-item.is)))),
    )

pub set_row-requires-in-Parent : goal.set_row-requires-in-Parent
set_row-requires-in-Parent g c =
    let listing = subst IsListing (sym c.queues-rows.ensures.rows) c.queues-rows.ensures.listing in
    let at = c.in-Parent.ensures.found.0 in (
      search,
      (search path_fits, (search row_in_tree, (at.present, (at.path_is ∙ c.as_bytes.ensures.value ∙ c.path-path.ensures, row_factor c.queues-rows.result.now c.loop-row.row-index c.row-item.result listing c.loop-row-test.true c.row-item.is)))),
    )

pub unreachable-requires : goal.unreachable-requires
unreachable-requires g c =
    let same = subst (λ rows. has_same_paths rows (queues_of c.args.self.now) ≡ true) (sym c.queues-rows.ensures.rows) c.requires in
    never_missing c.queues-rows.result.now c.args.self.now c.loop-row.self c.loop-row.row-index c.row-item.result c.loop-row.invariant same c.loop-row-test.true c.row-item.is
    (rw (c.as_bytes.ensures.value, c.path-path.ensures) at c.in-Missing.ensures.found)

pub loop-row-preserved : goal.loop-row-preserved
loop-row-preserved g c =
    let listing = subst IsListing (sym c.queues-rows.ensures.rows) c.queues-rows.ensures.listing in
    let next = next_row c.queues-rows.result.now c.args.self.now c.loop-row.self c.loop-row.row-index c.loop-row.invariant c.row-item.result listing c.loop-row-test.true c.row-item.is in
    elim c.match-find.branch [
      | in-Leaf+in-Heap-1 w ↦ w.self-is ∙ w.set_row.ensures ∙ next
      | in-Leaf+in-Inline-1 w ↦ w.self-is ∙ w.set_row.ensures ∙ next
      | in-Parent+in-Heap-1 w ↦ w.self-is ∙ w.set_row-in-Parent.ensures ∙ next
      | in-Parent+in-Inline-1 w ↦ w.self-is ∙ w.set_row-in-Parent.ensures ∙ next
    ]

pub returns : goal.returns
returns g c =
    subst (λ rows. c.loop-row.self ≡ map (with_row_of_path rows) c.args.self.now) c.queues-rows.ensures.rows
    (all_rows c.queues-rows.result.now c.args.self.now c.loop-row.self c.loop-row.row-index c.loop-row.invariant (omega (arith, c.loop-row-test.false)))

pub loop-row-init : goal.loop-row-init
loop-row-init g c = sym (map-id c.args.self.now)

pub path-path-requires : goal.path-path-requires
path-path-requires g c = search row_in_tree

pub find-requires : goal.find-requires
find-requires g c = search
