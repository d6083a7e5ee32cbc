use Rattle.cap_copy.proofs.Prelude.{◌≤◌, List, length, map, subst, sym, ap, arith, ◌∙◌, All, applications_max, NodeSight, SeenRows, IsPosition, map_twice, AskRange, AreApart, AreRanges, beside, SeenApp, range_in, AreSkips, Parts, held_apps_in, nodes_in}
use Rattle.cap_copy.proofs.Fitting.{tree_in_copy}
use Rattle.cap_copy.proofs.Seeing.{apart_ranges}
use Rattle.cap_copy.proofs.Sights.{few_apps, is_stored, made_of_parts, placed_all, placed_apps, rising_apps}
use Rattle.cap_copy.proofs.copied.ClusterCopy.arrange.Goals as goal

pub note_waiting-requires : goal.note_waiting-requires
note_waiting-requires g c =
    let copy = c.self.invariant.copied in
    let apps = c.self.inside.apps.items in
    let rows = c.self.inside.tree.rows in
    let held = held_apps_in c.self.inside.sources.items in
    let placed = placed_apps rows apps (placed_all rows held.accounts held.table.active (map (λ (a : SeenApp). a.held) apps) copy.apps_are copy.accounts_are copy.placed) in
    let few = copy.resources in (
      search tree_in_copy,
      (
        omega (arith, few),
        (
          subst (λ (list : List SeenApp). length list ≤ applications_max) (sym c.deref.ensures.value) (few_apps held.table.active apps applications_max copy.apps_are copy.few),
          (
            c.self.invariant.none,
            (
              subst (λ (list : List SeenApp). length list ≤ c.self.inside.tree.room) (sym c.deref.ensures.value) c.self.invariant.room,
              subst (λ (list : List SeenApp). All (λ a. IsPosition rows a.held.account.position) list) (sym c.deref.ensures.value) placed,
            ),
          ),
        ),
      ),
    )

pub sort-requires : goal.sort-requires
sort-requires g c = search tree_in_copy

pub take_reserved-requires : goal.take_reserved-requires
take_reserved-requires g c =
    let copy = c.self.invariant.copied in
    let few = copy.resources in
    let apps = c.self.inside.apps.items in
    let table = (held_apps_in c.self.inside.sources.items).table in
    let apart = apart_ranges (map (λ (a : SeenApp). a.held.app.number) apps) table.next (map range_in apps) (rising_apps table.active table.next apps copy.rising copy.apps_are) (map_twice (λ (b : AskRange). b.app) range_in apps) in (
      omega (arith, few),
      (
        omega (arith, few),
        (
          omega (arith, few),
          (
            few,
            (
              subst (λ (list : List SeenApp). AreRanges c.self.inside.asks.items (map range_in list)) (sym c.deref-2.ensures.value) copy.seen_are.ranges,
              subst (λ (list : List SeenApp). AreApart (map range_in list)) (sym c.deref-2.ensures.value) apart,
            ),
          ),
        ),
      ),
    )

pub set_skips-requires : goal.set_skips-requires
set_skips-requires g c = let few = c.self.invariant.copied.resources in (omega (arith, few), c.self.invariant.skips_are ∙ ap length (sym c.deref-4.ensures.value))

pub invariant_of-result : goal.invariant_of-result
invariant_of-result g c =
    let inside = c.self.inside in
    let parts : Parts = record { rows = inside.tree.rows; apps = held_apps_in inside.sources.items; nodes = nodes_in inside.sources.items } in
    let rows = ap (λ (t : SeenRows). t.rows) c.sort.ensures ∙ c.note_waiting.ensures.rows in
    let waits = ap (λ (t : SeenRows). t.waiting) c.sort.ensures ∙ c.note_waiting.ensures.waiting ∙ ap (map (λ (a : SeenApp). a.held.account.position)) c.deref.ensures.value in
    let wanted = c.take_reserved.ensures ∙ ap (λ (ns : List NodeSight). map (beside ns) inside.asks.items) c.deref-3.ensures.value in
    let skips = subst (λ (ns : List NodeSight). AreSkips ns c.set_skips.new.skips.items) c.deref-4.ensures.value c.set_skips.ensures in
    is_stored g.row.K parts inside.apps.items inside.asks.items c.take_reserved.new.asks.items inside.nodes.items c.set_skips.new.skips.items inside.live inside.next_container c.self.invariant.copied c.self.invariant.rows_are c.sort.new.self
    rows waits wanted skips

pub returns : goal.returns
returns g c =
    let inside = c.self.inside in
    let parts : Parts = record { rows = inside.tree.rows; apps = held_apps_in inside.sources.items; nodes = nodes_in inside.sources.items } in
    let rows = ap (λ (t : SeenRows). t.rows) c.sort.ensures ∙ c.note_waiting.ensures.rows in
    let waits = ap (λ (t : SeenRows). t.waiting) c.sort.ensures ∙ c.note_waiting.ensures.waiting ∙ ap (map (λ (a : SeenApp). a.held.account.position)) c.deref.ensures.value in
    let wanted = c.take_reserved.ensures ∙ ap (λ (ns : List NodeSight). map (beside ns) inside.asks.items) c.deref-3.ensures.value in
    let skips = subst (λ (ns : List NodeSight). AreSkips ns c.set_skips.new.skips.items) c.deref-4.ensures.value c.set_skips.ensures in
    rw (← c.self.view_is)
    (made_of_parts g.row.K parts inside.apps.items inside.asks.items c.take_reserved.new.asks.items inside.nodes.items c.set_skips.new.skips.items inside.live inside.next_container c.self.invariant.copied c.self.invariant.rows_are
    c.sort.new.self rows waits wanted skips)
