use Rattle.cap_copy.proofs.Prelude.{◌∙◌, ◌<◌, ap, length, refl, subst, sym, Some, option_map, slice_get, slice_get-map, slice_get_read, SeenApp, Seen}
use Rattle.cap_copy.specs.Sources.{apps_in}
use Rattle.cap_copy.proofs.Farming.{next_served, served_within, within}
use Rattle.cap_copy.proofs.Fitting.{seen_app_of_few, tree_in_snapshot}
use Rattle.cap_copy.proofs.farm.SnapshotFarm.next_app.Goals as goal

pub position-requires : goal.position-requires
position-requires g c = seen_app_of_few _ c.self.invariant.resources

pub next_served-requires : goal.next_served-requires
next_served-requires g c =
    let inside = c.self.inside in
    let shown = apps_in inside.sources.items in
    let apps = inside.apps.items in
    let app = c.index-app.result.now in
    let lt = within g.row.K inside.tree shown inside.apps.items inside.asks.items inside.nodes.items inside.skips.items inside.live inside.next_container c.self.invariant c.args.last (subst (λ (s : Seen). c.args.last < length s.waiting) (sym c.self.view_is) c.requires.has) in
    let at = slice_get_read apps (length apps) c.args.last app refl lt c.index-app.ensures in (
      search tree_in_snapshot,
      ap (λ ps. slice_get ps c.args.last) c.self.invariant.waiting ∙ slice_get-map (λ (a : SeenApp). a.held.account.position) apps c.args.last ∙ ap (option_map (λ (a : SeenApp). a.held.account.position)) at
          ∙ ap (λ p. Some p) (sym (c.as_slice.ensures ∙ c.position.ensures)),
    )

pub returns-clause-has : goal.returns-clause-has
returns-clause-has g c =
    let inside = c.self.inside in
    let shown = apps_in inside.sources.items in
    rw (← c.self.view_is) (served_within g.row.K inside.tree shown inside.apps.items inside.asks.items inside.nodes.items inside.skips.items inside.live inside.next_container c.self.invariant (Some c.args.last) c.next_served.result c.next_served.ensures.next)

pub returns-clause-served : goal.returns-clause-served
returns-clause-served g c =
    let inside = c.self.inside in
    let shown = apps_in inside.sources.items in
    rw (← c.self.view_is) (served_within g.row.K inside.tree shown inside.apps.items inside.asks.items inside.nodes.items inside.skips.items inside.live inside.next_container c.self.invariant (Some c.args.last) c.next_served.result c.next_served.ensures.next)

pub returns-clause-next : goal.returns-clause-next
returns-clause-next g c =
    let inside = c.self.inside in
    let shown = apps_in inside.sources.items in
    let lt = subst (λ (s : Seen). c.args.last < length s.waiting) (sym c.self.view_is) c.requires.has in
    rw (← c.self.view_is) (next_served g.row.K inside.tree shown inside.apps.items inside.asks.items inside.nodes.items inside.skips.items inside.live inside.next_container c.self.invariant c.args.last lt c.next_served.result c.next_served.ensures.next)

pub index-app-requires : goal.index-app-requires
index-app-requires g c =
    let inside = c.self.inside in
    let shown = apps_in inside.sources.items in
    let lt = within g.row.K inside.tree shown inside.apps.items inside.asks.items inside.nodes.items inside.skips.items inside.live inside.next_container c.self.invariant c.args.last (subst (λ (s : Seen). c.args.last < length s.waiting) (sym c.self.view_is) c.requires.has) in
    subst (λ n. c.args.last < n) (sym inside.apps.ok.0) lt
