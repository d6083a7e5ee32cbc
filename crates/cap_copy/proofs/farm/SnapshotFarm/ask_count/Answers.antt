use Rattle.cap_copy.proofs.Prelude.{◌∙◌, ◌≤◌, ◌-◌, ◌<◌, ap, length, refl, subst, sym, slice_get_read, AskRange, Seen}
use Rattle.cap_copy.specs.Sources.{apps_in}
use Rattle.cap_copy.proofs.Farming.{count_is, ordered, within}
use Rattle.cap_copy.proofs.Fitting.{seen_app_of_few}
use Rattle.cap_copy.proofs.farm.SnapshotFarm.ask_count.Goals as goal

pub index-requires : goal.index-requires
index-requires g c =
    let inside = c.self.inside in
    let shown = apps_in inside.sources.items in
    let apps = inside.apps.items in
    let lt = within g.row.K inside.tree shown inside.apps.items inside.asks.items inside.nodes.items inside.skips.items inside.live inside.next_container c.self.invariant c.args.of (subst (λ (s : Seen). c.args.of < length s.waiting) (sym c.self.view_is) c.requires) in
    subst (λ n. c.args.of < n) (sym inside.apps.ok.0) lt

pub range-range-requires : goal.range-range-requires
range-range-requires g c = seen_app_of_few _ c.self.invariant.resources

pub overflow_sub-result : goal.overflow_sub-result
overflow_sub-result g c =
    let inside = c.self.inside in
    let shown = apps_in inside.sources.items in
    let apps = inside.apps.items in
    let lt = within g.row.K inside.tree shown inside.apps.items inside.asks.items inside.nodes.items inside.skips.items inside.live inside.next_container c.self.invariant c.args.of (subst (λ (s : Seen). c.args.of < length s.waiting) (sym c.self.view_is) c.requires) in
    let a = c.index.result.now in
    let at = slice_get_read apps (length apps) c.args.of a refl lt c.index.ensures in
    subst (λ (r : AskRange). r.start ≤ r.end) (sym c.range-range.ensures) (ordered g.row.K inside.tree shown inside.apps.items inside.asks.items inside.nodes.items inside.skips.items inside.live inside.next_container c.self.invariant c.args.of a at)

pub returns : goal.returns
returns g c =
    let inside = c.self.inside in
    let shown = apps_in inside.sources.items in
    let apps = inside.apps.items in
    let lt = within g.row.K inside.tree shown inside.apps.items inside.asks.items inside.nodes.items inside.skips.items inside.live inside.next_container c.self.invariant c.args.of (subst (λ (s : Seen). c.args.of < length s.waiting) (sym c.self.view_is) c.requires) in
    let a = c.index.result.now in
    let at = slice_get_read apps (length apps) c.args.of a refl lt c.index.ensures in
    rw (← c.self.view_is) (ap (λ (r : AskRange). r.end - r.start) c.range-range.ensures ∙ count_is g.row.K inside.tree shown inside.apps.items inside.asks.items inside.nodes.items inside.skips.items inside.live inside.next_container c.self.invariant c.args.of a at)
