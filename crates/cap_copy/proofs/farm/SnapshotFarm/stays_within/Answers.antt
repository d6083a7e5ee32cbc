use Rattle.cap_copy.proofs.Prelude.{◌∙◌, ◌<◌, arith, length, refl, subst, sym, slice_get_read, IsPosition, Seen, stays_in_limits}
use Rattle.cap_copy.specs.Sources.{apps_in}
use Rattle.cap_copy.proofs.Farming.{limits_are, placed, within}
use Rattle.cap_copy.proofs.Fitting.{amounts_in_snapshot, seen_app_of_few, tree_in_snapshot}
use Rattle.cap_copy.proofs.farm.SnapshotFarm.stays_within.Goals as goal

pub index-app-requires : goal.index-app-requires
index-app-requires g c =
    let inside = c.self.inside in
    let shown = apps_in inside.sources.items in
    let apps = inside.apps.items in
    let lt = within g.row.K inside.tree shown inside.apps.items inside.asks.items inside.nodes.items inside.skips.items inside.live inside.next_container c.self.invariant c.args.of (subst (λ (s : Seen). c.args.of < length s.waiting) (sym c.self.view_is) c.requires) in
    subst (λ n. c.args.of < n) (sym inside.apps.ok.0) lt

pub position-requires : goal.position-requires
position-requires g c = seen_app_of_few _ c.self.invariant.resources

pub used-requires : goal.used-requires
used-requires g c = let few = c.self.invariant.resources in (omega (arith, few), omega (arith, few))

pub stays_within-requires : goal.stays_within-requires
stays_within-requires g c =
    let inside = c.self.inside in
    let shown = apps_in inside.sources.items in
    let apps = inside.apps.items in
    let lt = within g.row.K inside.tree shown inside.apps.items inside.asks.items inside.nodes.items inside.skips.items inside.live inside.next_container c.self.invariant c.args.of (subst (λ (s : Seen). c.args.of < length s.waiting) (sym c.self.view_is) c.requires) in
    let app = c.index-app.result.now in
    let at = slice_get_read apps (length apps) c.args.of app refl lt c.index-app.ensures in
    let there = (placed g.row.K inside.tree shown inside.apps.items inside.asks.items inside.nodes.items inside.skips.items inside.live inside.next_container c.self.invariant c.args.of app at).present in
    (search tree_in_snapshot, (search amounts_in_snapshot, (search amounts_in_snapshot, subst (IsPosition inside.tree.rows) (sym (c.as_slice.ensures ∙ c.position.ensures)) there)))

pub returns : goal.returns
returns g c =
    let inside = c.self.inside in
    let shown = apps_in inside.sources.items in
    let apps = inside.apps.items in
    let lt = within g.row.K inside.tree shown inside.apps.items inside.asks.items inside.nodes.items inside.skips.items inside.live inside.next_container c.self.invariant c.args.of (subst (λ (s : Seen). c.args.of < length s.waiting) (sym c.self.view_is) c.requires) in
    let app = c.index-app.result.now in
    let at = slice_get_read apps (length apps) c.args.of app refl lt c.index-app.ensures in
    rw (← c.self.view_is)
    (c.stays_within.ensures
    ∙ (λ k. stays_in_limits (c.used.ensures k) c.args.old.now c.args.new.now ((c.as_slice.ensures ∙ c.position.ensures) k) inside.tree.rows)
    ∙ limits_are g.row.K inside.tree shown inside.apps.items inside.asks.items inside.nodes.items inside.skips.items inside.live inside.next_container c.self.invariant c.args.of app at c.args.old.now c.args.new.now)
