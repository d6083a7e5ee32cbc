use Rattle.cap_copy.proofs.Prelude.{◌∙◌, ◌≡◌, ◌+◌, ◌<◌, ap, arith, length, refl, subst, sym, Some, slice_get, slice_get_read, Ask, AskRange, Seen, app_nth, get_or}
use Rattle.cap_copy.specs.Sources.{apps_in}
use Rattle.cap_copy.proofs.Farming.{ask_within, entry_is, within}
use Rattle.cap_copy.proofs.Fitting.{seen_app_of_few}
use Rattle.cap_copy.proofs.farm.SnapshotFarm.ask.Goals as goal

pub index-requires : goal.index-requires
index-requires g c =
    let inside = c.self.inside in
    let shown = apps_in inside.sources.items in
    let apps = inside.apps.items in
    let lt = within g.row.K inside.tree shown inside.apps.items inside.asks.items inside.nodes.items inside.skips.items inside.live inside.next_container c.self.invariant c.args.of (subst (λ (s : Seen). c.args.of < length s.waiting) (sym c.self.view_is) c.requires.has) in
    subst (λ n. c.args.of < n) (sym inside.apps.ok.0) lt

pub range-range-requires : goal.range-range-requires
range-range-requires g c = seen_app_of_few _ c.self.invariant.resources

pub overflow_add-range : goal.overflow_add-range
overflow_add-range g c =
    let inside = c.self.inside in
    let shown = apps_in inside.sources.items in
    let apps = inside.apps.items in
    let lt = within g.row.K inside.tree shown inside.apps.items inside.asks.items inside.nodes.items inside.skips.items inside.live inside.next_container c.self.invariant c.args.of (subst (λ (s : Seen). c.args.of < length s.waiting) (sym c.self.view_is) c.requires.has) in
    let a = c.index.result.now in
    let at = slice_get_read apps (length apps) c.args.of a refl lt c.index.ensures in
    let less = subst (λ (s : Seen). c.args.index < length (app_nth s.waiting c.args.of).asks) (sym c.self.view_is) c.requires.index in
    let start : c.range-range.result.start ≡ a.start = ap (λ (r : AskRange). r.start) c.range-range.ensures in
    let far = ask_within g.row.K inside.tree shown inside.apps.items inside.asks.items inside.nodes.items inside.skips.items inside.live inside.next_container c.self.invariant c.args.of a at c.args.index less in
    let len = inside.asks.ok in
    omega (arith, start, far, len)

pub index-requires-2 : goal.index-requires-2
index-requires-2 g c =
    let inside = c.self.inside in
    let shown = apps_in inside.sources.items in
    let apps = inside.apps.items in
    let lt = within g.row.K inside.tree shown inside.apps.items inside.asks.items inside.nodes.items inside.skips.items inside.live inside.next_container c.self.invariant c.args.of (subst (λ (s : Seen). c.args.of < length s.waiting) (sym c.self.view_is) c.requires.has) in
    let a = c.index.result.now in
    let at = slice_get_read apps (length apps) c.args.of a refl lt c.index.ensures in
    let less = subst (λ (s : Seen). c.args.index < length (app_nth s.waiting c.args.of).asks) (sym c.self.view_is) c.requires.index in
    let start : c.range-range.result.start ≡ a.start = ap (λ (r : AskRange). r.start) c.range-range.ensures in
    let far = ask_within g.row.K inside.tree shown inside.apps.items inside.asks.items inside.nodes.items inside.skips.items inside.live inside.next_container c.self.invariant c.args.of a at c.args.index less in
    subst (λ n. n + c.args.index < inside.asks.len) (sym start) (subst (λ n. a.start + c.args.index < n) (sym inside.asks.ok.0) far)

pub ask-requires : goal.ask-requires
ask-requires g c = let few = c.self.invariant.resources in (omega (arith, few), omega (arith, few))

pub returns : goal.returns
returns g c =
    let inside = c.self.inside in
    let shown = apps_in inside.sources.items in
    let apps = inside.apps.items in
    let lt = within g.row.K inside.tree shown inside.apps.items inside.asks.items inside.nodes.items inside.skips.items inside.live inside.next_container c.self.invariant c.args.of (subst (λ (s : Seen). c.args.of < length s.waiting) (sym c.self.view_is) c.requires.has) in
    let a = c.index.result.now in
    let at = slice_get_read apps (length apps) c.args.of a refl lt c.index.ensures in
    let less = subst (λ (s : Seen). c.args.index < length (app_nth s.waiting c.args.of).asks) (sym c.self.view_is) c.requires.index in
    let start : c.range-range.result.start ≡ a.start = ap (λ (r : AskRange). r.start) c.range-range.ensures in
    let far = ask_within g.row.K inside.tree shown inside.apps.items inside.asks.items inside.nodes.items inside.skips.items inside.live inside.next_container c.self.invariant c.args.of a at c.args.index less in
    let asks = inside.asks.items in
    let e = c.index-2.result.now in
    let there : slice_get asks (a.start + c.args.index) ≡ Some e = slice_get_read asks (length asks) (a.start + c.args.index) e refl far (subst (λ n. e ≡ get_or asks (n + c.args.index) e) start c.index-2.ensures) in
    let is = entry_is g.row.K inside.tree shown inside.apps.items inside.asks.items inside.nodes.items inside.skips.items inside.live inside.next_container c.self.invariant c.args.of a at c.args.index e less there in
    rw (← c.self.view_is) (is.0 ∙ ap (λ (x : Ask). Some x) (sym c.ask.ensures))
