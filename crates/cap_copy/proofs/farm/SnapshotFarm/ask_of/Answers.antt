use Rattle.cap_copy.proofs.Prelude.{◌≡◌, ◌∙◌, ◌+◌, ◌<◌, ◌≤◌, ap, arith, length, refl, subst, sym, Some, slice_get, slice_get_read, same_key, Ask, AskRange, Key, ℕ, false, map, Seen, SeenApp, app_nth, app_sight}
use Rattle.cap_copy.specs.Sources.{apps_in}
use Rattle.cap_copy.proofs.Farming.{all_other, ends, less_than, nothing_less, one_other, one_same, stopped, within}
use Rattle.cap_copy.proofs.Fitting.{seen_app_of_few}
use Rattle.cap_copy.proofs.farm.SnapshotFarm.ask_of.Goals as goal

pub index-requires : goal.index-requires
index-requires g c =
    let inside = c.self.inside in
    let shown = apps_in inside.sources.items in
    let apps = inside.apps.items in
    let lt = within g.row.K inside.tree shown inside.apps.items inside.asks.items inside.nodes.items inside.skips.items inside.live inside.next_container c.self.invariant c.args.of (subst (λ (s : Seen). c.args.of < length s.waiting) (sym c.self.view_is) c.requires) in
    subst (λ n. c.args.of < n) (sym inside.apps.ok.0) lt

pub range-range-requires : goal.range-range-requires
range-range-requires g c = seen_app_of_few _ c.self.invariant.resources

pub loop-index-init : goal.loop-index-init
loop-index-init g c = λ k ask less at. absurd (nothing_less c.range-range.result.start k less)

pub index-requires-in-loop-index : goal.index-requires-in-loop-index
index-requires-in-loop-index g c =
    let inside = c.self.inside in
    let shown = apps_in inside.sources.items in
    let apps = inside.apps.items in
    let lt = within g.row.K inside.tree shown inside.apps.items inside.asks.items inside.nodes.items inside.skips.items inside.live inside.next_container c.self.invariant c.args.of (subst (λ (s : Seen). c.args.of < length s.waiting) (sym c.self.view_is) c.requires) in
    let a = c.index.result.now in
    let at = slice_get_read apps (length apps) c.args.of a refl lt c.index.ensures in
    let start : c.range-range.result.start ≡ a.start = ap (λ (r : AskRange). r.start) c.range-range.ensures in
    let end : c.range-range.result.end ≡ a.end = ap (λ (r : AskRange). r.end) c.range-range.ensures in
    let asks = inside.asks.items in
    let index = c.loop-index.index in
    let to : index < a.end = subst (λ n. index < n) end c.loop-index-test.true in
    let most = (ends g.row.K inside.tree shown inside.apps.items inside.asks.items inside.nodes.items inside.skips.items inside.live inside.next_container c.self.invariant c.args.of a at).1 in
    let lower : index < length asks = less_than index a.end (length asks) to most in
    subst (λ n. index < n) (sym inside.asks.ok.0) lower

pub ask-ask-requires : goal.ask-ask-requires
ask-ask-requires g c = let few = c.self.invariant.resources in (omega (arith, few), omega (arith, few))

pub returns-then-is_same : goal.returns-then-is_same
returns-then-is_same g c =
    let inside = c.self.inside in
    let shown = apps_in inside.sources.items in
    let apps = inside.apps.items in
    let lt = within g.row.K inside.tree shown inside.apps.items inside.asks.items inside.nodes.items inside.skips.items inside.live inside.next_container c.self.invariant c.args.of (subst (λ (s : Seen). c.args.of < length s.waiting) (sym c.self.view_is) c.requires) in
    let a = c.index.result.now in
    let at = slice_get_read apps (length apps) c.args.of a refl lt c.index.ensures in
    let start : c.range-range.result.start ≡ a.start = ap (λ (r : AskRange). r.start) c.range-range.ensures in
    let end : c.range-range.result.end ≡ a.end = ap (λ (r : AskRange). r.end) c.range-range.ensures in
    let asks = inside.asks.items in
    let index = c.loop-index.index in
    let to : index < a.end = subst (λ n. index < n) end c.loop-index-test.true in
    let most = (ends g.row.K inside.tree shown inside.apps.items inside.asks.items inside.nodes.items inside.skips.items inside.live inside.next_container c.self.invariant c.args.of a at).1 in
    let lower : index < length asks = less_than index a.end (length asks) to most in
    let e = c.index-in-loop-index.result.now in
    let there : slice_get asks index ≡ Some e = slice_get_read asks (length asks) index e refl lower c.index-in-loop-index.ensures in
    let from : a.start ≤ index = subst (λ n. n ≤ index) start c.loop-index.auto.index in
    let key : same_key e.ask.key c.args.key.now ≡ c.is_same.result = ap (λ (x : Ask). same_key x.key c.args.key.now) (sym c.ask-ask.ensures) ∙ ap (λ (x : Key). same_key x c.args.key.now) (sym c.key.ensures) ∙ sym c.is_same.ensures in
    rw (← c.self.view_is) (ap (λ (x : Ask). Some x) c.ask-ask.ensures ∙ one_same g.row.K inside.tree shown inside.apps.items inside.asks.items inside.nodes.items inside.skips.items inside.live inside.next_container c.self.invariant c.args.of a at index e c.args.key.now from to there (key ∙ c.if-is_same.true))

pub loop-index-preserved : goal.loop-index-preserved
loop-index-preserved g c =
    let inside = c.self.inside in
    let shown = apps_in inside.sources.items in
    let apps = inside.apps.items in
    let lt = within g.row.K inside.tree shown inside.apps.items inside.asks.items inside.nodes.items inside.skips.items inside.live inside.next_container c.self.invariant c.args.of (subst (λ (s : Seen). c.args.of < length s.waiting) (sym c.self.view_is) c.requires) in
    let a = c.index.result.now in
    let at = slice_get_read apps (length apps) c.args.of a refl lt c.index.ensures in
    let start : c.range-range.result.start ≡ a.start = ap (λ (r : AskRange). r.start) c.range-range.ensures in
    let end : c.range-range.result.end ≡ a.end = ap (λ (r : AskRange). r.end) c.range-range.ensures in
    let asks = inside.asks.items in
    let index = c.loop-index.index in
    let to : index < a.end = subst (λ n. index < n) end c.loop-index-test.true in
    let most = (ends g.row.K inside.tree shown inside.apps.items inside.asks.items inside.nodes.items inside.skips.items inside.live inside.next_container c.self.invariant c.args.of a at).1 in
    let lower : index < length asks = less_than index a.end (length asks) to most in
    let e = c.index-in-loop-index.result.now in
    let there : slice_get asks index ≡ Some e = slice_get_read asks (length asks) index e refl lower c.index-in-loop-index.ensures in
    let from : a.start ≤ index = subst (λ n. n ≤ index) start c.loop-index.auto.index in
    let key : same_key e.ask.key c.args.key.now ≡ c.is_same.result = ap (λ (x : Ask). same_key x.key c.args.key.now) (sym c.ask-ask.ensures) ∙ ap (λ (x : Key). same_key x c.args.key.now) (sym c.key.ensures) ∙ sym c.is_same.ensures in
    let before = subst (λ n. (k : ℕ) (ask : Ask) → n + k < c.loop-index.index → slice_get (app_nth (map (λ (x : SeenApp). app_sight x.held.app) apps) c.args.of).asks k ≡ Some ask → same_key ask.key c.args.key.now ≡ false) start
    (subst (λ (s : Seen). (k : ℕ) (ask : Ask) → c.range-range.result.start + k < c.loop-index.index → slice_get (app_nth s.waiting c.args.of).asks k ≡ Some ask → same_key ask.key c.args.key.now ≡ false) (sym c.self.view_is) c.loop-index.invariant) in
    let after = one_other g.row.K inside.tree shown inside.apps.items inside.asks.items inside.nodes.items inside.skips.items inside.live inside.next_container c.self.invariant c.args.of a at index e c.args.key.now from to there (key ∙ c.if-is_same.false) before in
    subst (λ (s : Seen). (k : ℕ) (ask : Ask) → c.range-range.result.start + k < index + 1 → slice_get (app_nth s.waiting c.args.of).asks k ≡ Some ask → same_key ask.key c.args.key.now ≡ false) c.self.view_is
    (subst (λ n. (k : ℕ) (ask : Ask) → n + k < index + 1 → slice_get (app_nth (map (λ (x : SeenApp). app_sight x.held.app) apps) c.args.of).asks k ≡ Some ask → same_key ask.key c.args.key.now ≡ false) (sym start) after)

pub returns : goal.returns
returns g c =
    let inside = c.self.inside in
    let shown = apps_in inside.sources.items in
    let apps = inside.apps.items in
    let lt = within g.row.K inside.tree shown inside.apps.items inside.asks.items inside.nodes.items inside.skips.items inside.live inside.next_container c.self.invariant c.args.of (subst (λ (s : Seen). c.args.of < length s.waiting) (sym c.self.view_is) c.requires) in
    let a = c.index.result.now in
    let at = slice_get_read apps (length apps) c.args.of a refl lt c.index.ensures in
    let start : c.range-range.result.start ≡ a.start = ap (λ (r : AskRange). r.start) c.range-range.ensures in
    let end : c.range-range.result.end ≡ a.end = ap (λ (r : AskRange). r.end) c.range-range.ensures in
    let before = subst (λ n. (k : ℕ) (ask : Ask) → n + k < c.loop-index.index → slice_get (app_nth (map (λ (x : SeenApp). app_sight x.held.app) apps) c.args.of).asks k ≡ Some ask → same_key ask.key c.args.key.now ≡ false) start
    (subst (λ (s : Seen). (k : ℕ) (ask : Ask) → c.range-range.result.start + k < c.loop-index.index → slice_get (app_nth s.waiting c.args.of).asks k ≡ Some ask → same_key ask.key c.args.key.now ≡ false) (sym c.self.view_is) c.loop-index.invariant) in
    let ordered : c.range-range.result.start ≤ c.range-range.result.end = subst (λ (r : AskRange). r.start ≤ r.end) (sym c.range-range.ensures) (ends g.row.K inside.tree shown inside.apps.items inside.asks.items inside.nodes.items inside.skips.items inside.live inside.next_container c.self.invariant c.args.of a at).0 in
    let last = stopped c.loop-index.index c.range-range.result.end c.range-range.result.start c.loop-index-test.false c.loop-index.auto.index-end ordered ∙ end in
    rw (← c.self.view_is) (all_other g.row.K inside.tree shown inside.apps.items inside.asks.items inside.nodes.items inside.skips.items inside.live inside.next_container c.self.invariant c.args.of a at c.args.key.now (subst (λ n. (k : ℕ) (ask : Ask) → a.start + k < n → slice_get (app_nth (map (λ (x : SeenApp). app_sight x.held.app) apps) c.args.of).asks k ≡ Some ask → same_key ask.key c.args.key.now ≡ false) last before))
