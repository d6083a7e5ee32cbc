use Rattle.cap_copy.proofs.Prelude.{List, None, Some, map, subst, sym, SeenApp, AreApart, IsIndexOf, range_in}
use Rattle.cap_copy.specs.Sources.{apps_in}
use Rattle.cap_copy.proofs.Farming.{apart, none_of_number, of_number}
use Rattle.cap_copy.proofs.Fitting.{seen_app_of_few}
use Rattle.cap_copy.proofs.farm.SnapshotFarm.app_of.Goals as goal

pub index_of-requires : goal.index_of-requires
index_of-requires g c =
    let inside = c.self.inside in
    let shown = apps_in inside.sources.items in
    (seen_app_of_few _ c.self.invariant.resources, subst (λ (apps : List SeenApp). AreApart (map range_in apps)) (sym c.deref.ensures.value) (apart g.row.K inside.tree shown inside.apps.items inside.asks.items inside.nodes.items inside.skips.items inside.live inside.next_container c.self.invariant))

pub returns-in_default-clause-none : goal.returns-in_default-clause-none
returns-in_default-clause-none g c = λ none.
    let inside = c.self.inside in
    let shown = apps_in inside.sources.items in
    let missing = subst (λ (apps : List SeenApp). IsIndexOf c.args.number (map range_in apps) None) c.deref.ensures.value c.in_default.ensures in
    rw (← c.self.view_is) (none_of_number g.row.K inside.tree shown inside.apps.items inside.asks.items inside.nodes.items inside.skips.items inside.live inside.next_container c.self.invariant c.args.number missing)

pub returns-clause-has : goal.returns-clause-has
returns-clause-has g c =
    let inside = c.self.inside in
    let shown = apps_in inside.sources.items in
    let there = subst (λ (apps : List SeenApp). IsIndexOf c.args.number (map range_in apps) (Some c.in-Some.index)) c.deref.ensures.value c.in-Some.ensures in
    rw (← c.self.view_is) (of_number g.row.K inside.tree shown inside.apps.items inside.asks.items inside.nodes.items inside.skips.items inside.live inside.next_container c.self.invariant c.args.number c.in-Some.index there).0

pub returns-clause-found : goal.returns-clause-found
returns-clause-found g c =
    let inside = c.self.inside in
    let shown = apps_in inside.sources.items in
    let there = subst (λ (apps : List SeenApp). IsIndexOf c.args.number (map range_in apps) (Some c.in-Some.index)) c.deref.ensures.value c.in-Some.ensures in
    rw (← c.self.view_is) (of_number g.row.K inside.tree shown inside.apps.items inside.asks.items inside.nodes.items inside.skips.items inside.live inside.next_container c.self.invariant c.args.number c.in-Some.index there).1
