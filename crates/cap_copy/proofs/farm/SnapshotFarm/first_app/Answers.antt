use Rattle.cap_copy.proofs.Prelude.{None}
use Rattle.cap_copy.specs.Sources.{apps_in}
use Rattle.cap_copy.proofs.Farming.{first_served, served_within}
use Rattle.cap_copy.proofs.Fitting.{tree_in_snapshot}
use Rattle.cap_copy.proofs.farm.SnapshotFarm.first_app.Goals as goal

pub first_served-requires : goal.first_served-requires
first_served-requires g c = search tree_in_snapshot

pub returns-clause-has : goal.returns-clause-has
returns-clause-has g c =
    let inside = c.self.inside in
    let shown = apps_in inside.sources.items in
    rw (← c.self.view_is) (served_within g.row.K inside.tree shown inside.apps.items inside.asks.items inside.nodes.items inside.skips.items inside.live inside.next_container c.self.invariant None c.first_served.result c.first_served.ensures.next)

pub returns-clause-served : goal.returns-clause-served
returns-clause-served g c =
    let inside = c.self.inside in
    let shown = apps_in inside.sources.items in
    rw (← c.self.view_is) (served_within g.row.K inside.tree shown inside.apps.items inside.asks.items inside.nodes.items inside.skips.items inside.live inside.next_container c.self.invariant None c.first_served.result c.first_served.ensures.next)

pub returns-clause-first : goal.returns-clause-first
returns-clause-first g c =
    let inside = c.self.inside in
    let shown = apps_in inside.sources.items in
    rw (← c.self.view_is) (first_served g.row.K inside.tree shown inside.apps.items inside.asks.items inside.nodes.items inside.skips.items inside.live inside.next_container c.self.invariant c.first_served.result c.first_served.ensures.next)
