use Rattle.cap_world.proofs.Prelude.{ap, refl, length, List, resources, Event, Known, WorldState, opening_of, events_of}
use Rattle.cap_world.proofs.Keeping.{lawful_kept, adds_kept}
use Rattle.cap_world.proofs.Promises.{stays_bounded, happens_once}
use Rattle.cap_world.proofs.world.World.step.Goals as goal

pub invariant_of-self : goal.invariant_of-self
invariant_of-self c =
    let old : WorldState = record { cluster = c.self.inside.cluster.flat; connections = c.self.inside.connections.entries; workers = c.self.inside.workers.entries } in
    let new : WorldState = record { cluster = c.act-result.new.cluster.flat; connections = c.act-result.new.connections.entries; workers = c.act-result.new.workers.entries } in
    lawful_kept (opening_of c.self.inside.opening.items) c.args.step c.act-result.result old new c.self.inside.events.items c.and-self-inside.result.items c.act-result.new.events (length c.as_slice.result.now) c.args.events.now.items (ap (λ (es : List (Event resources)). length es) c.as_slice.ensures.value) c.and-self-inside.ensures c.act-result.ensures c.self.invariant

pub returns-clause-headline : goal.returns-clause-headline
returns-clause-headline c = invariant_of-self c

pub returns-clause-bounded : goal.returns-clause-bounded
returns-clause-bounded c = stays_bounded (opening_of c.self.inside.opening.items) (events_of c.and-self-inside.result.items) c.act-result.new.cluster.flat (invariant_of-self c).run

pub returns-clause-once : goal.returns-clause-once
returns-clause-once c = happens_once (opening_of c.self.inside.opening.items) (events_of c.and-self-inside.result.items) c.act-result.new.cluster.flat (invariant_of-self c).run

pub returns-clause-adds : goal.returns-clause-adds
returns-clause-adds c =
    let old : WorldState = record { cluster = c.self.inside.cluster.flat; connections = c.self.inside.connections.entries; workers = c.self.inside.workers.entries } in
    let new : WorldState = record { cluster = c.act-result.new.cluster.flat; connections = c.act-result.new.connections.entries; workers = c.act-result.new.workers.entries } in
    adds_kept c.args.self.now _ c.args.step c.act-result.result old new c.self.inside.events.items c.and-self-inside.result.items c.act-result.new.events (length c.as_slice.result.now) c.args.events.now.items (ap (λ (es : List (Event resources)). length es) c.as_slice.ensures.value) c.and-self-inside.ensures c.act-result.ensures (ap (λ (w : Known). w.events) c.self.view_is) refl (ap (λ (w : Known). w.opening) c.self.view_is)
