use Rattle.cap_nodes.proofs.Prelude.{Load, ◌∷◌, ◌++◌, ◌∙◌, [], List, ap, arith, map, refl, map_push, ClusterNode, Container, NodeTable, Reservation, change_load, reservation_of, reserved_load}
use Rattle.cap_nodes.proofs.Sizes.{containers_fit, present_fits, reserved_fits}
use Rattle.cap_nodes.proofs.Presents.{if_any}
use Rattle.cap_nodes.proofs.Changes.{same_nodes, sound_table}
use Rattle.cap_nodes.proofs.Holding.{holds_reserved}
use Rattle.cap_nodes.proofs.nodes.Nodes.reserve.Goals as goal

pub returns-then-count-ge-LIVE_MAX-clause-sound : goal.returns-then-count-ge-LIVE_MAX-clause-sound
returns-then-count-ge-LIVE_MAX-clause-sound g c =
    let x = c.self.inside in
    rw (← c.self.view_is) (sound_table g.row.K x.present.loads x.live.containers x.reserved.containers x.present.next x.live.next x.total c.self.invariant)

pub returns-in-Err-clause-sound : goal.returns-in-Err-clause-sound
returns-in-Err-clause-sound g c =
    let x = c.self.inside in
    rw c.in-Err.ensures.err (sound_table g.row.K x.present.loads x.live.containers x.reserved.containers x.present.next x.live.next x.total c.self.invariant)

pub invariant_of-self-2 : goal.invariant_of-self-2
invariant_of-self-2 g c =
    let x = c.self.inside in
    let container : Container = record { number = x.reserved.next; app = c.args.app; key = c.args.key.now; node = c.args.node; resource = c.args.resource.now } in
    rw (c.change.ensures.loads, c.in-Ok.ensures.ok.1) (holds_reserved g.row.K x.present.loads x.live.containers x.reserved.containers x.present.next x.total c.self.invariant container)

pub returns-clause-ok : goal.returns-clause-ok
returns-clause-ok g c =
    let x = c.self.inside in
    let container : Container = record { number = x.reserved.next; app = c.args.app; key = c.args.key.now; node = c.args.node; resource = c.args.resource.now } in
    let tables : List ClusterNode → List Reservation → NodeTable = λ ns rs. record { present = ns; live = x.live.containers; reserved = rs; next_node = x.present.next; next_container = x.live.next } in
    rw (← c.self.view_is, c.change.ensures.loads, c.in-Ok.ensures.ok.1)
    (ap (λ ns. tables ns (map reservation_of (x.reserved.containers ++ container ∷ []))) (same_nodes c.args.node (reserved_load (reservation_of container)) x.present.loads (λ p. refl))
    ∙ ap (tables (map (λ p. p.node) x.present.loads)) (map_push reservation_of x.reserved.containers container))

pub returns-clause-sound : goal.returns-clause-sound
returns-clause-sound g c =
    let x = c.self.inside in
    let container : Container = record { number = x.reserved.next; app = c.args.app; key = c.args.key.now; node = c.args.node; resource = c.args.resource.now } in
    let loads = change_load c.args.node (reserved_load (reservation_of container)) x.present.loads in
    rw (c.change.ensures.loads, c.in-Ok.ensures.ok.1) (sound_table g.row.K loads x.live.containers (x.reserved.containers ++ container ∷ []) x.present.next x.live.next x.total (holds_reserved g.row.K x.present.loads x.live.containers x.reserved.containers x.present.next x.total c.self.invariant container))

pub push-requires : goal.push-requires
push-requires g c =
    let few = c.if-count-ge-LIVE_MAX.false in
    let count = rw c.made-reserved.ensures at c.count.ensures.value in
    let below = c.if-next-ge-NUMBER_END.false in
    let next = rw c.made-reserved.ensures at c.next.ensures in
    (search reserved_fits, ((search), (omega (arith, few, count), omega (arith, below, next))))

pub count-requires : goal.count-requires
count-requires g c = search containers_fit

pub next-requires : goal.next-requires
next-requires g c = search containers_fit

pub change-requires : goal.change-requires
change-requires g c = (search present_fits, (omega arith, if_any (λ (p : Load). Unit {0}) _ (λ p. tt)))
