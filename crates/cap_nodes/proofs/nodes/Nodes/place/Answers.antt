use Rattle.cap_nodes.proofs.Sizes.{present_fits, containers_fit}
use Rattle.cap_nodes.proofs.Prelude.{map, arith, ◌≡◌, ◌+◌, ◌++◌, ◌∷◌, [], ap, List, refl, length, plus, less, Fits, ClusterNode, Container, NodeTable, Load, change_load, held_more, CanHold, reservation_of}
use Rattle.cap_nodes.proofs.Ties.{has_room}
use Rattle.cap_nodes.proofs.Presents.{of_found, if_found}
use Rattle.cap_nodes.proofs.Changes.{load_of_node, tie_of, free_is, same_nodes, sound_table}
use Rattle.cap_nodes.proofs.Holding.{holds_placed}
use Rattle.cap_nodes.proofs.nodes.Nodes.place.Goals as goal

pub change-requires : goal.change-requires
change-requires g c =
    let at = load_of_node c.self.inside.present.loads c.args.node (rw (← c.self.view_is) at c.requires.present) in
    let tie = (tie_of g.row.K c.self.inside.present.loads c.self.inside.live.containers c.self.invariant.0 c.args.node at.load at.at).0 in
    let room : Fits c.args.resource.now (less at.load.node.total at.load.held) = rw (free_is g.row.K c.self.inside.present.loads c.self.inside.live.containers c.self.invariant.0 c.args.node at.load at.at) (rw (← c.self.view_is) at c.requires.room) in (
      search present_fits,
      (
        omega arith,
        if_found (CanHold c.args.resource.now) _ at.load at.at (has_room g.row.K c.self.inside.live.containers c.args.resource.now at.load tie room (rw (← c.self.view_is) at c.requires.few)),
      ),
    )

pub invariant_of-self-2 : goal.invariant_of-self-2
invariant_of-self-2 g c =
    let x = c.self.inside in
    let at = load_of_node x.present.loads c.args.node (rw (← c.self.view_is) at c.requires.present) in
    let container : Container = record { number = x.live.next; app = c.args.app; key = c.args.key.now; node = c.args.node; resource = c.args.resource.now } in
    let room : Fits c.args.resource.now (less at.load.node.total at.load.held) = rw (free_is g.row.K x.present.loads x.live.containers c.self.invariant.0 c.args.node at.load at.at) (rw (← c.self.view_is) at c.requires.room) in
    let count = of_found (λ (p : Load). length (plus p.held c.args.resource.now) ≡ g.row.K) _ at.load at.at c.change.ensures.count in
    rw (c.change.ensures.loads, c.in-Ok.ensures.ok.1) (holds_placed g.row.K x.present.loads x.live.containers x.reserved.containers x.present.next x.total c.self.invariant c.args.node at.load container at.at refl room count)

pub returns-clause-sound : goal.returns-clause-sound
returns-clause-sound g c =
    let x = c.self.inside in
    let at = load_of_node x.present.loads c.args.node (rw (← c.self.view_is) at c.requires.present) in
    let container : Container = record { number = x.live.next; app = c.args.app; key = c.args.key.now; node = c.args.node; resource = c.args.resource.now } in
    let room : Fits c.args.resource.now (less at.load.node.total at.load.held) = rw (free_is g.row.K x.present.loads x.live.containers c.self.invariant.0 c.args.node at.load at.at) (rw (← c.self.view_is) at c.requires.room) in
    let count = of_found (λ (p : Load). length (plus p.held c.args.resource.now) ≡ g.row.K) _ at.load at.at c.change.ensures.count in
    let now = change_load c.args.node (held_more c.args.resource.now) x.present.loads in
    rw (c.change.ensures.loads, c.in-Ok.ensures.ok.1)
    (sound_table g.row.K now (x.live.containers ++ container ∷ []) x.reserved.containers x.present.next (x.live.next + 1) x.total
    (holds_placed g.row.K x.present.loads x.live.containers x.reserved.containers x.present.next x.total c.self.invariant c.args.node at.load container at.at refl room count))

pub returns-in-Err-clause-sound : goal.returns-in-Err-clause-sound
returns-in-Err-clause-sound g c =
    let x = c.self.inside in
    rw c.in-Err.ensures.err (sound_table g.row.K x.present.loads x.live.containers x.reserved.containers x.present.next x.live.next x.total c.self.invariant)

pub returns-clause-ok : goal.returns-clause-ok
returns-clause-ok g c =
    let container : Container = record { number = c.self.inside.live.next; app = c.args.app; key = c.args.key.now; node = c.args.node; resource = c.args.resource.now } in
    rw (← c.self.view_is, c.change.ensures.loads, c.in-Ok.ensures.ok.1) (
      c.in-Ok.ensures.ok.0,
      ap (λ (ns : List ClusterNode). let t : NodeTable = record { present = ns; live = c.self.inside.live.containers ++ container ∷ []; reserved = map reservation_of c.self.inside.reserved.containers; next_node = c.self.inside.present.next; next_container = c.self.inside.live.next + 1 } in t)
          (same_nodes c.args.node (held_more c.args.resource.now) c.self.inside.present.loads (λ p. refl)),
    )

pub push-requires : goal.push-requires
push-requires g c = (search containers_fit, ((search), (rw (← c.self.view_is) at c.requires.few, rw (← c.self.view_is) at c.requires.numbered)))
