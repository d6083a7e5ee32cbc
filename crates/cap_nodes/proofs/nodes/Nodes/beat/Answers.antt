use Rattle.cap_nodes.proofs.Sizes.{present_fits}
use Rattle.cap_nodes.proofs.Prelude.{map, ◌∙◌, ap, sym, List, refl, beaten_load, reservation_of, ClusterNode, NodeTable}
use Rattle.cap_nodes.proofs.Changes.{load_of_node, is_at, with_beat, nodes_beaten, totals_beaten, kept_shown, rising_changed}
use Rattle.cap_nodes.proofs.Reserving.{have_changed}
use Rattle.cap_nodes.proofs.nodes.Nodes.beat.Goals as goal

pub beat-requires : goal.beat-requires
beat-requires g c =
    let at = load_of_node c.self.inside.present.loads c.args.number (rw (← c.self.view_is) at c.requires) in
    (search present_fits, is_at c.self.inside.present.loads c.args.number at.load at.at)

pub invariant_of-self : goal.invariant_of-self
invariant_of-self g c =
    rw c.beat.ensures.loads (
      with_beat g.row.K c.self.inside.present.loads c.self.inside.live.containers c.self.invariant.0 c.args.number c.args.ignored,
      c.self.invariant.1 ∙ sym (totals_beaten g.row.K c.args.number c.args.ignored c.self.inside.present.loads),
      rising_changed c.args.number (beaten_load c.args.ignored) (λ p. refl) c.self.inside.present.loads c.self.inside.present.next c.self.invariant.2,
      c.self.invariant.3,
      have_changed (map reservation_of c.self.inside.reserved.containers) c.args.number (beaten_load c.args.ignored) (λ p. (refl, refl)) c.self.inside.present.loads c.self.invariant.4,
    )

pub returns-clause-table : goal.returns-clause-table
returns-clause-table g c =
    rw (← c.self.view_is, c.beat.ensures.loads)
    (ap (λ (ns : List ClusterNode). let t : NodeTable = record { present = ns; live = c.self.inside.live.containers; reserved = map reservation_of c.self.inside.reserved.containers; next_node = c.self.inside.present.next; next_container = c.self.inside.live.next } in t)
    (nodes_beaten g.row.K c.args.number c.args.ignored c.self.inside.live.containers c.self.inside.present.loads c.self.invariant.0.ties))

pub returns-clause-kept : goal.returns-clause-kept
returns-clause-kept g c = kept_shown c.beat.new.self.loads c.args.number c.beat.result c.beat.ensures.kept
