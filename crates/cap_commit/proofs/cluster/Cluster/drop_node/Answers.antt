use Rattle.cap_commit.proofs.Fitting.{nodes_in_cluster}
use Rattle.cap_commit.proofs.Prelude.{ap, sym, subst, ◌∙◌, IsSome, filter, ◌==◌, ◌≡◌, [], Flat, NodeTable, Reservation, containers_on, node_at, remove_node, ClusterState, Parts, flat_of, reserved_gone}
use Rattle.cap_commit.proofs.Dropping.{none_stay}
use Rattle.cap_commit.proofs.Holding.{held_nodes}
use Rattle.cap_commit.proofs.Followed.{follows_nodes}
use Rattle.cap_commit.proofs.Reach.{node_gone}
use Rattle.cap_commit.proofs.cluster.Cluster.drop_node.Goals as goal

pub gone-requires : goal.gone-requires
gone-requires g c =
    let here : IsSome (node_at c.unreserve_node.new.self.flat c.args.number) = subst (λ (x : Flat g.row.K). IsSome (node_at x c.args.number)) (sym c.unreserve_node.ensures.flat) c.requires.present in
    let none : containers_on c.unreserve_node.new.self.flat.nodes c.args.number ≡ [] = subst (λ (x : Flat g.row.K). containers_on x.nodes c.args.number ≡ []) (sym c.unreserve_node.ensures.flat) c.requires.empty in
    (search nodes_in_cluster, (rw (← c.self.view_is) at here, rw (← c.self.view_is) at none))

pub invariant_of-self : goal.invariant_of-self
invariant_of-self g c =
    let kept = ap (λ (h : ClusterState g.row.K). h.flat.nodes.reserved) c.self.view_is ∙ ap (λ (f : Flat g.row.K). f.nodes.reserved) c.unreserve_node.ensures.flat in
    let none = ap (filter (λ (r : Reservation). r.node == c.args.number)) kept ∙ none_stay (λ (r : Reservation). r.node == c.args.number) c.args.self.now.flat.nodes.reserved in
    record {
      consistent =
          held_nodes _ c.self.invariant.consistent c.gone.new.self (ap (λ (t : NodeTable). t.live) c.gone.ensures) (ap (λ (t : NodeTable). t.reserved) c.gone.ensures) (ap (λ (t : NodeTable). t.next_container) c.gone.ensures)
          (reserved_gone c.args.number c.self.inside.nodes c.gone.new.self none c.gone.ensures c.self.invariant.consistent.reservations);
      waiting = follows_nodes c.self.inside.nodes.present c.gone.new.self.present c.self.inside.apps.table.active c.self.inside.tree.value (λ wants. node_gone c.args.number c.self.inside.nodes c.gone.new.self wants c.gone.ensures) c.self.invariant.waiting;
      impossible = node_gone c.args.number c.self.inside.nodes c.gone.new.self c.self.inside.apps.impossible c.gone.ensures c.self.invariant.impossible;
    }

pub returns-clause-flat : goal.returns-clause-flat
returns-clause-flat g c =
    let start = c.args.self.now.flat in
    let dropped = ap (λ (h : ClusterState g.row.K). h.flat) c.self.view_is ∙ c.unreserve_node.ensures.flat in
    let p : Parts g.row.K = record { rows = c.self.inside.tree.value; limits = c.self.inside.limits; apps = c.self.inside.apps; nodes = c.self.inside.nodes } in
    ap (λ (t : NodeTable). record (flat_of p) { nodes = t }) c.gone.ensures ∙ ap (λ (f : Flat g.row.K). record f { nodes = remove_node c.args.number f.nodes }) dropped

pub returns-clause-accounts : goal.returns-clause-accounts
returns-clause-accounts g c = ap (λ (h : ClusterState g.row.K). h.accounts) c.self.view_is ∙ c.unreserve_node.ensures.accounts

pub unreserve_node-requires : goal.unreserve_node-requires
unreserve_node-requires g c = search
