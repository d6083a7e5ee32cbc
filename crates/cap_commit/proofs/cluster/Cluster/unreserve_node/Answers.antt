use Rattle.cap_commit.proofs.Fitting.{nodes_in_cluster, reservation_in_cluster}
use Rattle.cap_commit.proofs.Prelude.{ap, sym, ◌∙◌, arith, filter, with_reserved, is_elsewhere, all_elsewhere, Parts, flat_of}
use Rattle.cap_commit.proofs.Dropping.{same_node, found_again}
use Rattle.cap_commit.proofs.cluster.Cluster.unreserve_node.Goals as goal

pub unreserve-requires : goal.unreserve-requires
unreserve-requires g c =
    let kinds = c.self.invariant.consistent.resources in
    ((search), (omega (arith, kinds), rw (← c.self.view_is) (found_again c.args.number c.self.inside.nodes.reserved c.in-Some.reservation (sym c.reservation_on.ensures ∙ c.in-Some.is))))

pub returns-in-Some-clause-flat : goal.returns-in-Some-clause-flat
returns-in-Some-clause-flat g c =
    let old = c.args.self.now.flat in
    let is = same_node c.args.number c.self.inside.nodes.reserved c.in-Some.reservation (sym c.reservation_on.ensures ∙ c.in-Some.is) in
    c.unreserve.ensures.flat ∙ ap (λ n. with_reserved (filter (is_elsewhere n) old.nodes.reserved) old) is

pub returns-in_default-clause-flat : goal.returns-in_default-clause-flat
returns-in_default-clause-flat g c =
    let x = c.self.inside in
    let p : Parts g.row.K = record { rows = x.tree.value; limits = x.limits; apps = x.apps; nodes = x.nodes } in
    rw (← c.self.view_is) (sym (ap (λ rs. with_reserved rs (flat_of p)) (all_elsewhere c.args.number x.nodes.reserved (sym c.in_default.is ∙ c.reservation_on.ensures))))

pub reservation_on-requires : goal.reservation_on-requires
reservation_on-requires g c = search (nodes_in_cluster, reservation_in_cluster)
