use Rattle.cap_commit.proofs.Fitting.{nodes_in_cluster}
use Rattle.cap_commit.proofs.Prelude.{ap, arith, sym, ◌∙◌, ◌==◌, find, Container, ClusterState, owns, first_above}
use Rattle.cap_commit.proofs.cluster.Cluster.first_of.Goals as goal

pub returns-in-Application-clause-first : goal.returns-in-Application-clause-first
returns-in-Application-clause-first g c =
    let here = c.self.inside.nodes in
    c.next_of_app.ensures
    ∙ first_above (λ (d : Container). d.app == c.in-Application.app) 1 here.live here.next_container (omega arith) c.self.invariant.consistent.numbers
    ∙ ap (λ o. find (owns o) here.live) (sym c.in-Application.is)
    ∙ ap (λ (h : ClusterState g.row.K). find (owns c.args.owner) h.flat.nodes.live) c.self.view_is

pub returns-in-Node-clause-first : goal.returns-in-Node-clause-first
returns-in-Node-clause-first g c =
    let here = c.self.inside.nodes in
    c.next_on_node.ensures
    ∙ first_above (λ (d : Container). d.node == c.in-Node.node) 1 here.live here.next_container (omega arith) c.self.invariant.consistent.numbers
    ∙ ap (λ o. find (owns o) here.live) (sym c.in-Node.is)
    ∙ ap (λ (h : ClusterState g.row.K). find (owns c.args.owner) h.flat.nodes.live) c.self.view_is

pub next_of_app-requires : goal.next_of_app-requires
next_of_app-requires g c = search nodes_in_cluster

pub next_on_node-requires : goal.next_on_node-requires
next_on_node-requires g c = search nodes_in_cluster

pub returns-in-Node-clause-few : goal.returns-in-Node-clause-few
returns-in-Node-clause-few g c = rw (← c.self.view_is) c.self.invariant.consistent.few_live

pub returns-in-Application-clause-few : goal.returns-in-Application-clause-few
returns-in-Application-clause-few g c = rw (← c.self.view_is) c.self.invariant.consistent.few_live

pub returns-in-Node-clause-resources : goal.returns-in-Node-clause-resources
returns-in-Node-clause-resources g c = c.self.invariant.consistent.resources
