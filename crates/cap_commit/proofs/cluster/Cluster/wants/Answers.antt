use Rattle.cap_commit.proofs.Fitting.{in_cluster, nodes_in_cluster}
use Rattle.cap_commit.proofs.Prelude.{sym, ◌∙◌, ◌||◌, or_false}
use Rattle.cap_commit.proofs.Seen.{wants_seen}
use Rattle.cap_commit.proofs.cluster.Cluster.wants.Goals as goal

pub returns-else-own : goal.returns-else-own
returns-else-own g c =
    let off = sym (rw (← c.self.view_is) at c.requires.own) ∙ c.if-own.false in
    rw (← c.self.view_is, c.count.ensures, c.reserved_for.ensures, c.app.ensures, c.key.ensures)
    (sym ((λ i. wants_seen _ c.self.invariant.consistent c.numbers_rise.ensures.nodes c.args.proposal.now c.args.ask.now (rw (← c.self.view_is) at c.requires.ask) i || off i) ∙ or_false _))

pub numbers_rise-requires : goal.numbers_rise-requires
numbers_rise-requires g c = search nodes_in_cluster

pub reserved_for-requires : goal.reserved_for-requires
reserved_for-requires g c = search nodes_in_cluster

pub key-requires : goal.key-requires
key-requires g c = search in_cluster

pub count-requires : goal.count-requires
count-requires g c = search in_cluster

pub app-requires : goal.app-requires
app-requires g c = search in_cluster
