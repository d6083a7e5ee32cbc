use Rattle.cap_commit.proofs.Fitting.{in_cluster, nodes_in_cluster, reservation_in_cluster}
use Rattle.cap_commit.proofs.Prelude.{ap, sym, ◌∙◌, arith, filter, find, slice_get, Flat, NodeTable, is_for, made_after}
use Rattle.cap_commit.proofs.Dropping.{none_dropped, one_dropped, all_dropped, fewer_left, passes_found, takes_place}
use Rattle.cap_commit.proofs.cluster.Cluster.keep_first.Goals as goal

pub loop-next-init : goal.loop-next-init
loop-next-init g c =
    let test = is_for c.args.number c.args.key.now in
    (none_dropped test c.args.most c.args.self.now, c.reservation_for-next.ensures ∙ ap (λ (t : NodeTable). slice_get (filter test t.reserved) c.args.most) c.nodes.ensures.value)

pub unreserve-requires : goal.unreserve-requires
unreserve-requires g c =
    let now = c.loop-next in
    let kinds = c.nodes.ensures.resources in
    ((search), (omega (arith, kinds), passes_found (is_for c.args.number c.args.key.now) c.args.most now.self.flat.nodes.reserved c.in-Some.reservation c.nodes-in-Some.ensures.apart (sym now.invariant.1 ∙ c.in-Some.is)))

pub loop-next-smaller : goal.loop-next-smaller
loop-next-smaller g c =
    let now = c.loop-next in
    fewer_left (is_for c.args.number c.args.key.now) c.args.most c.args.self.now now.self now.invariant.0 c.in-Some.reservation c.nodes-in-Some.ensures.apart (sym now.invariant.1 ∙ c.in-Some.is) c.unreserve.new.self c.unreserve.ensures.flat

pub loop-next-preserved : goal.loop-next-preserved
loop-next-preserved g c =
    let test = is_for c.args.number c.args.key.now in
    let now = c.loop-next in
    let here = sym now.invariant.1 ∙ c.in-Some.is in (
      one_dropped test c.args.most c.args.self.now now.self now.invariant.0 c.in-Some.reservation c.nodes-in-Some.ensures.apart here c.unreserve.new.self c.unreserve.ensures.flat c.unreserve.ensures.accounts,
      c.reservation_after-next.ensures
          ∙ ap (λ n. find test (made_after n c.nodes-in-Some.result.now.reserved)) c.node.ensures
          ∙ ap (λ (t : NodeTable). find test (made_after c.in-Some.reservation.node t.reserved)) c.nodes-in-Some.ensures.value
          ∙ takes_place test c.args.most now.self.flat.nodes.reserved c.in-Some.reservation c.nodes-in-Some.ensures.apart here
          ∙ ap (λ (f : Flat g.row.K). slice_get (filter test f.nodes.reserved) c.args.most) (sym c.unreserve.ensures.flat),
    )

pub returns-clause-flat : goal.returns-clause-flat
returns-clause-flat g c =
    let now = c.loop-next in
    all_dropped (is_for c.args.number c.args.key.now) c.args.most c.args.self.now now.self now.invariant.0 (sym now.invariant.1 ∙ c.in_default.is)

pub returns-clause-accounts : goal.returns-clause-accounts
returns-clause-accounts g c = c.loop-next.invariant.0.accounts

pub nodes-requires : goal.nodes-requires
nodes-requires g c = search nodes_in_cluster

pub reservation_for-next-requires : goal.reservation_for-next-requires
reservation_for-next-requires g c = search (nodes_in_cluster, reservation_in_cluster)

pub nodes-requires-in-Some : goal.nodes-requires-in-Some
nodes-requires-in-Some g c = search in_cluster

pub reservation_after-next-requires : goal.reservation_after-next-requires
reservation_after-next-requires g c = search in_cluster

pub node-requires : goal.node-requires
node-requires g c = search in_cluster
