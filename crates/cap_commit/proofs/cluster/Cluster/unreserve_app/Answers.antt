use Rattle.cap_commit.proofs.Fitting.{nodes_in_cluster, reservation_in_cluster}
use Rattle.cap_commit.proofs.Prelude.{ap, sym, ◌∙◌, arith, find, ◌==◌, NodeTable, Reservation, with_reserved}
use Rattle.cap_commit.proofs.Dropping.{none_dropped, one_dropped, all_dropped, fewer_left, passes_found, first_passes, keep_none}
use Rattle.cap_commit.proofs.cluster.Cluster.unreserve_app.Goals as goal

pub loop-reservation-init : goal.loop-reservation-init
loop-reservation-init g c = none_dropped (λ (r : Reservation). r.app == c.args.number) 0 c.args.self.now

pub unreserve-requires : goal.unreserve-requires
unreserve-requires g c =
    let test = λ (r : Reservation). r.app == c.args.number in
    let kinds = c.nodes.ensures.resources in
    let here = sym (first_passes test c.loop-reservation.self.flat.nodes.reserved) ∙ ap (λ (t : NodeTable). find test t.reserved) (sym c.nodes.ensures.value) ∙ sym c.reservation_of_app.ensures ∙ c.in-Some.is in
    ((search), (omega (arith, kinds), passes_found test 0 c.loop-reservation.self.flat.nodes.reserved c.in-Some.reservation c.nodes.ensures.apart here))

pub loop-reservation-smaller : goal.loop-reservation-smaller
loop-reservation-smaller g c =
    let test = λ (r : Reservation). r.app == c.args.number in
    let now = c.loop-reservation in
    let here = sym (first_passes test c.loop-reservation.self.flat.nodes.reserved) ∙ ap (λ (t : NodeTable). find test t.reserved) (sym c.nodes.ensures.value) ∙ sym c.reservation_of_app.ensures ∙ c.in-Some.is in
    fewer_left test 0 c.args.self.now now.self now.invariant c.in-Some.reservation c.nodes.ensures.apart here c.unreserve.new.self c.unreserve.ensures.flat

pub loop-reservation-preserved : goal.loop-reservation-preserved
loop-reservation-preserved g c =
    let test = λ (r : Reservation). r.app == c.args.number in
    let now = c.loop-reservation in
    let here = sym (first_passes test c.loop-reservation.self.flat.nodes.reserved) ∙ ap (λ (t : NodeTable). find test t.reserved) (sym c.nodes.ensures.value) ∙ sym c.reservation_of_app.ensures ∙ c.in-Some.is in
    one_dropped test 0 c.args.self.now now.self now.invariant c.in-Some.reservation c.nodes.ensures.apart here c.unreserve.new.self c.unreserve.ensures.flat c.unreserve.ensures.accounts

pub returns-clause-flat : goal.returns-clause-flat
returns-clause-flat g c =
    let test = λ (r : Reservation). r.app == c.args.number in
    let now = c.loop-reservation in
    all_dropped test 0 c.args.self.now now.self now.invariant (sym (first_passes test c.loop-reservation.self.flat.nodes.reserved) ∙ ap (λ (t : NodeTable). find test t.reserved) (sym c.nodes.ensures.value) ∙ sym c.reservation_of_app.ensures ∙ c.in_default.is) ∙ ap (λ rs. with_reserved rs c.args.self.now.flat) (keep_none test c.args.self.now.flat.nodes.reserved)

pub returns-clause-accounts : goal.returns-clause-accounts
returns-clause-accounts g c = c.loop-reservation.invariant.accounts

pub nodes-requires : goal.nodes-requires
nodes-requires g c = search nodes_in_cluster

pub reservation_of_app-requires : goal.reservation_of_app-requires
reservation_of_app-requires g c = search (nodes_in_cluster, reservation_in_cluster)
