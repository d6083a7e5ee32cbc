use Rattle.std.proofs.Common.{sym, ap, ◌∙◌, arith}
use Rattle.std.specs.Prelude.{option_and_then}
use Rattle.cap_model.specs.Flat.{ask_at}
use Rattle.cap_model.specs.Sight.{AppSight}
use Rattle.cap_commit.proofs.Fitting.{amounts_in_cluster, app_fits, ask_in_cluster, in_cluster, load_in_cluster, reservation_in_cluster}
use Rattle.cap_commit.proofs.cluster.Cluster.admit.Goals as goal

pub registered-requires : goal.registered-requires
registered-requires g c = search app_fits

pub ask-requires : goal.ask-requires
ask-requires g c = search (app_fits, ask_in_cluster)

pub held-held-requires : goal.held-held-requires
held-held-requires g c = search (load_in_cluster, reservation_in_cluster)

pub load-load-requires : goal.load-load-requires
load-load-requires g c = search load_in_cluster

pub size_reason-requires : goal.size_reason-requires
size_reason-requires g c = ((search), ((search), (search load_in_cluster, (sym c.in-Some-load.ensures.seen, c.fits_free-free.ensures))))

pub fits_free-free-requires : goal.fits_free-free-requires
fits_free-free-requires g c = ((search), ((search), (search load_in_cluster, (sym c.in-Some-load.ensures.seen, c.in-Some-load.ensures.fits))))

pub is_own-own-requires : goal.is_own-own-requires
is_own-own-requires g c = search reservation_in_cluster

pub taken_back-old-requires : goal.taken_back-old-requires
taken_back-old-requires g c = search reservation_in_cluster

pub limit_reason-requires : goal.limit_reason-requires
limit_reason-requires g c =
    let here = rw c.app.ensures at c.in-Some.ensures in
    ((search), ((search), (omega arith, (search amounts_in_cluster, (sym here.seen, (here.app, (here.account, c.taken_back-old.ensures)))))))

pub key-requires : goal.key-requires
key-requires g c = search in_cluster

pub suits-requires : goal.suits-requires
suits-requires g c =
    let q = c.args.proposal.now in
    let here = rw c.app.ensures at c.in-Some.ensures in
    let asked = rw c.key.ensures at c.in-Some-ask.ensures in
    ((search), ((search), (search ask_in_cluster, (search load_in_cluster, (ap (option_and_then (λ (app : AppSight). ask_at q.key app.asks)) (sym here.seen) ∙ sym asked, sym c.in-Some-load.ensures.seen)))))
