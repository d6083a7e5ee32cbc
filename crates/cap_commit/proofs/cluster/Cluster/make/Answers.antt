use Rattle.cap_commit.proofs.Fitting.{amounts_in_cluster, container_in_cluster, reservation_in_cluster}
use Rattle.cap_commit.proofs.Prelude.{sym, subst, ◌∙◌, sight_of, IsAdmissible, rejected_exactly}
use Rattle.cap_commit.proofs.cluster.Cluster.make.Goals as goal

pub returns-in-Ok-clause-step : goal.returns-in-Ok-clause-step
returns-in-Ok-clause-step g c =
    let sight = sight_of c.args.self.now.flat in
    let may = (rejected_exactly g.row.K sight c.args.proposal.now).0 c.requires.passes in
    (subst (IsAdmissible sight) (sym c.in-Ok.ensures.proposed) may, c.in-Ok.ensures.number, c.in-Ok.ensures.ok)

pub returns-in-Ok-reserve-clause-step : goal.returns-in-Ok-reserve-clause-step
returns-in-Ok-reserve-clause-step g c =
    let sight = sight_of c.args.self.now.flat in
    let may = (rejected_exactly g.row.K sight c.args.proposal.now).0 c.requires.passes in
    (subst (IsAdmissible sight) (sym c.in-Ok-reserve.ensures.proposed) may, c.in-Ok-reserve.ensures.ok)

pub grant-requires : goal.grant-requires
grant-requires g c =
    ((search), ((search), (search amounts_in_cluster, (search container_in_cluster, (sym c.is_grant.ensures ∙ c.if-is_grant.true, (c.requires.passes, c.requires.old))))))

pub reserve-requires : goal.reserve-requires
reserve-requires g c = ((search), ((search), (search reservation_in_cluster, (sym c.is_grant.ensures ∙ c.if-is_grant.false, c.requires.passes))))
