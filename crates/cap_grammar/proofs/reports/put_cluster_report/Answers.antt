use Rattle.cap_grammar.proofs.Prelude.{w32, to_be_bytes, cluster_report, resource, amounts_in}
use Rattle.cap_grammar.proofs.Appends.{five}
use Rattle.cap_grammar.proofs.reports.put_cluster_report.Goals as goal

pub returns-clause-appends : goal.returns-clause-appends
unfolding cluster_report
returns-clause-appends c =
    let r = c.args.report.now in
    five _ _ _ _ _ _ _ _ _ (to_be_bytes w32 r.nodes) (to_be_bytes w32 r.apps) (to_be_bytes w32 r.containers) (resource (amounts_in c.args.version) r.totals) (resource (amounts_in c.args.version) r.used)
    c.to_be_bytes.ensures c.to_be_bytes-2.ensures c.to_be_bytes-3.ensures
    c.extend_reserved.ensures.items c.extend_reserved-2.ensures.items c.extend_reserved-3.ensures.items c.put_amounts.ensures.appends c.put_amounts-2.ensures.appends
