use Rattle.std.proofs.Common.{refl}
use Rattle.cap_audit.proofs.Prelude.{IsNoWay, IsOnlyWay}
use Rattle.cap_audit.proofs.Onwards.{both_told, no_way_from, told_err}
use Rattle.cap_audit.proofs.auditor.Auditor.follow.Goals as goal

pub returns : goal.returns
returns c = record {
  goes = both_told c.follow.result (IsNoWay c.args.line.now c.args.self.now.place c.in-Some.cluster.flat) c.follow.ensures.plays c.follow.ensures.only (λ plays alone. record { was = c.in-Some.cluster; now = c.follow.new.cluster; stood = c.in-Some.is; stands = refl; plays = plays; alone = alone });
  none = told_err c.follow.result (IsOnlyWay c.args.line.now c.args.self.now.place c.follow.new.place c.in-Some.cluster.flat c.follow.new.cluster.flat) c.follow.ensures.only (λ never. no_way_from c.args.line.now c.args.self.now c.in-Some.cluster c.in-Some.is never);
}
