use Rattle.cap_commit.proofs.Fitting.{apps_fit}
use Rattle.cap_commit.proofs.Prelude.{arith, kept_reply}
use Rattle.cap_commit.proofs.Viewing.{viewed, not_numbers}
use Rattle.cap_commit.proofs.cluster.Cluster.view.Goals as goal

pub returns : goal.returns
returns g c = viewed c.args.self.now.flat c.in-Allocate.reply c.args.reply.now c.apps-apps.result.now.table c.reply.result c.in-Allocate.is c.apps-apps.ensures.table c.requires c.reply.ensures

pub other-requires : goal.other-requires
other-requires g c = let kinds = c.apps-apps.ensures.resources in (omega (arith, kinds), (omega (arith, kinds), not_numbers c.args.reply.now c.in_default.not-Allocate))

pub returns-in_default : goal.returns-in_default
returns-in_default g c = c.other.ensures (λ n. kept_reply c.args.self.now.flat n.app)

pub apps-apps-requires : goal.apps-apps-requires
apps-apps-requires g c = search apps_fit
