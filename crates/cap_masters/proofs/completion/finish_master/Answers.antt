use Rattle.std.proofs.Common.{sym, ◌∙◌}
use Rattle.cap_masters.proofs.Refused.{finish_there}
use Rattle.cap_masters.proofs.completion.finish_master.Goals as goal

pub finish-requires : goal.finish-requires
finish-requires g c =
    ((search), finish_there c.args.cluster.now.flat c.args.app (sym c.refusal.ensures.refusal ∙ c.in-None.is))

pub refusal-requires : goal.refusal-requires
refusal-requires g c = search
