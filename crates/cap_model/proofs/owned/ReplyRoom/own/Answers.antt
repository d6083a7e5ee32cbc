use Rattle.std.proofs.Common.{◌∙◌}
use Rattle.cap_model.proofs.SameReplies.{map_same}
use Rattle.cap_model.proofs.owned.ReplyRoom.own.Goals as goal

pub returns-in_default : goal.returns-in_default
returns-in_default g c = c.other.ensures (λ r. r) ∙ map_same c.args.reply.now
