use Rattle.cap_text.proofs.Cuts.{first_byte}
use Rattle.cap_text.proofs.cut.position_of.Goals as goal

pub returns : goal.returns
returns c = first_byte c.args.separator c.args.bytes.now c.memchr.result c.memchr.ensures
