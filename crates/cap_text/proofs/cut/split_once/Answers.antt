use Rattle.std.proofs.Common.{sym}
use Rattle.cap_text.proofs.Cuts.{cut_found, cut_missing}
use Rattle.cap_text.proofs.cut.split_once.Goals as goal

pub returns-in-Some-clause-found : goal.returns-in-Some-clause-found
returns-in-Some-clause-found c = cut_found c.args.separator c.args.bytes.now c.in-Some.at (sym c.in-Some.ensures)

pub returns-in-None-clause-none : goal.returns-in-None-clause-none
returns-in-None-clause-none c = cut_missing c.args.separator c.args.bytes.now (sym c.in-None.ensures)
