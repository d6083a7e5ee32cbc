use Rattle.cap_text.proofs.Cuts.{first_line, last_line}
use Rattle.cap_text.proofs.lines.split_line.Goals as goal

pub returns-in-Some-clause-lines : goal.returns-in-Some-clause-lines
returns-in-Some-clause-lines c = rw c.without_return.ensures (first_line c.args.text.now c.in-Some.line.now c.in-Some.after.now c.in-Some.ensures.found)

pub returns-in-None-clause-lines : goal.returns-in-None-clause-lines
returns-in-None-clause-lines c = last_line c.args.text.now c.requires c.in-None.ensures.none
