use Rattle.cap_grammar.proofs.Lengths.{length_ends}
use Rattle.cap_grammar.proofs.news.put_ends.Goals as goal

pub returns-clause-len : goal.returns-clause-len
returns-clause-len c = length_ends c.args.ends.now
