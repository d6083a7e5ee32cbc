use Rattle.cap_grammar.proofs.Lengths.{length_amounts}
use Rattle.cap_grammar.proofs.writing.put_each_number.Goals as goal

pub returns-clause-len : goal.returns-clause-len
returns-clause-len c = length_amounts c.args.numbers.now
