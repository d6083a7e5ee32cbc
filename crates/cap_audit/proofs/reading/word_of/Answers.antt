use Rattle.cap_audit.proofs.Blanks.{word_cut}
use Rattle.cap_audit.proofs.reading.word_of.Goals as goal

pub returns-in-Some-clause-word : goal.returns-in-Some-clause-word
returns-in-Some-clause-word c = λ front rest word. word_cut c.args.bytes.now c.in-Some.front.now c.in-Some.field-0-1.now front rest c.in-Some.ensures.found word
