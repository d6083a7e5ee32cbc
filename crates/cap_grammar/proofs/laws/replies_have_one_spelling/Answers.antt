use Rattle.cap_grammar.proofs.Prelude.{refl, arith, reply_bytes}
use Rattle.cap_grammar.proofs.ReplyLaws.{one_reply, alike, none_lost, no_fault, one_answer, reply_is_bytes}
use Rattle.cap_grammar.proofs.laws.replies_have_one_spelling.Goals as goal

pub returns-clause-some : goal.returns-clause-some
returns-clause-some c = λ K head kind reply is id_fits is_kind of_kind fits. (
  reply_bytes head kind reply,
  reply_is_bytes K head kind reply is (omega (arith, is_kind.1)) of_kind fits,
  record { spelled = refl; version_fits = is; id_fits = id_fits; is_kind = is_kind; of_kind = of_kind; fits = fits },
)

pub returns-clause-apart : goal.returns-clause-apart
returns-clause-apart c = one_reply

pub returns-clause-alike : goal.returns-clause-alike
returns-clause-alike c = alike

pub returns-clause-whole : goal.returns-clause-whole
returns-clause-whole c = none_lost

pub returns-clause-fault : goal.returns-clause-fault
returns-clause-fault c = no_fault

pub returns-clause-answers : goal.returns-clause-answers
returns-clause-answers c = one_answer
