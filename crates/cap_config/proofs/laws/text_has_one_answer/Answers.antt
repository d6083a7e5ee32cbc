use Rattle.cap_config.proofs.Answered.{one_answer}
use Rattle.cap_config.proofs.laws.text_has_one_answer.Goals as goal

pub returns : goal.returns
returns c = one_answer
