use Rattle.cap_narrow.proofs.Reasons.{reasons_narrow}
use Rattle.cap_narrow.proofs.Choices.{choices_narrow}
use Rattle.cap_narrow.proofs.laws.choices_narrow.Goals as goal

pub returns : goal.returns
returns c = record { reasons = reasons_narrow; choices = choices_narrow }
