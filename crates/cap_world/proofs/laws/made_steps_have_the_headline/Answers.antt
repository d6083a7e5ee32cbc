use Rattle.cap_world.proofs.Running.{made_steps_have_the_headline}
use Rattle.cap_world.proofs.laws.made_steps_have_the_headline.Goals as goal

pub returns : goal.returns
returns c = made_steps_have_the_headline
