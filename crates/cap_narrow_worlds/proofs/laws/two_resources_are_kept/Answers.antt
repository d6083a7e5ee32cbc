use Rattle.cap_narrow_worlds.proofs.Worlds.{two_resources_are_kept}
use Rattle.cap_narrow_worlds.proofs.laws.two_resources_are_kept.Goals as goal

pub returns : goal.returns
returns c = two_resources_are_kept
