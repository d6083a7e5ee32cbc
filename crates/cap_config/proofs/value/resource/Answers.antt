use Rattle.std.proofs.Common.{◌∙◌, refl}
use Rattle.cap_config.proofs.Resources.{resource_is}
use Rattle.cap_config.proofs.value.resource.Goals as goal

pub returns-in-Some-Some-Some : goal.returns-in-Some-Some-Some
returns-in-Some-Some-Some c =
    resource_is c.in-Some-Some-Some.memory c.in-Some-Some-Some.vcores c.in-Some-Some-Some.gpus c.new.result c.new.ensures.some c.new.ensures.variant
    ∙ rw (c.in-Some-Some-Some.is-0, c.in-Some-Some-Some.is-1, c.in-Some-Some-Some.is-2) refl
