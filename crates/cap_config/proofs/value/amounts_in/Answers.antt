use Rattle.cap_config.proofs.Prelude.{refl, ◌∙◌, amounts_in}
use Rattle.cap_config.proofs.value.amounts_in.Goals as goal

pub returns : goal.returns
unfolding amounts_in
returns c = c.resource.ensures ∙ rw (c.part-memory.ensures, c.part-vcores.ensures, c.gpus_in.ensures, c.part-gpus.ensures, c.pieces.ensures) refl
