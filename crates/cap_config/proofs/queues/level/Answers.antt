use Rattle.cap_config.proofs.Prelude.{◌+◌, ap, sym, ◌∙◌, length-slice_split, is_dot}
use Rattle.cap_config.proofs.queues.level.Goals as goal

pub returns : goal.returns
returns c = ap (λ n. n + 1) c.dots.ensures.count ∙ sym (length-slice_split is_dot c.args.path.now)
