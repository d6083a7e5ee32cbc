use Rattle.std.proofs.Common.{◌+◌, sym, ap, ◌∙◌}
use Rattle.cap_config.proofs.Parts.{count_pieces}
use Rattle.cap_config.proofs.value.pieces.Goals as goal

pub returns : goal.returns
returns c = ap (λ n. n + 1) c.commas.ensures.count ∙ sym (count_pieces c.args.bytes.now)
