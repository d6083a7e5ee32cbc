use Rattle.cap_config.proofs.Prelude.{◌∙◌, ap, Option, Entry, UserLimitFactor, number_or}
use Rattle.cap_config.proofs.Trees.{entry_found}
use Rattle.cap_config.proofs.queues.factor.Goals as goal

pub returns : goal.returns
returns c =
    let entries = c.args.index.now.entries.now in
    let path = c.args.path.now in
    c.number_or.ensures
    ∙ ap (λ (e : Option Entry). number_or e 1) (c.entry_at.ensures ∙ entry_found entries UserLimitFactor c.args.index.now.user_limit_factor path c.requires.user_limit_factor)
