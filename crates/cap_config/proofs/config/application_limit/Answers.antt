use Rattle.cap_config.proofs.Prelude.{Option, ◌∙◌, ap, arith, Entry, MaximumApplications, number_or}
use Rattle.cap_config.proofs.Found.{number_small}
use Rattle.cap_config.proofs.config.application_limit.Goals as goal

pub returns-clause-small : goal.returns-clause-small
returns-clause-small c =
    number_small c.args.entries.now MaximumApplications 10000 _ c.requires (omega arith)
    (c.number_or.ensures ∙ ap (λ (e : Option Entry). number_or e 10000) c.cluster_entry.ensures)
