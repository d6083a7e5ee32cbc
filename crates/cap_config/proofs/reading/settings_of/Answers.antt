use Rattle.cap_config.proofs.Prelude.{sym, ap, ◌∙◌, option_map, DetailedFault}
use Rattle.cap_config.proofs.Firsts.{whole_first}
use Rattle.cap_config.proofs.reading.settings_of.Goals as goal

pub returns-in-Some-clause-fault : goal.returns-in-Some-clause-fault
returns-in-Some-clause-fault c = whole_first _ c.args.index.now.entries.now c.in-Some.found.fault (sym c.whole_fault.ensures.fault ∙ ap (option_map (λ (found : DetailedFault). found.fault)) c.in-Some.is)
