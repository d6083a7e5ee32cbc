use Rattle.cap_config.proofs.Prelude.{◌∙◌, ap, Option, Entry, Queues, names_or_none}
use Rattle.cap_config.proofs.Trees.{entry_found}
use Rattle.cap_config.proofs.queues.names_below.Goals as goal

pub returns : goal.returns
returns c =
    let entries = c.args.index.now.entries.now in
    let path = c.args.path.now in
    c.names_or_none.ensures
    ∙ ap (λ (e : Option Entry). names_or_none e) (c.entry_at.ensures ∙ entry_found entries Queues c.args.index.now.queues path c.requires.queues)
