use Rattle.cap_config.proofs.Prelude.{◌∙◌, ap, Option, Entry, Queues, contains_bytes, names_or_none}
use Rattle.cap_config.proofs.Trees.{entry_found}
use Rattle.cap_config.proofs.queues.lists.Goals as goal

pub returns : goal.returns
returns c =
    let entries = c.args.index.now.entries.now in
    let path = c.args.path.now in
    c.has_name.ensures
    ∙ ap (λ (e : Option Entry). contains_bytes (names_or_none e) c.args.name.now) (c.entry_at.ensures ∙ entry_found entries Queues c.args.index.now.queues path c.requires.queues)
