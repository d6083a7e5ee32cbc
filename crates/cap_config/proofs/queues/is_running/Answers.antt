use Rattle.cap_config.proofs.Prelude.{◌∙◌, ap, Option, Entry, State, running_or}
use Rattle.cap_config.proofs.Trees.{entry_found}
use Rattle.cap_config.proofs.queues.is_running.Goals as goal

pub returns : goal.returns
returns c =
    let entries = c.args.index.now.entries.now in
    let path = c.args.path.now in
    c.running_or.ensures
    ∙ ap (λ (e : Option Entry). running_or e) (c.entry_at.ensures ∙ entry_found entries State c.args.index.now.state path c.requires.state)
