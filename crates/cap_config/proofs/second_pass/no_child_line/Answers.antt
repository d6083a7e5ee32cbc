use Rattle.cap_config.proofs.Prelude.{sym, ◌∙◌, Queues, root}
use Rattle.cap_config.proofs.FirstLines.{childless_root, childless_later}
use Rattle.cap_config.proofs.Trees.{entry_found}
use Rattle.cap_config.proofs.second_pass.no_child_line.Goals as goal

pub returns-in_default : goal.returns-in_default
unfolding root
returns-in_default c =
    let entries = c.args.index.now.entries.now in
    let here = c.entry_at.ensures ∙ entry_found entries Queues c.args.index.now.queues root c.requires.queues in
    sym (childless_root entries c.entry_at.result here c.in_default.is)

pub returns : goal.returns
unfolding root
returns c =
    let entries = c.args.index.now.entries.now in
    let here = c.entry_at.ensures ∙ entry_found entries Queues c.args.index.now.queues root c.requires.queues in
    c.childless_line.ensures ∙ sym (childless_later entries c.entry_at.result _ here c.in-Some.is)
