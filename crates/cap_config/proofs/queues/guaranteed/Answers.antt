use Rattle.cap_config.proofs.Prelude.{sym, ◌∙◌, ap, None, Option, Entry, Capacity, amounts_at, or_zero}
use Rattle.cap_config.proofs.Trees.{entry_found}
use Rattle.cap_config.proofs.queues.guaranteed.Goals as goal

pub returns-in-Some : goal.returns-in-Some
returns-in-Some c =
    let entries = c.args.index.now.entries.now in
    let path = c.args.path.now in
    let here = c.entry_at.ensures ∙ entry_found entries Capacity c.args.index.now.capacity path c.requires.capacity in
    ap or_zero (sym c.in-Some.is ∙ c.amounts_at.ensures ∙ ap (λ (e : Option Entry). amounts_at None e) here)

pub returns-in-None : goal.returns-in-None
returns-in-None c =
    let entries = c.args.index.now.entries.now in
    let path = c.args.path.now in
    let here = c.entry_at.ensures ∙ entry_found entries Capacity c.args.index.now.capacity path c.requires.capacity in
    c.zero.ensures ∙ ap or_zero (sym c.in-None.is ∙ c.amounts_at.ensures ∙ ap (λ (e : Option Entry). amounts_at None e) here)
