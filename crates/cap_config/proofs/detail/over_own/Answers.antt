use Rattle.cap_config.proofs.Prelude.{◌∙◌, ap, None, Option, Entry, MaximumCapacity, over_own, over_some, limit_of, amounts_at, entry_for}
use Rattle.cap_config.proofs.Trees.{entry_found}
use Rattle.cap_config.proofs.detail.over_own.Goals as goal

pub returns : goal.returns
unfolding over_own
returns c =
    let entries = c.args.index.now.entries.now in
    let path = c.args.path.now in
    let amounts = c.args.amounts.now in
    let here = c.entry_at.ensures ∙ entry_found entries MaximumCapacity c.args.index.now.maximum_capacity path c.requires.maximum_capacity in
    let own = c.amounts_at-own.ensures ∙ ap (λ (e : Option Entry). amounts_at None e) here in
    let limit = c.limit_of.ensures ∙ ap limit_of own in
    c.over_some.ensures ∙ ap (λ l. over_some l amounts c.maximum.result) limit ∙ ap (over_some (limit_of (amounts_at None (entry_for entries MaximumCapacity path))) amounts) c.maximum.ensures
