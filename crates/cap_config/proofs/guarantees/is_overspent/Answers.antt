use Rattle.cap_config.proofs.Prelude.{sym, ap, ◌∙◌, bytes_eq, root, guaranteed, exceeds}
use Rattle.cap_config.proofs.Sums.{capped_spend}
use Rattle.cap_config.proofs.guarantees.is_overspent.Goals as goal

pub returns : goal.returns
returns c =
    let entries = c.args.index.now.entries.now in
    let sums = c.added_below-sums.result in
    let other = ap (λ p. bytes_eq p root) (sym c.as_bytes.ensures.value) ∙ sym c.is_root.ensures ∙ c.if-is_root.false in
    let own = c.guaranteed.ensures ∙ ap (guaranteed entries) c.as_bytes-2.ensures.value in
    c.exceeds.ensures
    ∙ ap (exceeds sums) c.amounts.ensures.value
    ∙ capped_spend entries c.args.path.now sums c.guaranteed.result c.args.names.now other c.added_below-sums.ensures own c.amounts.ensures.vector.within
