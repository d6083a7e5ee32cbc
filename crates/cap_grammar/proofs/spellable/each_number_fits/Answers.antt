use Rattle.cap_grammar.proofs.Prelude.{arith, All-from_get_or, recursion_from_All, FitsNumber}
use Rattle.cap_grammar.proofs.spellable.each_number_fits.Goals as goal

pub returns : goal.returns
returns c = recursion_from_All FitsNumber c.args.numbers.now (All-from_get_or FitsNumber c.args.numbers.now 0 (λ k _. omega (arith, c.type_inv.numbers k)))
