use Rattle.cap_grammar.proofs.Prelude.{arith, All-from_get_or, recursion_from_All, FitsByte}
use Rattle.cap_grammar.proofs.spellable.each_byte_fits.Goals as goal

pub returns : goal.returns
returns c = recursion_from_All FitsByte c.args.bytes.now (All-from_get_or FitsByte c.args.bytes.now 0 (λ k _. omega (arith, c.type_inv.bytes k)))
