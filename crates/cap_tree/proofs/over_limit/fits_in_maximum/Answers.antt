use Rattle.cap_tree.proofs.Prelude.{◌∙◌, sym, amounts_exchanged, fits_maximum}
use Rattle.cap_tree.proofs.Within.{fits_once}
use Rattle.cap_tree.proofs.over_limit.fits_in_maximum.Goals as goal

pub returns : goal.returns
returns g c =
    let after = amounts_exchanged c.args.old.now c.args.new.now c.args.used.now in
    fits_once c.fits_exchanged.result after c.in-Some.maximum c.fits_exchanged.ensures ∙ (λ i. fits_maximum (sym c.in-Some.is i) after)
