use Rattle.cap_tree.proofs.Prelude.{◌∙◌, ap, amounts_exchanged, fits_maximum, stays_in_maximum}
use Rattle.cap_tree.proofs.queue.Queue.stays_in_maximum.Goals as goal

pub returns : goal.returns
returns g c =
    let old = c.args.old.now in
    let new = c.args.new.now in
    c.fits_in_maximum.ensures ∙ (λ i. fits_maximum (c.self-inside.view_is i).maximum (amounts_exchanged old new (c.self-inside.view_is i).count.used)) ∙ ap (stays_in_maximum old new) c.self.view_is
