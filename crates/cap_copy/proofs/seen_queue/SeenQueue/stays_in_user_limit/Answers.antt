use Rattle.cap_copy.proofs.Prelude.{◌∙◌, amounts_exchanged, fits_user_limit}
use Rattle.cap_tree.proofs.Within.{fits_times}
use Rattle.cap_copy.proofs.Fitting.{amounts_in_seen}
use Rattle.cap_copy.proofs.seen_queue.SeenQueue.stays_in_user_limit.Goals as goal

pub returns : goal.returns
returns g c =
    let after = amounts_exchanged c.args.old.now c.args.new.now c.args.used.now in
    fits_times c.fits_exchanged.result after c.self.inside.factor c.self.inside.guaranteed c.fits_exchanged.ensures
    ∙ (λ i. fits_user_limit (c.self.invariant.factor_is i) (c.self.invariant.guaranteed_is i) after)
    ∙ (λ i. fits_user_limit (c.self.view_is i).queue.factor (c.self.view_is i).queue.guaranteed after)

pub fits_exchanged-requires : goal.fits_exchanged-requires
fits_exchanged-requires g c = (search amounts_in_seen, search amounts_in_seen)
