use Rattle.cap_tree.proofs.Prelude.{◌∙◌, amounts_exchanged, fits_user_limit}
use Rattle.cap_tree.proofs.Within.{fits_times}
use Rattle.cap_tree.proofs.queue.Queue.stays_in_user_limit.Goals as goal

pub returns : goal.returns
returns g c =
    let after = amounts_exchanged c.args.old.now c.args.new.now in
    fits_times c.fits_exchanged.result (after c.user_use-used.result) c.self.inside.factor c.self.inside.guaranteed c.fits_exchanged.ensures
    ∙ (λ i. fits_user_limit (c.self.view_is i).factor (c.self.view_is i).guaranteed (after (c.user_use-used.ensures i)))

pub user_use-used-requires : goal.user_use-used-requires
user_use-used-requires g c = search
