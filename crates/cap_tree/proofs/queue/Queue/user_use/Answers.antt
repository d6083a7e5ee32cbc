use Rattle.cap_tree.proofs.Prelude.{sym, ◌∙◌, ap, Count, use_of}
use Rattle.cap_tree.proofs.Sizes.{count_in_queue}
use Rattle.cap_tree.proofs.Users.{user_row-entries}
use Rattle.cap_tree.proofs.queue.Queue.user_use.Goals as goal

pub returns-in-None : goal.returns-in-None
returns-in-None g c =
    rw (← c.self.view_is) (c.zero.ensures ∙ sym (ap (use_of g.row.K) (user_row-entries c.args.user.now c.self.inside.users.entries ∙ sym c.in-None.ensures)))

pub returns-in-Some : goal.returns-in-Some
returns-in-Some g c =
    rw (← c.self.view_is) (ap (λ (n : Count). n.used) c.count.view_is ∙ sym (ap (use_of g.row.K) (user_row-entries c.args.user.now c.self.inside.users.entries ∙ sym c.in-Some.ensures)))

pub row_of-requires : goal.row_of-requires
row_of-requires g c = search count_in_queue
