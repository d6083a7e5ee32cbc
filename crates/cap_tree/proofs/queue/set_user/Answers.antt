use Rattle.cap_tree.proofs.Prelude.{None, Some, sym, ◌∙◌, ap, if◌then◌else◌}
use Rattle.cap_tree.proofs.Users.{user_row-entries, counted-entries}
use Rattle.cap_tree.proofs.queue.set_user.Goals as goal

pub returns-then-is_zero-clause-ok : goal.returns-then-is_zero-clause-ok
returns-then-is_zero-clause-ok g c =
    let zero = ap (λ b. if b then None else Some c.args.count) (sym (sym c.is_zero.ensures ∙ c.if-is_zero.true)) in
    counted-entries c.args.user.now c.args.count None c.args.users.now.entries c.swap_remove.new.self.entries zero (c.swap_remove.ensures.updates.0)

pub returns-clause-ok : goal.returns-clause-ok
returns-clause-ok g c =
    let some = ap (λ b. if b then None else Some c.args.count) (sym (sym c.is_zero.ensures ∙ c.if-is_zero.false)) in
    counted-entries c.args.user.now c.args.count (Some c.args.count) c.args.users.now.entries c.insert.new.self.entries some (c.in-Ok.ensures.updates.0)

pub returns-in-Err-clause-absent : goal.returns-in-Err-clause-absent
returns-in-Err-clause-absent g c = user_row-entries c.args.user.now c.args.users.now.entries ∙ c.in-Err.ensures.absent
