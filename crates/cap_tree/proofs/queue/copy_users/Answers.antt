use Rattle.cap_tree.proofs.Prelude.{rules, deref_pair, rest_so_far, rest_more}
use Rattle.cap_tree.proofs.UserCopies.{copied_more, copied_all}
use Rattle.cap_tree.proofs.queue.copy_users.Goals as goal

pub loop-user-preserved : goal.loop-user-preserved
loop-user-preserved g c =
    let whole = rest_so_far deref_pair c.loop-user.yielded c.into_iter-user-iterator.result c.loop-user.user-iterator c.loop-user.yielded_by in
    let next = rest_more deref_pair c.loop-user.user-iterator c.next.new.self c.next.result (c.in-Some.user, c.in-Some.count) c.in-Some.is c.next.ensures.steps in
    copied_more deref_pair c.args.users.now.entries c.iter-user-items.ensures.unique c.loop-user.yielded (c.in-Some.user, c.in-Some.count) c.loop-user.user-iterator c.next.new.self c.loop-user.copy.entries c.insert.new.self.entries (search rules) next c.loop-user.invariant c.in-Ok-insert.ensures.entries

pub returns : goal.returns
returns g c =
    let whole = rest_so_far deref_pair c.loop-user.yielded c.into_iter-user-iterator.result c.loop-user.user-iterator c.loop-user.yielded_by in
    copied_all deref_pair c.args.users.now.entries c.iter-user-items.ensures.unique c.loop-user.yielded c.loop-user.user-iterator c.loop-user.copy.entries (search rules) c.in-None.ensures.steps.0 c.loop-user.invariant
