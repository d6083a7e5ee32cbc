use Rattle.cap_tree.proofs.Prelude.{◌≡◌, map, deref_pair}
use Rattle.cap_tree.proofs.queue.copy_users.Given as goal

abbrev pub invariant-loop-user : goal.invariant-loop-user
invariant-loop-user g l = l.copy.entries ≡ map deref_pair l.yielded
