use Rattle.cap_tree.proofs.Prelude.{◌<◌, ◌∙◌, false≢true, subst, sym}
use Rattle.cap_tree.proofs.Users.{passed_over}
use Rattle.cap_tree.proofs.queue.row_of.Goals.{in-Some+else-eq, in_default}
use Rattle.cap_tree.proofs.queue.row_of.Goals as goal

pub loop-index-preserved : goal.loop-index-preserved
loop-index-preserved g c = elim c.match-get_index.branch [
  | in-Some+else-eq w ↦ passed_over c.args.user.now c.args.users.now.entries c.loop-index.index w.in-Some.name.now w.in-Some.count.now w.in-Some.ensures.entry (sym w.eq.ensures ∙ w.if-eq.false) ∙ c.loop-index.invariant
  | in_default w ↦ absurd (false≢true (w.in_default.ensures.found.1 (subst (λ n. c.loop-index.index < n) c.len-index-end.ensures.len c.loop-index-test.true)))
]
