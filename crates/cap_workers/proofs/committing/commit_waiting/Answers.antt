use Rattle.cap_workers.proofs.Prelude.{ℕ, ◌<◌, List, Some, append-nil, length, refl, sym, subst, arith, ◌∙◌}
use Rattle.cap_workers.specs.Committing.{CommitsTaken, held_in}
use Rattle.cap_workers.specs.declared.gate.CommitOutcome.{CommitOutcome}
use Rattle.cap_workers.proofs.Commits.{none_taken, next_taken, still_taken}
use Rattle.cap_workers.proofs.Outcomes.{as_many_places, fewer_empty, none_posted, one_more_held, one_posted}
use Rattle.cap_workers.proofs.committing.commit_waiting.Goals.{in-Some, in_default}
use Rattle.cap_workers.proofs.committing.commit_waiting.Goals as goal

pub loop-init : goal.loop-init
loop-init g c = record {
  lanes = refl;
  taken = none_taken g.J.Naming.limit c.args.seat.now c.args.committer.now;
  posted = sym (append-nil c.args.posted.now);
  empty = (refl, (refl, (refl, (refl, (refl, (refl, (refl, (refl, tt))))))));
  eight = refl;
}

pub loop-preserved : goal.loop-preserved
loop-preserved g c =
    let i = c.loop.invariant in
    elim c.match-commit_next.branch [
      | in-Some w ↦ (
          let one = w.in-Some.outcome in
          let less : c.loop.count < length c.loop.outcomes = omega (arith, c.if-count-ge-BATCH.false, i.eight) in
          let taken = next_taken g.J.Naming.limit c.args.seat.now c.loop.seat c.commit_next.new.seat c.args.committer.now c.loop.committer c.commit_next.new.committer (held_in c.loop.outcomes) one i.taken w.in-Some.ensures.next in
          rw w.outcomes-is (record {
            lanes = w.in-Some.ensures.lanes ∙ i.lanes;
            taken = subst (λ (told : List (ℕ × CommitOutcome)). CommitsTaken g.J.Naming.limit c.args.seat.now c.commit_next.new.seat c.args.committer.now c.commit_next.new.committer told) (sym (one_more_held c.loop.count c.loop.outcomes one less i.empty)) taken;
            posted = one_posted c.args.posted.now c.loop.posted c.commit_next.new.posted (held_in c.loop.outcomes) one (one_more_held c.loop.count c.loop.outcomes one less i.empty) i.posted w.in-Some.ensures.posted;
            empty = fewer_empty c.loop.count c.match-commit_next.count c.loop.outcomes one w.count-is i.empty;
            eight = as_many_places c.loop.count c.loop.outcomes (Some one) ∙ i.eight;
          }))
      | in_default w ↦ rw (w.outcomes-is, w.count-is) (record {
        lanes = w.in_default.ensures.lanes ∙ i.lanes;
        taken = still_taken g.J.Naming.limit c.args.seat.now c.loop.seat c.commit_next.new.seat c.args.committer.now c.loop.committer c.commit_next.new.committer (held_in c.loop.outcomes) i.taken w.in_default.ensures.next;
        posted = none_posted c.args.posted.now c.loop.posted c.commit_next.new.posted (held_in c.loop.outcomes) i.posted w.in_default.ensures.posted;
        empty = i.empty;
        eight = i.eight;
      })
    ]
