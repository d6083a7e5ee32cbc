use Rattle.cap_shared.proofs.Prelude.{◌≡◌, None, refl, sym, subst, arith, sight_of, reason_of, taken_back, Content}
use Rattle.cap_shared.specs.declared.history.NotedAnswer.TheVariants as answer
use Rattle.cap_shared.proofs.Pasts.{noted_seat}
use Rattle.cap_shared.proofs.desk.Desk.commit.Goals as goal

pub invariant_of-seat : goal.invariant_of-seat
invariant_of-seat g c =
    let len = c.self.inside.journal.ok.0 in
    noted_seat _ _ _ _ c.self.inside.journal.items c.self.inside.pass c.note_sealed_commit.new.desk c.seat.inside.pass c.note_sealed_commit.new.seat _ _ _ c.self.inside.cluster.flat (answer.SealedCommit c.args.proposal) c.seat.invariant c.note_sealed_commit.ensures refl c.self.invariant.run (omega (arith, c.self.invariant.fits, c.self.invariant.limit_is))

pub invariant_of-seat-in-Err : goal.invariant_of-seat-in-Err
invariant_of-seat-in-Err g c =
    noted_seat _ _ _ _ c.self.inside.journal.items c.self.inside.pass c.note_rejected.new.desk c.seat.inside.pass c.note_rejected.new.seat _ _ _ c.self.inside.cluster.flat (answer.Rejected c.args.proposal c.in-Err.reason) c.seat.invariant c.note_rejected.ensures refl c.self.invariant.run (sym c.in-Err.ensures.reason)

pub make-requires-clause-admitted : goal.make-requires-clause-admitted
make-requires-clause-admitted g c =
    subst (λ (v : Content). reason_of (sight_of v.cluster) c.args.proposal ≡ None) c.self.view_is (sym c.in-Ok.ensures.reason)

pub make-requires-clause-old : goal.make-requires-clause-old
make-requires-clause-old g c = subst (λ (v : Content). c.in-Ok.old ≡ taken_back (sight_of v.cluster) c.args.proposal) c.self.view_is c.in-Ok.ensures.old
