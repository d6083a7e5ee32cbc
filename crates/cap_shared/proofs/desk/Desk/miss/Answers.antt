use Rattle.cap_shared.proofs.Prelude.{refl, ap, ◌∙◌, arith, Me, Mark, View, sitting_of}
use Rattle.cap_shared.specs.declared.history.NotedAnswer.TheVariants as answer
use Rattle.cap_shared.proofs.Pasts.{noted_seat, met_less}
use Rattle.cap_shared.proofs.desk.Desk.miss.Goals as goal

pub invariant_of-seat : goal.invariant_of-seat
invariant_of-seat g c =
    let len = c.self.inside.journal.ok.0 in
    noted_seat _ _ _ _ c.self.inside.journal.items c.self.inside.pass c.note_sealed_call.new.desk c.seat.inside.pass c.note_sealed_call.new.seat _ _ _ c.self.inside.cluster.flat (answer.SealedCall c.args.request.now) c.seat.invariant c.note_sealed_call.ensures refl c.self.invariant.run (omega (arith, c.self.invariant.fits, c.self.invariant.limit_is))

pub returns-clause-answer : goal.returns-clause-answer
returns-clause-answer g c =
    let len = c.self.inside.journal.ok.0 in (
      ap (λ (m : Me Mark View). sitting_of m.0) c.compare.ensures.sits ∙ c.seat.view_is,
      met_less c.self.inside.journal.items _ _ _ c.compare.ensures.fits c.seat.view_is (omega (arith, c.self.invariant.limit_is)),
    )
