use Rattle.cap_shared.proofs.Prelude.{◌≡◌, None, [], ◌∷◌, ◌++◌, length, ap, sym, ◌∙◌, subst, arith, rejected_exactly, resources, sight_of, reason_of, taken_back, Step, Event, Entered, Content}
use Rattle.cap_model.specs.Verdicts.{IsOf}
use Rattle.cap_shared.specs.declared.entry.Receipt.TheVariants as receipt
use Rattle.cap_shared.specs.declared.history.NotedAnswer.TheVariants as answer
use Rattle.cap_shared.proofs.Entering.{event_by, event_receipt, one_more}
use Rattle.cap_shared.proofs.Pasts.{noted_seat, entered_seat, entered_desk}
use Rattle.cap_shared.proofs.desk.Desk.make.Goals as goal

pub make_proposed-requires : goal.make_proposed-requires
make_proposed-requires g c = record {
  passes = subst (λ (v : Content). reason_of (sight_of v.cluster) c.args.proposal ≡ None) (sym c.self.view_is) c.requires.admitted;
  old = subst (λ (v : Content). c.args.old.now ≡ taken_back (sight_of v.cluster) c.args.proposal) (sym c.self.view_is) c.requires.old;
}

pub invariant_of-seat : goal.invariant_of-seat
invariant_of-seat g c =
    noted_seat _ _ _ _ c.self.inside.journal.items c.self.inside.pass c.note_no_memory.new.desk c.seat.inside.pass c.note_no_memory.new.seat _ _ _ c.self.inside.cluster.flat (answer.NoMemory c.args.proposal) c.seat.invariant c.note_no_memory.ensures c.in_default.ensures.receipts c.self.invariant.run
    ((rejected_exactly resources (sight_of c.self.inside.cluster.flat) c.args.proposal).0 (subst (λ (v : Content). reason_of (sight_of v.cluster) c.args.proposal ≡ None) (sym c.self.view_is) c.requires.admitted))

pub invariant_of-self-2 : goal.invariant_of-self-2
invariant_of-self-2 g c =
    let log : length c.self.inside.journal.items ≡ length c.args.self.now.log = ap (λ (v : Content). length v.log) c.self.view_is in
    let step = subst (λ (e : Event resources). Step c.self.inside.cluster.flat e c.make_proposed.new.cluster.flat) (sym c.event.ensures) c.in-Ok.ensures.step in
    entered_desk _ _ _ _ c.self.inside.journal.items c.self.inside.pass c.enter.new.desk c.seat.inside.pass c.enter.new.seat c.self.inside.cluster.flat c.make_proposed.new.cluster.flat _ _ _ (record { seat = c.seat.inside.number; event = c.event.result }) (receipt.Commit c.next_position-at.result c.event-2.result) _
    c.self.invariant c.enter.ensures.entered step (c.seat.invariant.below, event_by _ c.in-Ok.made _ c.event.ensures) (omega (arith, c.requires.room, c.self.invariant.limit_is)) c.enter.ensures.journal c.enter.ensures.capacity

pub invariant_of-seat-2 : goal.invariant_of-seat-2
invariant_of-seat-2 g c =
    let r = receipt.Commit c.next_position-at.result c.event-2.result in
    let at = c.self.inside.journal.ok.0 in
    entered_seat _ _ _ _ c.self.inside.journal.items c.self.inside.pass c.enter.new.desk c.seat.inside.pass c.enter.new.seat _ _ _ (record { seat = c.seat.inside.number; event = c.event.result }) r
    c.seat.invariant c.enter.ensures.entered (omega (arith, c.next_position-at.ensures)) (c.enter.ensures.receipts ∙ ap (λ xs. xs ++ r ∷ []) c.in-Ok.ensures.receipts)

pub returns-clause-answer : goal.returns-clause-answer
returns-clause-answer g c = (
  subst (λ (e : Event resources). IsOf c.args.proposal e) (sym c.event-3.ensures) c.in-Ok.ensures.of,
  (c.next_position-at.result, one_more c.seat.inside.pass c.enter.new.seat _ _ _ c.seat.view_is c.enter.ensures.entered.sits (ap (λ r. Entered r) (event_receipt _ c.in-Ok.made _ _ c.event-3.ensures c.event-2.ensures))),
)
