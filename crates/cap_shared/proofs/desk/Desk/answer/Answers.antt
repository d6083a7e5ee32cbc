use Rattle.cap_shared.proofs.Prelude.{◌≡◌, [], ◌∷◌, ◌++◌, length, refl, ap, sym, subst, ◌∙◌, arith, vec_capacity, resources, Flat, Content, IsDesk, full_reply}
use Rattle.cap_model.specs.declared.event.Event.TheVariants as event
use Rattle.cap_shared.specs.declared.entry.Receipt.TheVariants as receipt
use Rattle.cap_shared.proofs.Entering.{call_step, unchanged}
use Rattle.cap_shared.proofs.Pasts.{entered_seat, entered_desk}
use Rattle.cap_shared.proofs.desk.Desk.answer.Goals as goal

pub own_copies-copies-requires-clause-room : goal.own_copies-copies-requires-clause-room
own_copies-copies-requires-clause-room g c =
    let new = c.make_call-answer.new.cluster.flat in
    (rw c.request-request.ensures at c.in-Ok.ensures.ok).news (full_reply new c.make_call-answer.result) new c.make_call-answer.ensures.replies

pub invariant_of-self : goal.invariant_of-self
invariant_of-self g c =
    let new = c.make_call-answer.new.cluster.flat in
    let none = sym (c.is_no_memory.ensures new) ∙ c.if-is_no_memory.true in
    let same = unchanged c.self.inside.cluster.flat new c.args.ready.now (full_reply new c.make_call-answer.result) c.make_call-answer.ensures.replies none in
    subst (λ (x : Flat resources). IsDesk g.J.Naming.table g.J.Naming.opening g.J.Naming.limit g.J.Naming.seats x c.self.inside.journal.items c.self.inside.pass.table_id c.self.inside.pass.me c.self.inside.limit (vec_capacity c.self.inside.journal)) (sym same) c.self.invariant

pub invariant_of-self-2 : goal.invariant_of-self-2
invariant_of-self-2 g c =
    let new = c.make_call-answer.new.cluster.flat in
    let reply = full_reply new c.make_call-answer.result in
    let copies = c.own_copies-copies in
    let called = event.Call c.seat.inside.number c.in-Ok.room.entry copies.result.entry in
    let len = c.self.inside.journal.ok.0 in
    let log : length c.self.inside.journal.items ≡ length c.args.self.now.log = ap (λ (v : Content). length v.log) c.self.view_is in
    let step = call_step c.self.inside.cluster.flat new c.seat.inside.number c.args.ready.now _ reply _ c.make_call-answer.ensures.replies (c.in-Ok.ensures.ok.entry ∙ c.request-request.ensures) copies.ensures.entry in
    entered_desk _ _ _ _ c.self.inside.journal.items c.self.inside.pass c.enter.new.desk c.seat.inside.pass c.enter.new.seat c.self.inside.cluster.flat new _ _ _ (record { seat = c.seat.inside.number; event = called })
    (receipt.Call c.next_position-position.result c.in-Ok.room.receipt copies.result.receipt) _ c.self.invariant c.enter.ensures.entered step (c.seat.invariant.below, refl) (omega (arith, c.requires.room, c.self.invariant.limit_is)) c.enter.ensures.journal c.enter.ensures.capacity

pub invariant_of-seat-2 : goal.invariant_of-seat-2
invariant_of-seat-2 g c =
    let r = receipt.Call c.next_position-position.result c.in-Ok.room.receipt c.own_copies-copies.result.receipt in
    let called = event.Call c.seat.inside.number c.in-Ok.room.entry c.own_copies-copies.result.entry in
    let at = c.self.inside.journal.ok.0 in
    entered_seat _ _ _ _ c.self.inside.journal.items c.self.inside.pass c.enter.new.desk c.seat.inside.pass c.enter.new.seat _ _ _ (record { seat = c.seat.inside.number; event = called }) r
    c.seat.invariant c.enter.ensures.entered (omega (arith, c.next_position-position.ensures)) (c.enter.ensures.receipts ∙ ap (λ xs. xs ++ r ∷ []) c.in-Ok.ensures.receipts)
