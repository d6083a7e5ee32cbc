use Rattle.cap_world.proofs.Prelude.{◌≡◌, [], None, bytes_unanswered, Serves}
use Rattle.cap_world.proofs.service.answer_all.Given as goal

-- the requests so far were answered
abbrev pub invariant-loop-request : goal.invariant-loop-request
invariant-loop-request l = record {
  serves : Serves l.by [] l.fn.session l.session l.fn.cluster.flat l.cluster.flat l.fn.events.items l.events.items [];
  sent : l.session.sent ≡ l.fn.session.sent;
  none_open : l.session.opens ≡ [];
  ended : l.session.ended ≡ None;
}

abbrev pub decreases-loop-request : goal.decreases-loop-request
decreases-loop-request l = bytes_unanswered l.session
