use Rattle.cap_serving.proofs.Prelude.{◌≡◌, [], None, Serves}
use Rattle.cap_serving.proofs.sessions.answer_all.Given as goal

-- the calls so far were made and answered
abbrev pub invariant-loop : goal.invariant-loop
invariant-loop g l = record {
  serves : Serves l.fn.session l.session l.fn.seat l.seat [] [];
  none_open : l.session.opens ≡ [];
  goes_on : l.session.ended ≡ None;
  fed : l.session.fed ≡ l.fn.session.fed;
  sent : l.session.sent ≡ l.fn.session.sent;
}
