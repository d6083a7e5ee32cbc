use Rattle.cap_session.proofs.Prelude.{◌≡◌, [], None, bytes_to_come, AnswersAllBad}
use Rattle.cap_session.proofs.find.find.Given as goal

-- the payloads so far were no requests
abbrev pub invariant-loop-payload : goal.invariant-loop-payload
invariant-loop-payload l = AnswersAllBad l.fn.framer l.framer l.fn.unsent.items l.unsent.items l.fn.answered.items l.answered.items × (l.asked.items ≡ []) × (l.ended ≡ None)

abbrev pub decreases-loop-payload : goal.decreases-loop-payload
decreases-loop-payload l = bytes_to_come l.framer
