use Rattle.cap_serving.proofs.Prelude.{◌≡◌, ℕ, ◌-◌, ◌^◌, List, length, min, [], None, state_of, inner_of, Serves, IsRead, IsWritten, open_requests, option_to_list}
use Rattle.cap_serving.proofs.sessions.serve_session.Given as goal

-- the rounds so far
abbrev pub invariant-loop : goal.invariant-loop
invariant-loop g l = record {
  serves : Serves l.fn.session l.session l.fn.seat l.seat [] [];
  pending : open_requests l.session.opens ≡ option_to_list l.pending;
  goes_on : l.session.ended ≡ None;
  read : IsRead None (state_of l.fn.reader) (state_of l.reader) (g.R.Read.remaining (inner_of l.fn.reader)) (g.R.Read.remaining (inner_of l.reader)) l.fn.session.fed l.session.fed;
  written : (out : List ℕ) × IsWritten None (state_of l.fn.writer) (state_of l.writer) (g.W.Write.contents (inner_of l.fn.writer)) (g.W.Write.contents (inner_of l.writer)) l.fn.session.sent l.session.sent out × (l.sent ≡ min (length out) (2 ^ 64 - 1));
}
