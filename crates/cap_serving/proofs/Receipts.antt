-- Calls of a session, and the receipts of the seat that made them.
use Rattle.cap_serving.proofs.Prelude.{◌≡◌, ℕ, List, [], ◌++◌, refl, ap, sym, ◌∙◌, append_assoc, append-nil, take, drop, take-append-drop, resources, Call, sent_count, SessionState, Continues, all_answers, after_sent, Sent, continues_none, continues_then, HasMore, sitting, Moment, Sitting, HaveReceipts, none_made, made, starved, Serves}

pub receipts_then : {cs ds : List (Call resources)} {ms ns : List Moment} → HaveReceipts cs ms → HaveReceipts ds ns → HaveReceipts (cs ++ ds) (ms ++ ns)
receipts_then none_made y = y
receipts_then (made {call} found x) y = made {call = call} found (receipts_then x y)
receipts_then (starved x) y = starved (receipts_then x y)

-- a seat that was answered nothing
pub has_none : (s : Sitting) → HasMore s s []
has_none s = ap (λ (ps : List Moment). sitting s.seat ps) (sym (append-nil s.past))

-- no call was made
pub serves_quiet : (old new : SessionState) (s : Sitting) (more last : List ℕ) → Continues old new more [] last → Serves old new s s last []
serves_quiet old new s more last continues = record { more = more; calls = []; moments = []; continues = continues; receipts = none_made; seat = has_none s }

pub serves_none : (t : SessionState) (s : Sitting) → Serves t t s s [] []
serves_none t s = serves_quiet t t s [] [] (continues_none t)

-- one after the other
pub serves_then : {a b c : SessionState} {s t u : Sitting} {last : List ℕ} {note : List Moment} → Serves a b s t [] [] → Serves b c t u last note → Serves a c s u last note
serves_then {a} {b} {c} {s} {t} {u} {last} {note} x y = record {
  more = x.more ++ y.more;
  calls = x.calls ++ y.calls;
  moments = x.moments ++ y.moments;
  continues = continues_then x.continues y.continues;
  receipts = receipts_then x.receipts y.receipts;
  seat = y.seat ∙ ap (λ (v : Sitting). sitting v.seat (v.past ++ (y.moments ++ note))) x.seat ∙ ap (λ (ps : List Moment). sitting s.seat ps)
      (ap (λ (q : List Moment). (s.past ++ q) ++ (y.moments ++ note)) (append-nil x.moments) ∙ append_assoc s.past x.moments (y.moments ++ note) ∙ ap (λ (q : List Moment). s.past ++ q) (sym (append_assoc x.moments y.moments note)));
}

-- a session of which the same was fed and answered
pub serves_as : {a b : SessionState} {s t : Sitting} {last : List ℕ} {note : List Moment} (c : SessionState) → Serves a b s t last note → c.fed ≡ b.fed → c.answered ≡ b.answered → c.calls ≡ b.calls → all_answers c ≡ all_answers b → Serves a c s t last note
serves_as c x fed answered calls output = record {
  more = x.more;
  calls = x.calls;
  moments = x.moments;
  continues = record {
    payloads = x.continues.payloads;
    frames = x.continues.frames;
    fed = fed ∙ x.continues.fed;
    answered = answered ∙ x.continues.answered;
    calls = calls ∙ x.continues.calls;
    answers = x.continues.answers;
    output = output ∙ x.continues.output;
  };
  receipts = x.receipts;
  seat = x.seat;
}

same_answers : (t : SessionState) (sent : Sent) → all_answers (after_sent t sent) ≡ all_answers t
same_answers t sent = append_assoc t.sent (take (sent_count sent) t.unsent) (drop (sent_count sent) t.unsent) ∙ ap (λ (x : List ℕ). t.sent ++ x) (take-append-drop (sent_count sent) t.unsent)

-- bytes went out
pub serves_sent : {a b : SessionState} {s t : Sitting} {last : List ℕ} {note : List Moment} (sent : Sent) → Serves a b s t last note → Serves a (after_sent b sent) s t last note
serves_sent {a} {b} sent x = serves_as (after_sent b sent) x refl refl refl (same_answers b sent)
