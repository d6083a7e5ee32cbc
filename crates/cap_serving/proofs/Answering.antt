-- Calls that are made, and what comes next.
use Rattle.cap_serving.proofs.Prelude.{◌≡◌, ℕ, List, [], ◌∷◌, ◌++◌, Option, Some, None, ap, sym, ◌∙◌, append-nil, inl, inr, resources, Request, frame_of, fault_reply, Answers, SessionState, OpenRequest, NextGives, EndsNow, open_requests, SessionCause, Next, continues_bad, Sitting, Serves, ServesAll, IsSealed, IsPause}
use Rattle.cap_session.specs.declared.session.SessionCause.TheVariants as causes
use Rattle.cap_session.specs.declared.session.Next.TheVariants as nexts
use Rattle.cap_serving.specs.declared.sessions.Pause.TheVariants as pauses
use Rattle.cap_serving.proofs.Receipts.{serves_quiet, serves_then}

-- after what was answered before
pub sealed_then : {a b c : SessionState} {s t u : Sitting} {limit : ℕ} {q : Request resources} → Serves a b s t [] [] → IsSealed limit q b c t u → IsSealed limit q a c s u
sealed_then x y = record { entries = y.entries; full = y.full; serves = serves_then x y.serves; waits = y.waits; goes_on = y.goes_on }

-- ---- what comes next

-- payloads that are no requests were answered, and last came these bytes
bad_then : (b new : SessionState) (t : Sitting) (payloads : List (List ℕ)) (frames last : List ℕ) (o : List OpenRequest) (c : Option SessionCause) → Answers {K = resources} payloads [] frames
    → new ≡ record b { answered = b.answered ++ payloads; unsent = b.unsent ++ (frames ++ last); opens = o; ended = c } → Serves b new t t last []
bad_then b new t payloads frames last o c answers now = serves_quiet b new t [] last
    (continues_bad b new payloads frames last answers (ap (λ (x : SessionState). x.fed) now) (ap (λ (x : SessionState). x.answered) now) (ap (λ (x : SessionState). x.calls) now) (ap (λ (x : SessionState). x.sent) now) (ap (λ (x : SessionState). x.unsent) now))

-- and no more bytes
bad_only : (b new : SessionState) (t : Sitting) (payloads : List (List ℕ)) (frames : List ℕ) (o : List OpenRequest) (c : Option SessionCause) → Answers {K = resources} payloads [] frames → new ≡ record b { answered = b.answered ++ payloads; unsent = b.unsent ++ frames; opens = o; ended = c } → Serves b new t t [] []
bad_only b new t payloads frames o c answers now =
    bad_then b new t payloads frames [] o c answers (now ∙ ap (λ (x : List ℕ). record b { answered = b.answered ++ payloads; unsent = b.unsent ++ x; opens = o; ended = c }) (sym (append-nil frames)))

pub next_need : {a b : SessionState} {s t : Sitting} (new : SessionState) → Serves a b s t [] [] → b.opens ≡ [] → NextGives b new nexts.Need → ServesAll a new s t
next_need {a} {b} {s} {t} new x none (over, payloads, frames, answers, now, at) = record {
  serves = serves_then x (bad_only b new t payloads frames b.opens b.ended answers now);
  at_rest = record { left = at.0; stream = at.1; none_open = ap (λ (v : SessionState). v.opens) now ∙ none; goes_on = ap (λ (v : SessionState). v.ended) now ∙ over };
}

ends_now : {a b : SessionState} {s t : Sitting} (limit : ℕ) (new : SessionState) (cause : SessionCause) → Serves a b s t [] [] → EndsNow b new cause → IsPause limit a new s t (pauses.Ended cause)
ends_now {a} {b} {s} {t} limit new causes.BadLength x (payloads, frames, answers, now, at) = record {
  left = at.0;
  stream = at.1;
  serves = serves_then x (bad_then b new t payloads frames (frame_of (fault_reply 40)) b.opens (Some causes.BadLength) answers now);
}
ends_now {a} {b} {s} {t} limit new causes.NoMemory x (payloads, frames, answers, now) = serves_then x (bad_only b new t payloads frames b.opens (Some causes.NoMemory) answers now)
ends_now {a} {b} {s} {t} limit new causes.WriteFault x ends = absurd ends

pub next_ended : {a b : SessionState} {s t : Sitting} (limit : ℕ) (new : SessionState) (cause : SessionCause) → Serves a b s t [] [] → b.ended ≡ None → NextGives b new (nexts.Ended cause) → IsPause limit a new s t (pauses.Ended cause)
next_ended limit new cause x over (inl (was, same)) = absurd cc
next_ended limit new cause x over (inr (was, ends)) = ends_now limit new cause x ends

pub next_request_is : {a b : SessionState} {s t : Sitting} (new : SessionState) (q : Request resources) → Serves a b s t [] [] → NextGives b new (nexts.Request q) → Serves a new s t [] [] × (open_requests new.opens ≡ q ∷ []) × (new.ended ≡ b.ended)
next_request_is {a} {b} {s} {t} new q x (over, payloads, frames, o, answers, same, spells, now) = (
  serves_then x (bad_only b new t payloads frames (o ∷ []) b.ended answers now),
  ap (λ (v : SessionState). open_requests v.opens) now ∙ ap (λ (p : Request resources). p ∷ []) same,
  ap (λ (v : SessionState). v.ended) now,
)

ends_same : (b new : SessionState) (cause : SessionCause) → EndsNow b new cause → (new.fed ≡ b.fed) × (new.sent ≡ b.sent)
ends_same b new causes.BadLength (payloads, frames, answers, now, at) = (ap (λ (v : SessionState). v.fed) now, ap (λ (v : SessionState). v.sent) now)
ends_same b new causes.NoMemory (payloads, frames, answers, now) = (ap (λ (v : SessionState). v.fed) now, ap (λ (v : SessionState). v.sent) now)
ends_same b new causes.WriteFault ends = absurd ends

-- nothing was fed and nothing went out
pub next_same : (b new : SessionState) (next : Next) → NextGives b new next → (new.fed ≡ b.fed) × (new.sent ≡ b.sent)
next_same b new (nexts.Request q) (over, payloads, frames, o, answers, same, spells, now) = (ap (λ (v : SessionState). v.fed) now, ap (λ (v : SessionState). v.sent) now)
next_same b new nexts.Need (over, payloads, frames, answers, now, at) = (ap (λ (v : SessionState). v.fed) now, ap (λ (v : SessionState). v.sent) now)
next_same b new (nexts.Ended cause) (inl (was, same)) = (ap (λ (v : SessionState). v.fed) same, ap (λ (v : SessionState). v.sent) same)
next_same b new (nexts.Ended cause) (inr (over, ends)) = ends_same b new cause ends
