-- How many bytes are in no payload that was answered.
use Rattle.cap_session.proofs.Prelude.{◌≡◌, ℕ, ◌+◌, ◌≤◌, List, ◌++◌, length, length-append, ap, ◌∙◌, arith, inl, inr, flat_map-append, frame_of, frames_of, SessionState, EndsNow, NextGives, bytes_unanswered, SessionCause, Next}
use Rattle.cap_session.specs.declared.session.SessionCause.TheVariants as causes
use Rattle.cap_session.specs.declared.session.Next.TheVariants as nexts

frames_more : (answered payloads : List (List ℕ)) → length (frames_of (answered ++ payloads)) ≡ length (frames_of answered) + length (frames_of payloads)
frames_more answered payloads = ap length (flat_map-append frame_of answered payloads) ∙ length-append (frames_of answered) (frames_of payloads)

-- more payloads were answered
pub fewer_unanswered : (s t : SessionState) (payloads : List (List ℕ)) → t.fed ≡ s.fed → t.answered ≡ s.answered ++ payloads → bytes_unanswered t ≤ bytes_unanswered s
fewer_unanswered s t payloads fed answered = omega (arith, ap (λ (x : List ℕ). length x) fed, ap (λ (x : List (List ℕ)). length (frames_of x)) answered, frames_more s.answered payloads)

ends_fewer : (s t : SessionState) (cause : SessionCause) → EndsNow s t cause → bytes_unanswered t ≤ bytes_unanswered s
ends_fewer s t causes.BadLength (payloads, frames, answers, now, end) = fewer_unanswered s t payloads (ap (λ (x : SessionState). x.fed) now) (ap (λ (x : SessionState). x.answered) now)
ends_fewer s t causes.NoMemory (payloads, frames, answers, now) = fewer_unanswered s t payloads (ap (λ (x : SessionState). x.fed) now) (ap (λ (x : SessionState). x.answered) now)
ends_fewer s t causes.WriteFault ends = absurd ends

-- whatever comes next
pub next_fewer : (s t : SessionState) (next : Next) → NextGives s t next → bytes_unanswered t ≤ bytes_unanswered s
next_fewer s t (nexts.Request request) (over, payloads, frames, o, answers, is, spells, now) = fewer_unanswered s t payloads (ap (λ (x : SessionState). x.fed) now) (ap (λ (x : SessionState). x.answered) now)
next_fewer s t nexts.Need (over, payloads, frames, answers, now, end) = fewer_unanswered s t payloads (ap (λ (x : SessionState). x.fed) now) (ap (λ (x : SessionState). x.answered) now)
next_fewer s t (nexts.Ended cause) (inl (was, same)) = omega (arith, ap bytes_unanswered same)
next_fewer s t (nexts.Ended cause) (inr (over, ends)) = ends_fewer s t cause ends
