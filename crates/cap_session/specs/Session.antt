-- A session, as far as anybody can see it, and what its calls do.
use Rattle.std.specs.Prelude.{◌≡◌, ◌⊎◌, ℕ, ◌-◌, List, [], ◌∷◌, ◌++◌, length, map, take, drop, Option, Some, None}
use Rattle.cap_base.specs.Limits.{resources}
use Rattle.cap_model.specs.declared.request.Request.{Request}
use Rattle.cap_model.specs.News.{Reply}
use Rattle.cap_frames.specs.Stream.{frame_of, frames_of, Tail, rest, fault, IsStream}
use Rattle.cap_grammar.specs.declared.head.Head.{Head}
use Rattle.cap_grammar.specs.Spelling.{IsRequest, IsReply, IsOfKind, kind_of, reply_bytes, fault_reply}
use Rattle.cap_session.specs.Counted.{sent_count}
use Rattle.cap_session.specs.Answers.{Call, Answers, IsAnswered}
use Rattle.cap_session.specs.declared.session.SessionCause.{SessionCause}
use Rattle.cap_session.specs.declared.session.SessionCause.TheVariants as causes
use Rattle.cap_session.specs.declared.session.Fed.{Fed}
use Rattle.cap_session.specs.declared.session.Fed.TheVariants as feds
use Rattle.cap_session.specs.declared.session.Next.{Next}
use Rattle.cap_session.specs.declared.session.Next.TheVariants as nexts
use Rattle.cap_session.specs.declared.counted.Sent.{Sent}
use Rattle.cap_session.specs.declared.counted.Sent.TheVariants as sents

-- a payload that was handed out as a request and is not answered yet
pub record OpenRequest : Type 0 where
  pub payload : List ℕ
  pub head : Head
  pub request : Request resources

-- the bytes that were fed, the payloads that were answered, the requests that are open, the calls, the bytes of answers that were
-- written out and those that were not yet, and why it has ended
pub record SessionState : Type 0 where
  pub fed : List ℕ
  pub answered : List (List ℕ)
  pub opens : List OpenRequest
  pub calls : List (Call resources)
  pub sent : List ℕ
  pub unsent : List ℕ
  pub ended : Option SessionCause

-- a session that was fed nothing
abbrev pub new_session : SessionState
new_session = record { fed = []; answered = []; opens = []; calls = []; sent = []; unsent = []; ended = None }

-- the payloads of open requests, and the requests
abbrev pub open_payloads : List OpenRequest → List (List ℕ)
open_payloads opens = map (λ o. o.payload) opens

abbrev pub open_requests : List OpenRequest → List (Request resources)
open_requests opens = map (λ o. o.request) opens

-- all bytes of its answers
abbrev pub all_answers : SessionState → List ℕ
all_answers s = s.sent ++ s.unsent

-- the payloads that were answered, then those of the open requests, then later ones, are those of the bytes that were fed
abbrev pub FollowsStream : SessionState → Type 0
FollowsStream s = (later : List (List ℕ)) × (tail : Tail) × IsStream s.fed (s.answered ++ (open_payloads s.opens ++ later)) tail

-- All bytes of its answers answer, by its calls, the payloads that were answered. Where it has ended for a length that no frame has, the
-- bytes that were fed are these payloads and then such a length, and the fault reply 40 follows the answers.
abbrev pub AnswersBy : Option SessionCause → SessionState → Type 0
AnswersBy None s = Answers s.answered s.calls (all_answers s)
AnswersBy (Some causes.NoMemory) s = Answers s.answered s.calls (all_answers s)
AnswersBy (Some causes.WriteFault) s = Answers s.answered s.calls (all_answers s)
AnswersBy (Some causes.BadLength) s = (after : List ℕ) × IsAnswered s.answered (fault after) s.calls (all_answers s) × IsStream s.fed s.answered (fault after)

abbrev pub HasAnswered : SessionState → Type 0
HasAnswered s = AnswersBy s.ended s

-- what every session promises
pub record IsSession (s : SessionState) : Type 0 where
  pub stream : FollowsStream s
  pub answers : HasAnswered s

-- how many of the bytes that were fed are in no payload that was answered
abbrev pub bytes_unanswered : SessionState → ℕ
bytes_unanswered s = length s.fed - length (frames_of s.answered)

-- What was fed and answered since: these bytes were fed, and some more payloads were answered, by these calls; and last these bytes, which
-- answer no payload.
pub record Continues (old new : SessionState) (more : List ℕ) (made : List (Call resources)) (last : List ℕ) : Type 0 where
  pub payloads : List (List ℕ)
  pub frames : List ℕ
  pub fed : new.fed ≡ old.fed ++ more
  pub answered : new.answered ≡ old.answered ++ payloads
  pub calls : new.calls ≡ old.calls ++ made
  pub answers : Answers payloads made frames
  pub output : all_answers new ≡ all_answers old ++ (frames ++ last)

-- ---- feeding, and the next request

-- what feeding a piece does: all of it is taken; or none of it, where the session had ended or memory was refused
abbrev pub FeedGives : List ℕ → SessionState → SessionState → Fed → Type 0
FeedGives piece old new feds.Taken = (old.ended ≡ None) × (new ≡ record old { fed = old.fed ++ piece })
FeedGives piece old new (feds.Ended cause) = ((old.ended ≡ Some cause) × (new ≡ old)) ⊎ ((old.ended ≡ None) × (cause ≡ causes.NoMemory) × (new ≡ record old { ended = Some causes.NoMemory }))

-- some payloads that are no requests were answered so
abbrev pub after_bad_messages : SessionState → List (List ℕ) → List ℕ → SessionState
after_bad_messages s payloads frames = record s { answered = s.answered ++ payloads; unsent = s.unsent ++ frames }

-- It ends now, after some payloads that are no requests: a length that no frame has is answered, or memory was refused.
abbrev pub EndsNow : SessionState → SessionState → SessionCause → Type 0
EndsNow old new causes.BadLength = (payloads : List (List ℕ)) × (frames : List ℕ) × Answers {K = resources} payloads [] frames
    × (new ≡ record (after_bad_messages old payloads (frames ++ frame_of (fault_reply 40))) { ended = Some causes.BadLength })
    × ((after : List ℕ) × IsStream new.fed new.answered (fault after))
EndsNow old new causes.NoMemory = (payloads : List (List ℕ)) × (frames : List ℕ) × Answers {K = resources} payloads [] frames
    × (new ≡ record (after_bad_messages old payloads frames) { ended = Some causes.NoMemory })
EndsNow old new causes.WriteFault = ⊥

-- What comes next: after some payloads that are no requests a request, which is open then, or less than a frame, and then all payloads are
-- answered; or the session has ended, before or now.
abbrev pub NextGives : SessionState → SessionState → Next → Type 0
NextGives old new (nexts.Request request) = (old.ended ≡ None) × (payloads : List (List ℕ)) × (frames : List ℕ) × (o : OpenRequest) × Answers {K = resources} payloads [] frames × (o.request ≡ request) × IsRequest o.payload o.head request
    × (new ≡ record (after_bad_messages old payloads frames) { opens = o ∷ [] })
NextGives old new nexts.Need = (old.ended ≡ None) × (payloads : List (List ℕ)) × (frames : List ℕ) × Answers {K = resources} payloads [] frames × (new ≡ after_bad_messages old payloads frames)
    × ((left : List ℕ) × IsStream new.fed new.answered (rest left))
NextGives old new (nexts.Ended cause) = ((old.ended ≡ Some cause) × (new ≡ old)) ⊎ ((old.ended ≡ None) × EndsNow old new cause)

-- one more request is open, or nothing changes
abbrev pub OpensNext : SessionState → SessionState → Option (Request resources) → Type 0
OpensNext old new None = new ≡ old
OpensNext old new (Some request) = (o : OpenRequest) × (o.request ≡ request) × IsRequest o.payload o.head request × (new ≡ record old { opens = old.opens ++ o ∷ [] })

-- ---- an answer

-- a request is open, and the reply is a refusal or one of the kind of the first that is
abbrev pub MayAnswer : List OpenRequest → Reply resources → Type 0
MayAnswer [] reply = ⊥
MayAnswer (o ∷ opens) reply = IsOfKind (kind_of o.request) reply

-- the bytes of a reply to an open request
abbrev pub answer_bytes : OpenRequest → Reply resources → List ℕ
answer_bytes o reply = reply_bytes o.head (kind_of o.request) reply

-- the first of the open requests was answered
abbrev pub with_answer : SessionState → List OpenRequest → Reply resources → SessionState
with_answer s [] reply = s
with_answer s (o ∷ opens) reply = record s { answered = s.answered ++ o.payload ∷ []; opens = opens; calls = s.calls ++ record { request = o.request; reply = reply } ∷ []; unsent = s.unsent ++ frame_of (answer_bytes o reply) }

abbrev pub after_answer : SessionState → Reply resources → SessionState
after_answer s reply = with_answer s s.opens reply

-- the payload of the first open request spells it, and the answer spells the reply
abbrev pub SpellsAnswer : List OpenRequest → Reply resources → Type 0
SpellsAnswer [] reply = ⊥
SpellsAnswer (o ∷ opens) reply = IsRequest o.payload o.head o.request × IsReply (answer_bytes o reply) o.head (kind_of o.request) reply

-- ---- writing out

-- the first cause stays
abbrev pub first_cause : Option SessionCause → SessionCause → Option SessionCause
first_cause None cause = Some cause
first_cause (Some earlier) cause = Some earlier

abbrev pub ended_after : Option SessionCause → Sent → Option SessionCause
ended_after ended (sents.All n) = ended
ended_after ended (sents.Fault n) = first_cause ended causes.WriteFault

-- so many first bytes were written out, and the session has ended where the writer failed
abbrev pub after_sent : SessionState → Sent → SessionState
after_sent s sent = record s { sent = s.sent ++ take (sent_count sent) s.unsent; unsent = drop (sent_count sent) s.unsent; ended = ended_after s.ended sent }
