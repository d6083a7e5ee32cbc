-- What is read of a stream, and what comes next in it.
use Rattle.std.specs.Prelude.{◌≡◌, ℕ, ◌≤◌, List, [], ◌∷◌, ◌++◌, Option, Some, None, All}
use Rattle.bytes.specs.Filled.{Filled}
use Rattle.cap_base.specs.Limits.{resources}
use Rattle.cap_model.specs.declared.request.Request.{Request}
use Rattle.cap_frames.specs.Stream.{frame_of}
use Rattle.cap_frames.specs.History.{History, IsReading, IsAtRest, IsAtFault}
use Rattle.cap_grammar.specs.Spelling.{fault_reply}
use Rattle.cap_session.specs.Answers.{Answers}
use Rattle.cap_session.specs.Session.{OpenRequest, open_payloads, open_requests}
use Rattle.cap_session.specs.Kept.{AnswerLog, answered_in, calls_of, IsRead}
use Rattle.cap_session.specs.declared.session.SessionCause.{SessionCause}
use Rattle.cap_session.specs.declared.session.SessionCause.TheVariants as causes
use Rattle.cap_session.specs.declared.session.Next.{Next}
use Rattle.cap_session.specs.declared.session.Next.TheVariants as nexts
use Rattle.cap_session.specs.Rooms.{open_room}

-- some more requests were read, which are what the framer gave
pub record ReadsAhead (h k : History) (old new : List OpenRequest) (had has : List (Request resources)) : Type 0 where
  pub more : List OpenRequest
  pub asked : new ≡ old ++ more
  pub requests : has ≡ had ++ open_requests more
  pub read : All IsRead more
  pub fed : k.fed ≡ h.fed
  pub given : k.given ≡ h.given ++ open_payloads more

-- some payloads that are no requests were answered
pub record AnswersBad (h k : History) (u v : List ℕ) (old new : AnswerLog) (payloads : List (List ℕ)) (frames : List ℕ) : Type 0 where
  pub answers : Answers {K = resources} payloads [] frames
  pub fed : k.fed ≡ h.fed
  pub unsent : v ≡ u ++ frames
  pub answered : answered_in new ≡ answered_in old ++ payloads
  pub calls : calls_of new ≡ calls_of old

-- and these are all that were given
pub record AnswersAllBad (h k : History) (u v : List ℕ) (old new : AnswerLog) : Type 0 where
  pub payloads : List (List ℕ)
  pub frames : List ℕ
  pub step : AnswersBad h k u v old new payloads frames
  pub given : k.given ≡ h.given ++ payloads

-- what was found after some payloads that are no requests
abbrev pub Finds : History → History → List OpenRequest → Filled → Filled → AnswerLog → AnswerLog → Next → Type 0
Finds h k asked u v old new (nexts.Request request) = (payloads : List (List ℕ)) × (frames : List ℕ) × (o : OpenRequest) × AnswersBad h k u.items v.items old new payloads frames × (k.given ≡ h.given ++ (payloads ++ o.payload ∷ []))
    × IsReading k × (asked ≡ o ∷ []) × (o.request ≡ request) × IsRead o × (open_room o ≤ v.spare)
Finds h k asked u v old new nexts.Need = AnswersAllBad h k u.items v.items old new × (asked ≡ []) × IsAtRest k
Finds h k asked u v old new (nexts.Ended causes.BadLength) = (payloads : List (List ℕ)) × (frames : List ℕ) × (w : List ℕ) × AnswersBad h k u.items w old new payloads frames × (k.given ≡ h.given ++ payloads)
    × (v.items ≡ w ++ frame_of (fault_reply 40)) × (asked ≡ []) × IsReading k × IsAtFault k
Finds h k asked u v old new (nexts.Ended causes.NoMemory) = (payloads : List (List ℕ)) × (frames : List ℕ) × (lost : List (List ℕ)) × AnswersBad h k u.items v.items old new payloads frames × (k.given ≡ h.given ++ (payloads ++ lost)) × (asked ≡ []) × IsReading k
Finds h k asked u v old new (nexts.Ended causes.WriteFault) = ⊥

-- why a session that had not ended has ended then
abbrev pub ended_by : Next → Option SessionCause
ended_by (nexts.Request request) = None
ended_by nexts.Need = None
ended_by (nexts.Ended cause) = Some cause

-- the fault reply 40 was written, or memory was refused for it
abbrev pub EndsWith : List ℕ → List ℕ → SessionCause → Type 0
EndsWith u v causes.BadLength = v ≡ u ++ frame_of (fault_reply 40)
EndsWith u v causes.NoMemory = v ≡ u
EndsWith u v causes.WriteFault = ⊥
