-- What answering requests together does.
use Rattle.std.specs.Prelude.{◌≡◌, ℕ, ◌<◌, List, [], ◌∷◌, ◌++◌, length, map, Option, Some, None, false}
use Rattle.cap_base.specs.Limits.{resources}
use Rattle.cap_model.specs.declared.request.Request.{Request}
use Rattle.cap_model.specs.Events.{is_no_memory}
use Rattle.cap_grammar.specs.Spelling.{IsOfKind, kind_of}
use Rattle.cap_session.specs.Answers.{Call}
use Rattle.cap_session.specs.Session.{SessionState, IsSession, OpenRequest, open_requests, Continues}
use Rattle.cap_shared.specs.Calls.{HasMore}
use Rattle.cap_shared.specs.declared.entry.Entry.{Entry}
use Rattle.cap_shared.specs.declared.entry.Receipt.{Receipt}
use Rattle.cap_shared.specs.declared.entry.Receipt.TheVariants as receipt
use Rattle.cap_shared.specs.declared.history.NotedAnswer.TheVariants as answer
use Rattle.cap_shared.specs.declared.history.Moment.{Moment}
use Rattle.cap_shared.specs.declared.history.Moment.TheVariants.{Entered, Noted}
use Rattle.cap_shared.specs.declared.history.Sitting.{Sitting}
use Rattle.cap_serving.specs.declared.batches.Called.{Called}
use Rattle.cap_serving.specs.declared.batches.Called.TheVariants as called
use Rattle.cap_serving.specs.declared.batches.GivenBack.{GivenBack}
use Rattle.cap_serving.specs.declared.batches.GivenBack.TheVariants as back
use Rattle.cap_serving.specs.Sessions.{Serves, IsSealed}

abbrev pub requests_of : List (Call resources) → List (Request resources)
requests_of calls = map (λ call. call.request) calls

-- the receipts are those of the calls, none of which says that no memory was found; each reply is a refusal or one of its request's kind
pub data AreReceiptsOf : List (Call resources) → List Receipt → Type 0 where
  none_called : AreReceiptsOf [] []
  called_one : {call : Call resources} {calls : List (Call resources)} {receipts : List Receipt} {at : ℕ} → is_no_memory call.reply ≡ false → IsOfKind (kind_of call.request) call.reply → AreReceiptsOf calls receipts
      → AreReceiptsOf (call ∷ calls) (receipt.Call at call.request call.reply ∷ receipts)

-- The first open requests were called, and then these are open. The seat has these receipts of the calls, and was answered nothing else but
-- the note. Nothing else of the session changes.
pub record CallsMade (old new : SessionState) (left : List (Request resources)) (before after : Sitting) (note : List Moment) : Type 0 where
  pub calls : List (Call resources)
  pub receipts : List Receipt
  pub are : AreReceiptsOf calls receipts
  pub requests : open_requests new.opens ≡ requests_of calls ++ left
  pub same : new ≡ record old { opens = new.opens }
  pub seat : HasMore before after (map Entered receipts ++ note)

-- all were called, or an allocation failed for one of them, or the journal was full for it
abbrev pub CallsAll : ℕ → SessionState → SessionState → Sitting → Sitting → Called → Type 0
CallsAll limit old new before after called.Made = CallsMade old new [] before after []
CallsAll limit old new before after called.Starved = (request : Request resources) × CallsMade old new (request ∷ []) before after []
CallsAll limit old new before after (called.Sealed back) = (entries : List Entry) × (length entries ≡ limit) × CallsMade old new (back ∷ []) before after (Noted entries (answer.SealedCall back) ∷ [])

-- the calls under one hold ended so, or all were made up to this one, which is open
abbrev pub IsGivenBack : ℕ → SessionState → SessionState → Sitting → Sitting → GivenBack → Type 0
IsGivenBack limit old new before after (back.Ended outcome) = CallsAll limit old new before after outcome
IsGivenBack limit old new before after (back.Unread next) = CallsMade old new (next ∷ []) before after []

-- whatever was called before, with these requests left: what was called in all
abbrev pub CallsOn : ℕ → List (Request resources) → SessionState → SessionState → Sitting → Sitting → GivenBack → Type 0
CallsOn limit left old new before after outcome = (opening : SessionState) (earlier : Sitting) → CallsMade opening old left earlier before [] → IsGivenBack limit opening new earlier after outcome

-- more requests of what was fed are open
pub record IsFurther (old new : SessionState) : Type 0 where
  pub more : length old.opens < length new.opens
  pub fed : new.fed ≡ old.fed
  pub session : IsSession new

-- so there is an end of holds
abbrev pub GoesFurther : SessionState → SessionState → GivenBack → Type 0
GoesFurther old new (back.Ended outcome) = Unit {0}
GoesFurther old new (back.Unread next) = IsFurther old new

-- these calls are of the first open requests, with these receipts
pub record IsAnsweredBy (opens : List OpenRequest) (receipts : List Receipt) (calls : List (Call resources)) : Type 0 where
  pub left : List (Request resources)
  pub are : AreReceiptsOf calls receipts
  pub requests : open_requests opens ≡ requests_of calls ++ left

-- the payloads of these calls were answered
pub record AnsweredAll (old new : SessionState) (calls : List (Call resources)) : Type 0 where
  pub continues : Continues old new [] calls []
  pub left : open_requests old.opens ≡ requests_of calls ++ open_requests new.opens
  pub ended_same : new.ended ≡ old.ended
  pub fed_same : new.fed ≡ old.fed
  pub sent_same : new.sent ≡ old.sent

-- the open request and those that were read ahead were answered, or the journal was full for one of them
abbrev pub IsBatchMade : ℕ → SessionState → SessionState → Sitting → Sitting → Option (Request resources) → Type 0
IsBatchMade limit old new before after None = Serves old new before after [] [] × (new.opens ≡ []) × (new.ended ≡ None)
IsBatchMade limit old new before after (Some back) = IsSealed limit back old new before after
