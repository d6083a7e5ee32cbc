-- What each call of a seat adds to what it was answered.
use Rattle.std.specs.Prelude.{◌≡◌, ℕ, ◌<◌, ◌≤◌, List, [], ◌∷◌, ◌++◌, length, false}
use Rattle.cap_base.specs.Limits.{resources}
use Rattle.cap_model.specs.Flat.{Flat}
use Rattle.cap_model.specs.Sight.{Sight, sight_of}
use Rattle.cap_model.specs.News.{Reply}
use Rattle.cap_model.specs.Admission.{NodeProposal}
use Rattle.cap_model.specs.Events.{is_no_memory}
use Rattle.cap_model.specs.Replies.{Replies}
use Rattle.cap_model.specs.Verdicts.{IsOf}
use Rattle.cap_model.specs.declared.request.Request.{Request}
use Rattle.cap_model.specs.declared.proposal.Verdict.{Verdict}
use Rattle.cap_model.specs.declared.proposal.Verdict.TheVariants as verdict
use Rattle.cap_grammar.specs.Spelling.{IsOfKind, kind_of}
use Rattle.cap_sights.specs.Sights.{ShowTheSame}
use Rattle.cap_shared.specs.declared.entry.Entry.{Entry}
use Rattle.cap_shared.specs.declared.entry.Receipt.TheVariants as receipt
use Rattle.cap_shared.specs.declared.faults.CallFault.{CallFault}
use Rattle.cap_shared.specs.declared.faults.CallFault.TheVariants as fault
use Rattle.cap_shared.specs.declared.faults.CommitFault.{CommitFault}
use Rattle.cap_shared.specs.declared.faults.CommitFault.TheVariants as refusal
use Rattle.cap_shared.specs.declared.faults.Fault.{Fault}
use Rattle.cap_shared.specs.declared.faults.Fault.TheVariants as missed
use Rattle.cap_shared.specs.declared.history.NotedAnswer.TheVariants as answer
use Rattle.cap_shared.specs.declared.history.Moment.{Moment}
use Rattle.cap_shared.specs.declared.history.Moment.TheVariants.{Entered, Noted}
use Rattle.cap_shared.specs.declared.history.Sitting.{Sitting}
use Rattle.cap_shared.specs.Journal.{Replays, end_after, receipt_for}
use Rattle.cap_shared.specs.WordRule.{sitting}

-- the same seat was answered these moments more
abbrev pub HasMore : Sitting → Sitting → List Moment → Type 0
HasMore old new moments = new ≡ sitting old.seat (old.past ++ moments)

-- a call that is answered has a receipt of its own; the reply is a refusal, never that no memory was found, or of the request's kind
abbrev pub CallsOk : Request resources → Sitting → Sitting → Reply resources → Type 0
CallsOk request old new reply =
    (is_no_memory reply ≡ false) × ((n : ℕ) × HasMore old new (Entered (receipt.Call n request reply) ∷ [])) × IsOfKind (kind_of request) reply

-- a call was answered, whatever its reply is
abbrev pub IsCalled : Request resources → Sitting → Sitting → Type 0
IsCalled request old new = (reply : Reply resources) × CallsOk request old new reply

-- a call was answered by the reply function
abbrev pub IsCalledOn : Flat resources → Request resources → Flat resources → Sitting → Sitting → Type 0
IsCalledOn before request after old new = (reply : Reply resources) × CallsOk request old new reply × Replies before request reply after

-- that a full journal kept the call from being made is noted
abbrev pub IsSealedCall : Request resources → ℕ → Sitting → Sitting → Type 0
IsSealedCall request limit old new = (es : List Entry) × (length es ≡ limit) × HasMore old new (Noted es (answer.SealedCall request) ∷ [])

-- the call changed nothing, and the seat has met no full journal
abbrev pub IsStarvedCall : ℕ → Sitting → Sitting → Type 0
IsStarvedCall limit old new = (new ≡ old) × (end_after 0 old.past < limit)

abbrev pub CallMisses : Request resources → ℕ → Sitting → Sitting → Fault → Type 0
CallMisses request limit old new missed.Sealed = IsSealedCall request limit old new
CallMisses request limit old new missed.NoMemory = IsStarvedCall limit old new

-- a full journal is told first: an allocation has failed only where it is not full
abbrev pub TellsFull : ℕ → List Entry → Fault → Type 0
TellsFull limit log missed.Sealed = limit ≤ length log
TellsFull limit log missed.NoMemory = length log < limit

-- a call that is not made gives its request back; where an allocation failed, nothing changed
abbrev pub CallsBack : Request resources → ℕ → Sitting → Sitting → CallFault → Type 0
CallsBack request limit old new (fault.Sealed back) = (back ≡ request) × IsSealedCall request limit old new
CallsBack request limit old new (fault.NoMemory back) = (back ≡ request) × IsStarvedCall limit old new

-- a proposal that is made has a receipt of an event of its kind, application, key, node and resource; a rejection is noted
abbrev pub CommitAnswers : NodeProposal → Sitting → Sitting → Verdict resources → Type 0
CommitAnswers p old new (verdict.Done event) = IsOf p event × ((n : ℕ) × HasMore old new (Entered (receipt_for n event) ∷ []))
CommitAnswers p old new (verdict.Rejected reason) = (es : List Entry) × HasMore old new (Noted es (answer.Rejected p reason) ∷ [])

-- a proposal that is not tried or not made comes back, and that is noted; an allocation has failed only where the journal was not full
abbrev pub CommitsBack : NodeProposal → ℕ → Sitting → Sitting → CommitFault → Type 0
CommitsBack p limit old new (refusal.Sealed back) =
    (back ≡ p) × ((es : List Entry) × (length es ≡ limit) × HasMore old new (Noted es (answer.SealedCommit p) ∷ []))
CommitsBack p limit old new (refusal.NoMemory back) =
    (back ≡ p) × ((es : List Entry) × (length es < limit) × HasMore old new (Noted es (answer.NoMemory p) ∷ []))

-- the same of a proposal that is not tried or not made
abbrev pub TellsFullFirst : ℕ → List Entry → CommitFault → Type 0
TellsFullFirst limit log (refusal.Sealed back) = limit ≤ length log
TellsFullFirst limit log (refusal.NoMemory back) = length log < limit

-- a copy shows what the cluster showed after the entries of its note
abbrev pub CopyIs : Flat resources → Sitting → Sitting → Sight resources → Type 0
CopyIs opening old new sight =
    (es : List Entry) × (mid : Flat resources) × Replays opening es mid × ShowTheSame sight (sight_of mid) × HasMore old new (Noted es answer.Copied ∷ [])
