-- What each connection hears of a list of steps, and the headline over all of them.
use Rattle.std.specs.Prelude.{◌≡◌, ◌⊎◌, ℕ, List, [], ◌∷◌, ◌++◌, Option, Some, None, Bool, true, false, map, ◌==◌, if◌then◌else◌, take, slice_get, MatchBool}
use Rattle.cap_model.specs.declared.event.Event.{Event}
use Rattle.cap_model.specs.Flat.{Flat}
use Rattle.cap_model.specs.Events.{Run}
use Rattle.cap_frames.specs.Stream.{Tail, rest, fault, IsStream}
use Rattle.cap_world.specs.declared.step.Step.{Step}
use Rattle.cap_world.specs.declared.step.Step.TheVariants as steps
use Rattle.cap_session.specs.Answers.{Call}
use Rattle.cap_world.specs.Answers.{AnswersAll, AnswersSome, calls_by}

-- a step that was performed, also where it did not apply, or that was refused memory
pub data Attempt : Type 0 where
  performed : Step → Attempt
  starved : Step → Attempt

-- all of these steps were performed
abbrev pub all_performed : List Step → List Attempt
all_performed steps = map (λ step. performed step) steps

-- the step that ended a run, if any: it was refused memory
abbrev pub starved_last : Option Step → List Attempt
starved_last None = []
starved_last (Some step) = starved step ∷ []

-- a run of so many of these steps: they were performed, and the next, where there is one, was refused memory, which ended the run
abbrev pub attempts_of : List Step → ℕ → List Attempt
attempts_of steps done = all_performed (take done steps) ++ starved_last (slice_get steps done)

-- a connection after some steps: never opened, or open or no longer open with the pieces that found it open, joined; or no longer open since
-- memory was refused in the last of these pieces
pub data Hearing : Type 0 where
  unopened : Hearing
  live : List ℕ → Hearing
  over : List ℕ → Hearing
  cut : List ℕ → Hearing

-- the bytes go on: what is left of them is less than a frame
abbrev pub GoesOn : List ℕ → Type 0
GoesOn bytes = (payloads : List (List ℕ)) × (left : List ℕ) × IsStream bytes payloads (rest left)

-- the bytes come to a length that no frame has
abbrev pub HasBadLength : List ℕ → Type 0
HasBadLength bytes = (payloads : List (List ℕ)) × (after : List ℕ) × IsStream bytes payloads (fault after)

-- a number is opened once
abbrev pub opened : Hearing → Hearing
opened unopened = live []
opened (live taken) = live taken
opened (over taken) = over taken
opened (cut taken) = cut taken

-- an open connection ends
abbrev pub ended : Hearing → Hearing
ended unopened = unopened
ended (live taken) = over taken
ended (over taken) = over taken
ended (cut taken) = cut taken

-- an open connection takes a piece; it is open no longer where the stream then has a fault
abbrev pub HearsPiece : List ℕ → Hearing → Hearing → Type 0
HearsPiece piece unopened new = new ≡ unopened
HearsPiece piece (over taken) new = new ≡ over taken
HearsPiece piece (cut taken) new = new ≡ cut taken
HearsPiece piece (live taken) new = (GoesOn (taken ++ piece) × (new ≡ live (taken ++ piece))) ⊎ (HasBadLength (taken ++ piece) × (new ≡ over (taken ++ piece)))

-- connection c hears a step: its own alone, and none of the workers'
abbrev pub HearsStep : ℕ → Step → Hearing → Hearing → Type 0
HearsStep c (steps.Open d) old new = new ≡ (if d == c then opened old else old)
HearsStep c (steps.Bytes d piece) old new = MatchBool (d == c) (HearsPiece piece.now old new) (new ≡ old)
HearsStep c (steps.End d) old new = new ≡ (if d == c then ended old else old)
HearsStep c (steps.Copy w) old new = new ≡ old
HearsStep c (steps.Propose w start) old new = new ≡ old
HearsStep c (steps.Commit w) old new = new ≡ old

-- an open connection ends where memory is refused in its piece
abbrev pub cut_short : List ℕ → Hearing → Hearing
cut_short piece unopened = unopened
cut_short piece (live taken) = cut (taken ++ piece)
cut_short piece (over taken) = over taken
cut_short piece (cut taken) = cut taken

-- connection c after a step that was refused memory: as it was, but for a piece of its own
abbrev pub after_starved : ℕ → Step → Hearing → Hearing
after_starved c (steps.Open d) old = old
after_starved c (steps.Bytes d piece) old = if d == c then cut_short piece.now old else old
after_starved c (steps.End d) old = old
after_starved c (steps.Copy w) old = old
after_starved c (steps.Propose w start) old = old
after_starved c (steps.Commit w) old = old

abbrev pub HearsAttempt : ℕ → Attempt → Hearing → Hearing → Type 0
HearsAttempt c (performed step) old new = HearsStep c step old new
HearsAttempt c (starved step) old new = new ≡ after_starved c step old

-- connection c hears the steps one after the other
abbrev pub Hears : ℕ → List Attempt → Hearing → Hearing → Type 0
Hears c [] old new = old ≡ new
Hears c (attempt ∷ attempts) old new = (mid : Hearing) × HearsAttempt c attempt old mid × Hears c attempts mid new

module _ {K : ℕ} where
  -- What a connection was answered for what it heard, and whether it is open. Where memory was refused in a piece, a beginning of the
  -- payloads was answered, and no tail.
  abbrev pub IsHeard : Hearing → List (Call K) → List ℕ → Bool → Type 0
  IsHeard unopened calls output is_open = (calls ≡ []) × (output ≡ []) × (is_open ≡ false)
  IsHeard (live taken) calls output is_open = (tail : Tail) × AnswersAll taken tail calls output × (is_open ≡ true)
  IsHeard (over taken) calls output is_open = (tail : Tail) × AnswersAll taken tail calls output × (is_open ≡ false)
  IsHeard (cut taken) calls output is_open = AnswersSome taken calls output × (is_open ≡ false)

-- The headline, over what is seen from outside: the opening cluster, the steps that were performed or refused memory, the events, the
-- closing cluster, and by number each connection's output and whether it is open. Whatever the steps, the events are one run of the flat
-- cluster from the opening to the close; and each connection's output answers, by its calls among the events, the payloads and the tail of
-- the pieces that found it open, joined. Where a piece was refused memory, it answers a beginning of the payloads and no tail.
pub record IsHeadline {K : ℕ} (opening : Flat K) (attempts : List Attempt) (events : List (Event K)) (closing : Flat K) (output : ℕ → List ℕ) (is_open : ℕ → Bool) : Type 0 where
  pub run : Run opening events closing
  pub each : (c : ℕ) → (heard : Hearing) × Hears c attempts unopened heard × IsHeard heard (calls_by c events) (output c) (is_open c)
