-- The rule of the word beside the lock: what each pass knows agrees with one journal.
use Rattle.std.specs.Prelude.{◌≡◌, ℕ, zero, suc, ◌+◌, ◌≤◌, ◌==◌, Bool, true, false, List, [], ◌∷◌, ◌++◌, length, if◌then◌else◌}
use mathlib.Core.Option.{Option, none, some}
use mathlib.Core.List.{IsPrefix}
use lib.ListN.{get_elem?}
use Rattle.atomic_table.specs.Table.{State, Me, Step}
use Rattle.atomic_table.specs.Seated.{TableId}
use Rattle.cap_base.specs.Limits.{resources}
use Rattle.cap_base.specs.Settings.{no_settings}
use Rattle.cap_model.specs.Flat.{Flat, opened_cluster}
use Rattle.cap_shared.specs.declared.entry.Entry.{Entry}
use Rattle.cap_shared.specs.declared.history.NotedAnswer.{NotedAnswer}
use Rattle.cap_shared.specs.declared.history.NotedAnswer.TheVariants as answer
use Rattle.cap_shared.specs.declared.history.Mark.{Mark}
use Rattle.cap_shared.specs.declared.history.Mark.TheVariants as mark
use Rattle.cap_shared.specs.declared.history.Moment.{Moment}
use Rattle.cap_shared.specs.declared.history.Moment.TheVariants.{Entered, Noted}
use Rattle.cap_shared.specs.declared.history.Sitting.{Sitting}
use Rattle.cap_shared.specs.declared.history.View.{View}
use Rattle.cap_shared.specs.Journal.{receipt_for, seat_entries, receipts_in}

-- what stands for a word and for a cluster where there is none
abbrev pub no_table : TableId
no_table = record { words = 0; slots = 0; views_name = 0; atom = 0; block = 0; offset = 0; slot_names = [] }

abbrev pub no_cluster : Flat resources
no_cluster = opened_cluster no_settings

abbrev pub sitting : ℕ → List Moment → Sitting
sitting n ms = record { seat = n; past = ms }

abbrev pub view_of : Bool → List Entry → List Sitting → View
view_of k es ss = record { keeps = k; log = es; sits = ss }

-- the pass under the lock, the pass of a seat, and a spent one
abbrev pub keeper : List Entry → View
keeper es = view_of true es []

abbrev pub sitter : Sitting → View
sitter s = view_of false [] (s ∷ [])

abbrev pub nobody : View
nobody = view_of false [] []

-- k seats, numbered from n, which were answered nothing
abbrev pub fresh : ℕ → ℕ → List Sitting
fresh n zero = []
fresh n (suc k) = sitting n [] ∷ fresh (suc n) k

abbrev pub first_view : ℕ → View
first_view k = view_of true [] (fresh 0 k)

abbrev pub rest_of : List Sitting → List Sitting
rest_of [] = []
rest_of (s ∷ ss) = ss

abbrev pub head_of : List Sitting → List Sitting
head_of [] = []
head_of (s ∷ ss) = s ∷ []

abbrev pub without_first : View → View
without_first v = view_of v.keeps v.log (rest_of v.sits)

abbrev pub only_first : View → View
only_first v = view_of false [] (head_of v.sits)

abbrev pub with_guest : View → View → View
with_guest v w = view_of v.keeps v.log (v.sits ++ w.sits)

-- each note has a beginning of the journal
abbrev pub NotesBegin : List Entry → List Moment → Type 0
NotesBegin log [] = Unit {0}
NotesBegin log (Entered r ∷ ms) = NotesBegin log ms
NotesBegin log (Noted es a ∷ ms) = IsPrefix es log × NotesBegin log ms

-- a seat's receipts are those for its entries, in order and at their positions, and each note has a beginning of the journal
pub record Fits (log : List Entry) (s : Sitting) : Type 0 where
  pub receipts : seat_entries s.seat 0 log ≡ receipts_in s.past
  pub notes : NotesBegin log s.past

abbrev pub AllFit : List Entry → List Sitting → Type 0
AllFit log [] = Unit {0}
AllFit log (s ∷ ss) = Fits log s × AllFit log ss

-- how often a seat is among these
abbrev pub times : ℕ → List Sitting → ℕ
times x [] = 0
times x (s ∷ ss) = (if s.seat == x then 1 else 0) + times x ss

abbrev pub total : ℕ → List View → ℕ
total x [] = 0
total x (v ∷ vs) = times x v.sits + total x vs

pub record Knows (keeper_at : ℕ) (log : List Entry) (by : ℕ) (v : View) : Type 0 where
  pub keeps : v.keeps ≡ true → (by ≡ keeper_at) × (v.log ≡ log)
  pub fits : AllFit log v.sits

-- one pass keeps the journal, all sittings fit it, and no seat sits twice
pub record Kept (views : List View) : Type 0 where
  pub keeper_at : ℕ
  pub log : List Entry
  pub knows : (by : ℕ) (v : View) → get_elem? views by ≡ some v → Knows keeper_at log by v
  pub once : (x : ℕ) → total x views ≤ 1

abbrev pub Holds : ℕ → State Mark View → Type 0
Holds k s = Kept s.views

-- what a mark adds
pub data Addition : Type 0 where
  Enters : Entry → Addition
  Notes : NotedAnswer → Addition
  Nothing : Addition

abbrev pub first_note : {A B : Type 0} → (A → B → NotedAnswer) → List (A × B) → Addition
first_note make [] = Nothing
first_note make (x ∷ xs) = Notes (make x.0 x.1)

abbrev pub first_entry : List (Entry × Unit {0}) → Addition
first_entry [] = Nothing
first_entry (x ∷ xs) = Enters x.0

abbrev pub addition_of : Mark → Addition
addition_of (mark.Entry log) = first_entry log.items
addition_of (mark.Rejected log) = first_note (λ p reason. answer.Rejected p reason) log.items
addition_of (mark.SealedCall log) = first_note (λ request _. answer.SealedCall request) log.items
addition_of (mark.SealedCommit log) = first_note (λ p _. answer.SealedCommit p) log.items
addition_of (mark.NoMemory log) = first_note (λ p _. answer.NoMemory p) log.items
addition_of mark.Copied = Notes answer.Copied
addition_of mark.Nothing = Nothing

-- the journal after it, and what a seat was answered then
abbrev pub log_after : List Entry → Addition → List Entry
log_after log (Enters e) = log ++ e ∷ []
log_after log (Notes a) = log
log_after log Nothing = log

abbrev pub past_after : List Entry → Addition → Sitting → List Moment
past_after log (Enters e) s = if e.seat == s.seat then (s.past ++ Entered (receipt_for (length log) e.event) ∷ []) else s.past
past_after log (Notes a) s = s.past ++ Noted log a ∷ []
past_after log Nothing s = s.past

abbrev pub sitting_after : List Entry → Addition → Sitting → Sitting
sitting_after log x s = sitting s.seat (past_after log x s)

abbrev pub sits_after : List Entry → Addition → List Sitting → List Sitting
sits_after log x [] = []
sits_after log x (s ∷ ss) = sitting_after log x s ∷ sits_after log x ss

abbrev pub view_with : View → Addition → View
view_with v x = view_of v.keeps (log_after v.log x) (sits_after v.log x v.sits)

abbrev pub view_after : View → Option Mark → View
view_after v none = v
view_after v (some m) = view_with v (addition_of m)

abbrev pub IsAdded : Step Mark → Me Mark View → ℕ → Me Mark View → Type 0
IsAdded st v found w = (w ≡ (view_after v.0 st.said, v.1)) × AllFit v.0.log v.0.sits

abbrev pub IsCompared : Step Mark → Me Mark View → ℕ → Me Mark View → Type 0
IsCompared st v found w = (w ≡ v) × AllFit v.0.log v.0.sits × ((x : ℕ) → times x v.0.sits ≤ 1)

-- the sitting of a seat's pass
abbrev pub first_of : List Sitting → Sitting
first_of [] = sitting 0 []
first_of (s ∷ ss) = s

abbrev pub sitting_of : View → Sitting
sitting_of v = first_of v.sits

-- the keeper may enter what is of this seat
abbrev pub IsOf : ℕ → Addition → Type 0
IsOf n (Enters e) = e.seat ≡ n
IsOf n (Notes a) = Unit {0}
IsOf n Nothing = Unit {0}

abbrev pub IsKeeper : Me Mark View → Type 0
IsKeeper me = me ≡ (keeper me.0.log, [])

abbrev pub IsSitter : Me Mark View → Type 0
IsSitter me = me ≡ (sitter (sitting_of me.0), [])
