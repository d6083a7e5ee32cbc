-- What a replica has followed of the journal, and what is new to it.
use Rattle.std.specs.Prelude.{◌≡◌, ◌⊎◌, ℕ, ◌+◌, ◌<◌, ◌^◌, Bool, IsTrue, IsFalse, List, [], ◌∷◌, ◌++◌, length, map, flat_map, take, if◌then◌else◌}
use mathlib.Core.List.{IsPrefix}
use Rattle.cap_base.specs.Limits.{resources}
use Rattle.cap_model.specs.Flat.{Flat}
use Rattle.cap_model.specs.Events.{Step, is_no_memory, grant_proposal, reserve_proposal}
use Rattle.cap_model.specs.declared.event.Event.{Event}
use Rattle.cap_model.specs.declared.event.Event.TheVariants as event
use Rattle.cap_shared.specs.declared.deed.Deed.{Deed}
use Rattle.cap_shared.specs.declared.deed.Deed.TheVariants as deed
use Rattle.cap_shared.specs.declared.entry.Entry.{Entry}
use Rattle.cap_shared.specs.declared.history.NotedAnswer.TheVariants as answer
use Rattle.cap_shared.specs.declared.history.Moment.{Moment}
use Rattle.cap_shared.specs.declared.history.Moment.TheVariants.{Entered, Noted}
use Rattle.cap_shared.specs.declared.history.Sitting.{Sitting}
use Rattle.cap_shared.specs.Calls.{HasMore}
use Rattle.cap_shared.specs.Journal.{Replays}

-- what an event made of the cluster, as far as another cluster can make it again
abbrev pub deed_of : Event resources → Deed
deed_of (event.Call by request reply) = if is_no_memory reply then deed.Nothing else (deed.Call request)
deed_of (event.Grant container) = deed.Propose (grant_proposal container)
deed_of (event.Reserve reservation) = deed.Propose (reserve_proposal reservation)

abbrev pub deeds_of : List Entry → List Deed
deeds_of entries = map (λ e. deed_of e.event) entries

-- wherever an event of this deed leads from the old cluster, that is the new one
abbrev pub IsMadeAgain : Flat resources → Deed → Flat resources → Type 0
IsMadeAgain old deed new = (e : Event resources) (next : Flat resources) → deed_of e ≡ deed → Step old e next → new ≡ next

-- the entries of a history
abbrev pub entries_in : List (Entry × Unit {0}) → List Entry
entries_in items = map (λ x. x.0) items

-- of each piece of news in a history the first so many
abbrev pub followed_in : List (List Entry × ℕ) → List Entry
followed_in items = flat_map (λ x. take x.1 x.0) items

-- the entries lead on from this cluster
abbrev pub Leads : Flat resources → List Entry → Type 0
Leads cluster entries = (next : Flat resources) × Replays cluster entries next

-- a replica: its cluster is the one that the entries lead to which it has followed
pub record IsReplica (opening cluster : Flat resources) (log : List Entry) (followed : ℕ) : Type 0 where
  pub run : Replays opening log cluster
  pub count : followed ≡ length log

-- the entries that were followed and those that are new are a journal from the opening on
pub record LeadsOn (opening : Flat resources) (log news : List Entry) : Type 0 where
  pub cluster : Flat resources
  pub replays : Replays opening (log ++ news) cluster
  pub fits : length log + length news < 2 ^ 64

-- these entries are a beginning of what one of the notes of a seat had, so of each later journal; or there are none
abbrev pub Follows : List Entry → List Moment → Type 0
Follows log [] = log ≡ []
Follows log (Entered receipt ∷ ms) = Follows log ms
Follows log (Noted entries a ∷ ms) = IsPrefix log entries ⊎ Follows log ms

-- how many entries a piece of news has at most
abbrev pub piece_max : ℕ
piece_max = 256

-- One copy of the cluster is noted, whose entries are those that were followed, the news and the rest, and lead to a cluster. Where these are
-- all news there is no rest, and else they are as many as a piece has at most.
pub record IsNews (opening : Flat resources) (log : List Entry) (old new : Sitting) (news : List Entry) (are_all : Bool) : Type 0 where
  pub rest : List Entry
  pub leads : LeadsOn opening log news
  pub noted : HasMore old new (Noted (log ++ news ++ rest) answer.Copied ∷ [])
  pub copied : Leads opening (log ++ news ++ rest)
  pub all : IsTrue are_all → rest ≡ []
  pub many : IsFalse are_all → length news ≡ piece_max
