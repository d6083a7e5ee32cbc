-- What the lines of an audit file spell, and when they are true.
use Rattle.std.specs.Prelude.{◌≡◌, ◌⊎◌, ℕ, ◌<◌, ◌^◌, suc, List, [], ◌∷◌, ◌++◌, map, Option, None, Some, true, false}
use Rattle.std.specs.List.{flat_map}
use Rattle.cap_vector.specs.Vector.{IsResource}
use Rattle.cap_base.specs.Limits.{resources}
use Rattle.cap_base.specs.Settings.{Settings}
use Rattle.cap_base.specs.properties.First.{settings_in}
use Rattle.cap_model.specs.Flat.{Flat, opened_cluster}
use Rattle.cap_model.specs.Admission.{NodeProposal}
use Rattle.cap_model.specs.News.{Reply}
use Rattle.cap_model.specs.Events.{Run, Step, grant_proposal, is_no_memory, reserve_proposal}
use Rattle.cap_model.specs.declared.request.Request.{Request}
use Rattle.cap_model.specs.declared.event.Event.{Event}
use Rattle.cap_model.specs.declared.event.Event.TheVariants as event
use Rattle.cap_grammar.specs.Spelling.{FitsRequest}
use Rattle.cap_commit.specs.ClusterState.{ClusterState}
use Rattle.cap_journal.specs.Lines.{closed_words, ended, epoch_words, event_words, property_words}
use Rattle.cap_audit.specs.declared.auditor.Auditor.{Auditor}
use Rattle.cap_audit.specs.declared.place.Place.{Place}

-- the text of the settings: each property line with its end
abbrev pub settings_text : List (List ℕ) → List ℕ
settings_text properties = flat_map ended properties

-- the cluster that the settings of a text open
pub record IsOpenedBy (text : List ℕ) (opening : Flat resources) : Type 0 where
  pub settings : Settings
  pub read : settings_in text ≡ Some settings
  pub cluster : opening ≡ opened_cluster settings

-- ---- one line after the settings

-- before the first epoch
abbrev pub start : Place
start = record { epochs = 0; inside = false; entries = 0 }

-- the next epoch begins
pub record Opens (line : List ℕ) (old new : Place) : Type 0 where
  pub outside : old.inside ≡ false
  pub line_is : line ≡ epoch_words (suc old.epochs)
  pub now : new ≡ record { epochs = suc old.epochs; inside = true; entries = 0 }

-- an epoch ends that has as many entries
pub record Closes (line : List ℕ) (old new : Place) : Type 0 where
  pub inside : old.inside ≡ true
  pub line_is : line ≡ closed_words old.entries
  pub now : new ≡ record old { inside = false }

-- an epoch begins or ends
abbrev pub Passes : List ℕ → Place → Place → Type 0
Passes line old new = Opens line old new ⊎ Closes line old new

-- an epoch has one more entry
pub record Enters (old new : Place) : Type 0 where
  pub inside : old.inside ≡ true
  pub now : new ≡ record old { entries = suc old.entries }

-- ---- the line of an entry

-- the numbers of a proposal are within the bounds of their types
pub record FitsProposal (p : NodeProposal) : Type 0 where
  pub app_fits : p.app < 2 ^ 64
  pub priority_fits : p.key.priority < 2 ^ 32
  pub key_fits : p.key.request < 2 ^ 64
  pub node_fits : p.node < 2 ^ 64
  pub resource_fits : IsResource resources p.resource

-- the connection's number is within its bounds, a message of version 2 spells the request, and the reply is not want of memory
pub record FitsCall (by : ℕ) (request : Request resources) (reply : Reply resources) : Type 0 where
  pub by_fits : by < 2 ^ 32
  pub request_fits : FitsRequest 2 request
  pub answered : is_no_memory reply ≡ false

-- an event that a line can spell
abbrev pub FitsEvent : Event resources → Type 0
FitsEvent (event.Call by request reply) = FitsCall by request reply
FitsEvent (event.Grant container) = (container.number < 2 ^ 64) × FitsProposal (grant_proposal container)
FitsEvent (event.Reserve reservation) = FitsProposal (reserve_proposal reservation)

-- the line is the one spelling of the event
pub record IsLineOf (line : List ℕ) (event : Event resources) : Type 0 where
  pub line_is : line ≡ event_words event
  pub fits : FitsEvent event

-- ---- lines

-- the lines between two places spell these events
abbrev pub Spells : Place → List (List ℕ) → List (Event resources) → Place → Type 0
Spells old [] events new = (events ≡ []) × (new ≡ old)
Spells old (line ∷ lines) events new = (mid : Place) ×
    ((Passes line old mid × Spells mid lines events new)
    ⊎ ((event : Event resources) × (rest : List (Event resources)) × (events ≡ event ∷ rest) × Enters old mid × IsLineOf line event × Spells mid lines rest new))

-- lines that are true so far: property lines, and then the lines of epochs, whose events are one run from the opening of the settings
pub record AreTrue (lines : List (List ℕ)) (place : Place) (closing : Flat resources) : Type 0 where
  pub properties : List (List ℕ)
  pub entries : List (List ℕ)
  pub cut : lines ≡ map property_words properties ++ entries
  pub opening : Flat resources
  pub opened : IsOpenedBy (settings_text properties) opening
  pub events : List (Event resources)
  pub spelled : Spells start entries events place
  pub run : Run opening events closing

-- the lines of a whole file are true, and none of its epochs goes on
abbrev pub IsTrueFile : List (List ℕ) → Type 0
IsTrueFile lines = (place : Place) × (closing : Flat resources) × AreTrue lines place closing × (place.inside ≡ false)

-- ---- an audit under way

-- the line spells an event that is a step
abbrev pub Makes : List ℕ → Flat resources → Flat resources → Type 0
Makes line old new = (event : Event resources) × IsLineOf line event × Step old event new

-- one line was played on the cluster
abbrev pub PlaysOn : List ℕ → Place → Place → Flat resources → Flat resources → Type 0
PlaysOn line place place' old new = (Passes line place place' × (new ≡ old)) ⊎ (Enters place place' × Makes line old new)

-- where no cluster stands there were property lines alone
abbrev pub StandsAt : List (List ℕ) → Place → List ℕ → Option (ClusterState resources) → Type 0
StandsAt lines place text None = (place ≡ start) × ((properties : List (List ℕ)) × (lines ≡ map property_words properties) × (text ≡ settings_text properties))
StandsAt lines place text (Some cluster) = AreTrue lines place cluster.flat

-- an audit that has played nothing
pub record StartsAnew (a : Auditor) : Type 0 where
  pub place : a.place ≡ start
  pub none : a.cluster ≡ None
  pub text : a.settings.items ≡ []

-- an audit stands behind these lines
abbrev pub StandsOn : List (List ℕ) → Auditor → Type 0
StandsOn lines a = StandsAt lines a.place a.settings.items a.cluster

-- an audit that stands behind some lines stands behind one more then
abbrev pub PlaysLine : List ℕ → Auditor → Auditor → Type 0
PlaysLine line old new = (lines : List (List ℕ)) → StandsOn lines old → StandsOn (lines ++ line ∷ []) new

-- one more property line, where no cluster stands
pub record Adds (property : List ℕ) (old new : Auditor) : Type 0 where
  pub before : old.cluster ≡ None
  pub cluster : new.cluster ≡ old.cluster
  pub place : new.place ≡ old.place
  pub text : new.settings.items ≡ old.settings.items ++ ended property

-- the cluster that stood, or one that the settings opened now
abbrev pub IsOpened : List ℕ → Option (ClusterState resources) → Flat resources → Type 0
IsOpened text None now = IsOpenedBy text now
IsOpened text (Some cluster) now = now ≡ cluster.flat

-- a cluster stands now, at the same place
pub record Begins (old new : Auditor) : Type 0 where
  pub place : new.place ≡ old.place
  pub now : ClusterState resources
  pub stands : new.cluster ≡ Some now
  pub opened : IsOpened old.settings.items old.cluster now.flat

-- whatever the line leads to, it is this place and this cluster; and it leads nowhere
abbrev pub IsOnlyWay : List ℕ → Place → Place → Flat resources → Flat resources → Type 0
IsOnlyWay line place place' old new = (next : Place) (after : Flat resources) → PlaysOn line place next old after → (next ≡ place') × (after ≡ new)

abbrev pub IsNoWay : List ℕ → Place → Flat resources → Type 0
IsNoWay line place old = (next : Place) (after : Flat resources) → PlaysOn line place next old after → ⊥

-- one line was played on the cluster that stands, in the one way that it can be
pub record Goes (line : List ℕ) (old new : Auditor) : Type 0 where
  pub was : ClusterState resources
  pub now : ClusterState resources
  pub stood : old.cluster ≡ Some was
  pub stands : new.cluster ≡ Some now
  pub plays : PlaysOn line old.place new.place was.flat now.flat
  pub alone : IsOnlyWay line old.place new.place was.flat now.flat
