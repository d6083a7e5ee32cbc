-- What follows a line where a file is true, and what is known of a file that was found false.
use Rattle.std.specs.Prelude.{◌≡◌, ℕ, List, [], ◌∷◌, ◌++◌, map, Option, None, Some, Result, Ok, Err, false}
use Rattle.std.specs.Str.Lines.{lines}
use Rattle.cap_base.specs.Limits.{resources}
use Rattle.cap_base.specs.properties.First.{settings_in}
use Rattle.cap_model.specs.Flat.{Flat}
use Rattle.cap_commit.specs.ClusterState.{ClusterState}
use Rattle.cap_journal.specs.Lines.{property_words}
use Rattle.cap_audit.specs.declared.auditor.Auditor.{Auditor}
use Rattle.cap_audit.specs.declared.place.Place.{Place}
use Rattle.cap_audit.specs.declared.stop.Stop.{Stop}
use Rattle.cap_audit.specs.declared.stop.Stop.TheVariants as stop
use Rattle.cap_audit.specs.Audit.{IsNoWay, IsOpenedBy, IsTrueFile, Makes, PlaysOn, settings_text, start}

-- ---- what an audit that went no further says of a file

-- what is known where a line, or the settings, were found false
abbrev pub IfFalse : Stop → Type 0 → Type 0
IfFalse (stop.False why) P = P
IfFalse stop.Settings P = P
IfFalse _ P = Unit {0}

-- the first holds where all went well, the second where a line or the settings were found false
abbrev pub Tells : {X : Type 0} → Result X Stop → Type 0 → Type 0 → Type 0
Tells (Ok x) P Q = P
Tells (Err why) P Q = IfFalse why Q

-- what is to be found was found; nothing says that it is not there
abbrev pub Finds : {X : Type 0} → Result X Stop → (X → Type 0) → Type 0
Finds (Ok x) P = P x
Finds (Err why) P = IfFalse why ⊥

-- it was said that a line or the settings are false
abbrev pub IsFoundFalse : Result Unit Stop → Type 0
IsFoundFalse (Err (stop.False why)) = Unit {0}
IsFoundFalse (Err stop.Settings) = Unit {0}
IsFoundFalse _ = ⊥

-- ---- one line on a cluster

-- whatever comes of the line of an entry, it is this cluster; and nothing comes of it
abbrev pub MakesOnly : List ℕ → Flat resources → Flat resources → Type 0
MakesOnly line old new = (after : Flat resources) → Makes line old after → after ≡ new

abbrev pub MakesNone : List ℕ → Flat resources → Type 0
MakesNone line old = (after : Flat resources) → Makes line old after → ⊥

-- the line leads nowhere from where the audit stands
abbrev pub IsNoWayFrom : List ℕ → Auditor → Type 0
IsNoWayFrom line a = (was : ClusterState resources) → a.cluster ≡ Some was → IsNoWay line a.place was.flat

-- no cluster stands, and the settings open none
pub record OpensNone (a : Auditor) : Type 0 where
  pub none : a.cluster ≡ None
  pub fails : settings_in a.settings.items ≡ None

-- ---- the lines to come

-- from here on the lines are true, and no epoch goes on at their end
abbrev pub GoesOn : List (List ℕ) → Place → Flat resources → Type 0
GoesOn [] place cluster = place.inside ≡ false
GoesOn (line ∷ lines) place cluster = (next : Place) × (after : Flat resources) × PlaysOn line place next cluster after × GoesOn lines next after

-- behind this text of settings come more property lines, and then lines that are true from the opening of them all
pub record Starts (rest : List (List ℕ)) (text : List ℕ) : Type 0 where
  pub properties : List (List ℕ)
  pub entries : List (List ℕ)
  pub cut : rest ≡ map property_words properties ++ entries
  pub opening : Flat resources
  pub opened : IsOpenedBy (text ++ settings_text properties) opening
  pub goes : GoesOn entries start opening

abbrev pub GoesOnFrom : List (List ℕ) → Place → List ℕ → Option (ClusterState resources) → Type 0
GoesOnFrom rest place text None = (place ≡ start) × Starts rest text
GoesOnFrom rest place text (Some cluster) = GoesOn rest place cluster.flat

-- the lines to come are true behind what the audit has played
abbrev pub MayGoOn : List (List ℕ) → Auditor → Type 0
MayGoOn rest a = GoesOnFrom rest a.place a.settings.items a.cluster

-- lines to come that were true are so behind the line; and none are, so that the file is false
abbrev pub LeadsOn : List ℕ → Auditor → Auditor → Type 0
LeadsOn line old new = (rest : List (List ℕ)) → MayGoOn (line ∷ rest) old → MayGoOn rest new

abbrev pub LeadsNowhere : List ℕ → Auditor → Type 0
LeadsNowhere line old = (rest : List (List ℕ)) → MayGoOn (line ∷ rest) old → ⊥

-- ---- a whole input

-- the text is that of no true file, and no true file begins with it
abbrev pub IsFalseText : List ℕ → Type 0
IsFalseText text = IsTrueFile (lines text) → ⊥

abbrev pub IsFalseBeginning : List ℕ → Type 0
IsFalseBeginning text = (more : List ℕ) → IsFalseText (text ++ more)
