-- The settings of a script, and where a fault in them ends it.
use Rattle.std.specs.Prelude.{◌≡◌, ℕ, List, [], ◌∷◌, ◌++◌, codes, eqb, drop, Option, None, Some, if◌then◌else◌}
use Rattle.std.specs.List.{All, fold, filter_map, starts_with}
use Rattle.std.specs.Str.Lines.{lines}
use Rattle.cap_base.specs.declared.properties.fault.ConfigFault.{ConfigFault}
use Rattle.cap_base.specs.properties.First.{first_fault}
use Rattle.cap_replay.specs.Script.{IsOpeningLine, IsStep, IsScript}

-- the property that a line brings, where it is a property line
abbrev pub property_of : List ℕ → Option (List ℕ)
property_of line = if starts_with eqb line (codes "conf ") then Some (drop 5 line) else None

-- a text with one more line
abbrev pub with_line : Option (List ℕ) → List ℕ → Option (List ℕ)
with_line None property = Some property
with_line (Some text) property = Some (text ++ 10 ∷ property)

-- the properties of all lines, joined by line feeds; none where no line brings one
abbrev pub properties : List (List ℕ) → Option (List ℕ)
properties script = fold with_line None (filter_map property_of script)

-- the text of the settings: without any property line there is one queue below root
abbrev pub settings_text : Option (List ℕ) → List ℕ
settings_text None = codes "yarn.scheduler.capacity.root.queues=default"
settings_text (Some text) = text

-- the first fault of the settings that these lines bring
abbrev pub settings_fault : List (List ℕ) → Option ConfigFault
settings_fault script = first_fault (settings_text (properties script))

-- the settings are read at the first step, or where the input has ended
abbrev pub AreReadBefore : List (List ℕ) → Type 0 → Type 0
AreReadBefore [] ended = ended
AreReadBefore (line ∷ back) ended = IsStep line

-- the settings have a fault where they are read
pub record HasSettingsFault (text : List ℕ) (ended : Type 0) (fault : ConfigFault) : Type 0 where
  pub front : List (List ℕ)
  pub back : List (List ℕ)
  pub lines : lines text ≡ front ++ back
  pub opens : All IsOpeningLine front
  pub read : AreReadBefore back ended
  pub found : settings_fault front ≡ Some fault

-- a whole text that was played to its end
pub record IsDone (text : List ℕ) : Type 0 where
  pub good : IsScript (lines text)
  pub sound : settings_fault (lines text) ≡ None
