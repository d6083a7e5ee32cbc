-- The first fault of a text, and its settings.
use Rattle.std.specs.Prelude.{List, ℕ, Option, Some, None, Result, Ok, Err}
use Rattle.std.specs.Str.Lines.{lines}
use Rattle.cap_base.specs.Settings.{Settings}
use Rattle.cap_base.specs.declared.properties.entry.Entry.{Entry}
use Rattle.cap_base.specs.declared.properties.fault.ConfigFault.{ConfigFault}
use Rattle.cap_base.specs.properties.Fault.{FailsBy}
use Rattle.cap_base.specs.properties.Entries.{read_lines}
use Rattle.cap_base.specs.properties.Tests.{whole_fault}
use Rattle.cap_base.specs.properties.Rows.{settings_of}

abbrev pub fault_after : Result (List Entry) ConfigFault → Option ConfigFault
fault_after (Ok entries) = whole_fault entries
fault_after (Err fault) = Some fault

-- the first fault of a text: by the tests of each line in turn, and then by those over the whole text
unfoldable pub first_fault : List ℕ → Option ConfigFault
first_fault text = fault_after (read_lines (lines text))

-- a text with a fault is answered by it and one with none by no fault, unless memory ran out
abbrev pub AnswersFault : {X : Type 0} → Option ConfigFault → Result X ConfigFault → Type 0
AnswersFault None (Ok x) = Unit {0}
AnswersFault None (Err given) = FailsBy given.kind given {Y = Unit {0}} (Ok tt)
AnswersFault (Some fault) (Ok x) = ⊥
AnswersFault {X} (Some fault) (Err given) = FailsBy given.kind given {Y = X} (Err fault)

abbrev pub unless_fault : Option ConfigFault → Settings → Option Settings
unless_fault (Some fault) settings = None
unless_fault None settings = Some settings

abbrev pub settings_after : Result (List Entry) ConfigFault → Option Settings
settings_after (Ok entries) = unless_fault (whole_fault entries) (settings_of entries)
settings_after (Err fault) = None

-- the settings that the lines of a text make, where the text has no fault
unfoldable pub settings_in : List ℕ → Option Settings
settings_in text = settings_after (read_lines (lines text))
