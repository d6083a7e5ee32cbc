-- A text of settings that was refused has none.
use Rattle.cap_base.specs.properties.First.{AnswersFault, fault_after, first_fault, settings_after, settings_in, unless_fault}
use Rattle.cap_base.specs.properties.Entries.{read_lines}
use Rattle.cap_base.specs.properties.Fault.{FailsBy}
use Rattle.cap_base.specs.properties.Tests.{whole_fault}
use Rattle.cap_base.specs.properties.Rows.{settings_of}
use Rattle.cap_base.specs.declared.properties.entry.Entry.{Entry}
use Rattle.cap_base.specs.declared.properties.fault.ConfigFault.{ConfigFault}
use Rattle.cap_base.specs.declared.properties.fault.ConfigFaultKind.{ConfigFaultKind}
use Rattle.cap_base.specs.declared.properties.fault.ConfigFaultKind.TheVariants as kind
use Rattle.cap_base.specs.Settings.{Settings}
use Rattle.cap_audit.proofs.Prelude.{◌≡◌, ℕ, List, Option, None, Some, Result, Ok, Err, refl, lines}

-- a fault that is no want of memory
fault_is : {Y : Type 0} (k : ConfigFaultKind) (given : ConfigFault) (answer : Result Y ConfigFault) → (k ≡ kind.NoMemory → ⊥) → FailsBy k given answer → answer ≡ Err given
fault_is kind.BadLine given answer other fails = fails
fault_is kind.UnknownKey given answer other fails = fails
fault_is kind.Repeated given answer other fails = fails
fault_is kind.BadValue given answer other fails = fails
fault_is kind.NoSuchQueue given answer other fails = fails
fault_is kind.OverParent given answer other fails = fails
fault_is kind.GuaranteeOverMaximum given answer other fails = fails
fault_is kind.TooManyQueues given answer other fails = fails
fault_is kind.TooDeep given answer other fails = fails
fault_is kind.NoChild given answer other fails = fails
fault_is kind.NoMemory given answer other fails = absurd (other refl)

has_fault : (X : Type 0) (o : Option ConfigFault) (given : ConfigFault) → (given.kind ≡ kind.NoMemory → ⊥) → AnswersFault {X = X} o (Err given) → o ≡ None → ⊥
has_fault X None given other answers none =
    let is : Ok tt ≡ Err given = fault_is {Y = Unit {0}} given.kind given (Ok tt) other answers in
    cc is
has_fault X (Some fault) given other answers none = cc none

none_after : (fault : Option ConfigFault) (settings : Settings) → (fault ≡ None → ⊥) → unless_fault fault settings ≡ None
none_after None settings some = absurd (some refl)
none_after (Some fault) settings some = refl

no_settings : (r : Result (List Entry) ConfigFault) → (fault_after r ≡ None → ⊥) → settings_after r ≡ None
no_settings (Ok entries) some = none_after (whole_fault entries) (settings_of entries) some
no_settings (Err fault) some = refl

pub faulty : (X : Type 0) (text : List ℕ) (given : ConfigFault) → (given.kind ≡ kind.NoMemory → ⊥) → AnswersFault {X = X} (first_fault text) (Err given) → settings_in text ≡ None
unfolding first_fault settings_in
faulty X text given other answers = no_settings (read_lines (lines text)) (has_fault X (first_fault text) given other answers)
