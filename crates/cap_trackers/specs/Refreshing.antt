-- What property lines read as, and their refusal, by what was answered in place of settings.
use Rattle.std.specs.Prelude.{◌≡◌, ℕ, ◌<◌, List, Result, IfErr, IfOk, Some}
use Rattle.cap_base.specs.Settings.{Settings}
use Rattle.cap_base.specs.properties.First.{AnswersFault, first_fault, settings_in}
use Rattle.cap_base.specs.declared.properties.fault.ConfigFault.{ConfigFault}
use Rattle.cap_base.specs.declared.properties.fault.ConfigFaultKind.{ConfigFaultKind}
use Rattle.cap_base.specs.declared.properties.fault.ConfigFaultKind.TheVariants.{NoMemory}
use Rattle.cap_base.specs.properties.Fault.{fault_number}
use Rattle.cap_model.specs.declared.refusal.Refusal.{Refusal}

-- want of memory, or the fault itself
abbrev pub refusal_by : ConfigFaultKind → ConfigFault → Refusal
refusal_by NoMemory fault = Refusal.NoMemory
refusal_by _ fault = Refusal.BadSettings fault.line (fault_number fault.kind)

abbrev pub fault_refusal : ConfigFault → Refusal
fault_refusal fault = refusal_by fault.kind fault

-- the lines read as this: their settings, or their first fault, or that memory was wanting
pub record IsReadOf (text : List ℕ) (read : Result Settings ConfigFault) : Type 0 where
  pub fault : AnswersFault (first_fault text) read
  pub settings : IfOk read (λ settings. settings_in text ≡ Some settings)
  pub line : IfErr read (λ fault. fault.line < 4294967296)
