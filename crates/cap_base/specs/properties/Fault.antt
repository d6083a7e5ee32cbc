-- The answers that a text of settings may get in place of settings.
use Rattle.std.specs.Prelude.{◌≡◌, ℕ, Result, Ok, Err}
use Rattle.cap_base.specs.declared.properties.fault.ConfigFault.{ConfigFault}
use Rattle.cap_base.specs.declared.properties.fault.ConfigFaultKind.{ConfigFaultKind}
use Rattle.cap_base.specs.declared.properties.fault.ConfigFaultKind.TheVariants.{BadLine, UnknownKey, Repeated, BadValue, NoSuchQueue, OverParent, GuaranteeOverMaximum, TooManyQueues, TooDeep, NoChild, NoMemory}

-- the number of what is wrong, as an operator is told it
abbrev pub fault_number : ConfigFaultKind → ℕ
fault_number BadLine = 1
fault_number UnknownKey = 2
fault_number Repeated = 3
fault_number BadValue = 4
fault_number NoSuchQueue = 5
fault_number OverParent = 6
fault_number GuaranteeOverMaximum = 7
fault_number TooManyQueues = 8
fault_number TooDeep = 9
fault_number NoChild = 10
fault_number NoMemory = 20

abbrev pub fault_at : ℕ → ConfigFaultKind → ConfigFault
fault_at line kind = record { line = line; kind = kind }

-- want of memory
abbrev pub no_memory : ConfigFault
no_memory = fault_at 0 NoMemory

-- a fault that came in place of an answer: want of memory, or the answer itself
abbrev pub FailsBy : ConfigFaultKind → ConfigFault → {Y : Type 0} → Result Y ConfigFault → Type 0
FailsBy NoMemory fault answer = fault.line ≡ 0
FailsBy _ fault answer = answer ≡ Err fault

-- what was answered, seen by view, is the answer, unless memory ran out
abbrev pub Gives : {X Y : Type 0} → (X → Y) → Result X ConfigFault → Result Y ConfigFault → Type 0
Gives view (Ok x) answer = answer ≡ Ok (view x)
Gives view (Err fault) answer = FailsBy fault.kind fault answer
