-- What the exit status of a replay says of its script and of its streams.
use Rattle.std.specs.Prelude.{◌≡◌, ◌<◌, ◌⊎◌, ℕ, List, Option}
use Rattle.cap_base.specs.declared.properties.fault.ConfigFault.{ConfigFault}
use Rattle.cap_session.specs.declared.counted.Counted.{Counted}
use Rattle.cap_session.specs.Counted.{state_of}
use Rattle.cap_replay.specs.Script.{HasBadLine}
use Rattle.cap_replay.specs.Settings.{HasSettingsFault, IsDone}
use Rattle.cap_replay.specs.Streams.{misses, HasEnded, GaveText, GaveWholeText, GivesNoEnd}

-- a read has failed or was quiet since, and a write has failed
abbrev pub HasMissed : {T : Type 0} → Counted T → Counted T → Type 0
HasMissed old new = misses (state_of old) < misses (state_of new)

abbrev pub HasFailed : {T : Type 0} → Counted T → Counted T → Type 0
HasFailed old new = (state_of old).failures < (state_of new).failures

-- the script has a line that may not stand where it does, or settings with a fault
abbrev pub IsAtFault : List ℕ → Type 0 → Type 0
IsAtFault text ended = HasBadLine text ⊎ ((fault : ConfigFault) × HasSettingsFault text ended fault)

-- the exit status of a replay over this reader and this writer
pub record IsReplayed {R W : Type 0} (remaining : R → Option (List ℕ)) (reader reader' : Counted R) (writer writer' : Counted W) (status : ℕ) : Type 0 where
  pub range : status < 4
  -- it is 0 only where the input has ended, each of its lines stands where it may, and the settings have no fault
  pub done : status ≡ 0 → GaveWholeText remaining reader reader' IsDone
  -- it is 2 only where what was read has a line that may not stand there, or settings with a fault
  pub refused : status ≡ 2 → GaveText remaining reader reader' (λ text. IsAtFault text (HasEnded remaining reader reader'))
  -- it is 1 wherever a read or a write has failed, or a read was quiet,
  pub failed : HasMissed reader reader' ⊎ HasFailed writer writer' → status ≡ 1
  -- and else only where 2^32 reads were made, and each gave at least one byte
  pub only : status ≡ 1 → HasMissed reader reader' ⊎ (HasFailed writer writer' ⊎ GivesNoEnd (state_of reader) (state_of reader'))
