-- How far a text was played, whatever follows it.
use Rattle.std.specs.Prelude.{◌≡◌, ℕ, List, [], ◌∷◌, ◌++◌, Some}
use Rattle.std.specs.List.{All}
use Rattle.std.specs.Str.Lines.{lines, strip_carriage_return}
use Rattle.cap_base.specs.declared.properties.fault.ConfigFault.{ConfigFault}
use Rattle.cap_base.specs.declared.properties.fault.ConfigFaultKind.TheVariants.{NoMemory as no_room}
use Rattle.cap_replay.specs.declared.simulation.Simulation.{Simulation}
use Rattle.cap_replay.specs.declared.stop.Stop.{Stop}
use Rattle.cap_replay.specs.declared.stop.Stop.TheVariants.{Config, NoMemory}
use Rattle.cap_replay.specs.Script.{IsOpeningLine, IsStep, IsScript}
use Rattle.cap_replay.specs.Settings.{properties, settings_fault, IsDone}
use Rattle.cap_replay.specs.World.{IsWorldOf, HasPlayedAll}

-- the text has these whole lines, and then what is begun
abbrev pub Reads : List ℕ → List (List ℕ) → List ℕ → Type 0
Reads text done begun = (more : List ℕ) → lines (text ++ more) ≡ done ++ lines (begun ++ more)

-- where a simulation stands after these lines: its properties so far, and the world of its steps
pub record Stands (done : List (List ℕ)) (s : Simulation) : Type 0 where
  pub good : IsScript done
  pub gathered : s.settings ≡ properties done
  pub world : IsWorldOf done s.world

-- a simulation that stands after some lines stands after one more then
abbrev pub PlaysLine : List ℕ → Simulation → Simulation → Type 0
PlaysLine line old new = (done : List (List ℕ)) → Stands done old → Stands (done ++ line ∷ []) new

-- the line may not stand after those that were played
abbrev pub MayNotFollow : List ℕ → Simulation → Type 0
MayNotFollow line old = (done : List (List ℕ)) → Stands done old → IsScript (done ++ line ∷ []) → ⊥

-- the line is the first step, and the settings before it have this fault
pub record StopsAtStep (done : List (List ℕ)) (line : List ℕ) (fault : ConfigFault) : Type 0 where
  pub opens : All IsOpeningLine done
  pub step : IsStep line
  pub found : settings_fault done ≡ Some fault

-- the line is the first step of those that were played, and the settings before it have this fault
abbrev pub FailsAtStep : List ℕ → Simulation → ConfigFault → Type 0
FailsAtStep line old fault = (done : List (List ℕ)) → Stands done old → StopsAtStep done line fault

-- all whole lines were played
pub record IsPlayed (text begun : List ℕ) (s : Simulation) : Type 0 where
  pub done : List (List ℕ)
  pub reads : Reads text done begun
  pub stands : Stands done s

-- whatever was read and played up to these begun bytes, this holds of it
abbrev pub ForPlayed : List ℕ → Simulation → (List ℕ → Type 0) → Type 0
ForPlayed begun s P = (text : List ℕ) → IsPlayed text begun s → P text

-- a line that was begun and then ended by a line feed
abbrev pub whole_line : List ℕ → List ℕ → List ℕ
whole_line begun last = strip_carriage_return (begun ++ last)

-- the whole text was played: it is a script, and the world has made the steps of all its lines
pub record IsPlayedOut (text : List ℕ) (s : Simulation) : Type 0 where
  pub done : IsDone text
  pub world : HasPlayedAll (lines text) s.world

-- what a fault of settings stops a script with: want of memory is none of the script's
abbrev pub IsStopOf : ConfigFault → Stop → Type 0
IsStopOf fault (Config given) = (given ≡ fault) × (fault.kind ≡ no_room → ⊥)
IsStopOf fault stop = stop ≡ NoMemory
