-- The world of a script: what opened it, and which steps it has made.
use Rattle.std.specs.Prelude.{◌≡◌, ◌<◌, ℕ, List, [], ◌∷◌, Option, None, Some, Ok, length}
use Rattle.std.specs.List.{All}
use denote.Ref.{Bor}
use Rattle.hex.specs.Hex.{decode_of}
use Rattle.cap_base.specs.Limits.{resources}
use Rattle.cap_base.specs.Settings.{Settings}
use Rattle.cap_model.specs.Flat.{Flat, opened_cluster}
use Rattle.cap_base.specs.declared.properties.fault.ConfigFault.{ConfigFault}
use Rattle.cap_base.specs.properties.First.{first_fault, settings_in}
use Rattle.cap_world.specs.declared.step.Step.{Step}
use Rattle.cap_world.specs.declared.step.Step.TheVariants as steps
use Rattle.cap_world.specs.declared.step.Did.{Did}
use Rattle.cap_world.specs.World.{Known, start}
use Rattle.cap_world.specs.Steps.{StepOutcome}
use Rattle.cap_world.specs.Hearing.{all_performed}
use Rattle.cap_world.specs.Making.{Makes}
use Rattle.cap_replay.specs.declared.command.Command.{Command}
use Rattle.cap_replay.specs.declared.simulation.Simulation.{Simulation}
use Rattle.cap_replay.specs.declared.command.Command.TheVariants.{Nothing, Conf, Open, Bytes, End, Copy, Propose, Commit}
use Rattle.cap_replay.specs.Script.{IsCommand, IsOpeningLine}
use Rattle.cap_replay.specs.Settings.{properties, settings_text}

-- the piece of this connection that these hexadecimal digits write
abbrev pub IsPieceStep : ℕ → List ℕ → Step → Type 0
IsPieceStep n digits (steps.Open m) = ⊥
IsPieceStep n digits (steps.End m) = ⊥
IsPieceStep n digits (steps.Copy w) = ⊥
IsPieceStep n digits (steps.Propose w start) = ⊥
IsPieceStep n digits (steps.Commit w) = ⊥
IsPieceStep n digits (steps.Bytes m piece) = (m ≡ n) × (0 < length digits) × (decode_of digits ≡ Ok piece.now)

-- the step that a command asks for
abbrev pub IsStepFor : Command → Step → Type 0
IsStepFor Nothing step = ⊥
IsStepFor (Conf property) step = ⊥
IsStepFor (Open n) step = step ≡ steps.Open n
IsStepFor (End n) step = step ≡ steps.End n
IsStepFor (Bytes n digits) step = IsPieceStep n digits.now step
IsStepFor (Copy w) step = step ≡ steps.Copy w
IsStepFor (Propose w start) step = step ≡ steps.Propose w start
IsStepFor (Commit w) step = step ≡ steps.Commit w

-- the step of a line
abbrev pub IsStepOf : List ℕ → Step → Type 0
IsStepOf line step = (command : Command) × IsCommand line command × IsStepFor command step

-- The steps of the lines, in order: a property line, a comment or an empty line brings none, and each other line one.
pub data BringSteps : List (List ℕ) → List Step → Type 0 where
  at_start : BringSteps [] []
  passed : {line : List ℕ} {lines : List (List ℕ)} {made : List Step} → IsOpeningLine line → BringSteps lines made → BringSteps (line ∷ lines) made
  brought : {line : List ℕ} {step : Step} {lines : List (List ℕ)} {made : List Step} → IsStepOf line step → BringSteps lines made → BringSteps (line ∷ lines) (step ∷ made)

-- the settings of the text have no fault, and this is the cluster that they open
pub record IsOpenedBy (text : List ℕ) (opening : Flat resources) : Type 0 where
  pub sound : first_fault text ≡ None
  pub settings : Settings
  pub read : settings_in text ≡ Some settings
  pub cluster : opening ≡ opened_cluster settings

-- The world was opened by the settings of the lines, and has made exactly their steps, one after the other.
pub record HasPlayed (done : List (List ℕ)) (world : Known) : Type 0 where
  pub opened : IsOpenedBy (settings_text (properties done)) world.opening
  pub steps : List Step
  pub brought : BringSteps done steps
  pub made : Makes (all_performed steps) (start world.opening).sight world.sight [] world.events

-- no step was made where no world stands, and else the world has made those of the lines, at least one
abbrev pub IsWorldOf : List (List ℕ) → Option Known → Type 0
IsWorldOf done None = All IsOpeningLine done
IsWorldOf done (Some world) = HasPlayed done world × (All IsOpeningLine done → ⊥)

-- a world that has made the steps of the lines, and stands also where these are none
abbrev pub HasPlayedAll : List (List ℕ) → Option Known → Type 0
HasPlayedAll done None = ⊥
HasPlayedAll done (Some world) = HasPlayed done world

-- a world that the settings of the text opened just now
abbrev pub IsNewWorld : List ℕ → Known → Type 0
IsNewWorld text world = IsOpenedBy text world.opening × (world ≡ start world.opening)

-- the world that stood, or one that the settings of the text opened now
abbrev pub IsOpened : List ℕ → Option Known → Known → Type 0
IsOpened text None now = IsNewWorld text now
IsOpened text (Some world) now = now ≡ world

-- a world stands now, by the same settings
pub record Begins (old new : Simulation) : Type 0 where
  pub same : new.settings ≡ old.settings
  pub now : Known
  pub stands : new.world ≡ Some now
  pub opened : IsOpened (settings_text old.settings) old.world now

-- no world stood, and the settings have this fault
abbrev pub FailsToBegin : Simulation → ConfigFault → Type 0
FailsToBegin old fault = (old.world ≡ None) × (first_fault (settings_text old.settings) ≡ Some fault)

-- the world that stood or was opened now made this step
pub record Advances (step : Step) (did : Did) (old new : Simulation) : Type 0 where
  pub same : new.settings ≡ old.settings
  pub mid : Known
  pub now : Known
  pub stands : new.world ≡ Some now
  pub opened : IsOpened (settings_text old.settings) old.world mid
  pub opening : now.opening ≡ mid.opening
  pub made : StepOutcome step (Ok did) mid.sight now.sight mid.events now.events

-- the world that stood or was opened now made this step, or it did not apply
abbrev pub MakesStep : Step → Simulation → Simulation → Type 0
MakesStep step old new = (did : Did) × Advances step did old new

-- the world made the step that a command asks for
pub record Performs (command : Command) (old new : Simulation) : Type 0 where
  pub step : Step
  pub did : Did
  pub asked : IsStepFor command step
  pub advances : Advances step did old new

-- the world made the step of this piece, which any digits that write it ask for
abbrev pub Brings : ℕ → List ℕ → Simulation → Simulation → Type 0
Brings n piece old new = (digits : Bor (List ℕ)) → 0 < length digits.now → decode_of digits.now ≡ Ok piece → Performs (Bytes n digits) old new
