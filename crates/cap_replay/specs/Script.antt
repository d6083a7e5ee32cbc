-- The lines of a script.
use Rattle.std.specs.Prelude.{◌≡◌, ◌<◌, ◌⊎◌, ℕ, List, [], ◌∷◌, ◌++◌, codes, Some, ◌^◌, length, IsOk}
use Rattle.std.specs.List.{All}
use Rattle.std.specs.Str.Lines.{lines}
use Rattle.hex.specs.Hex.{decode_of}
use Rattle.cap_replay.specs.declared.command.Command.{Command}
use Rattle.cap_replay.specs.declared.command.Command.TheVariants.{Nothing, Conf, Open, Bytes, End, Copy, Propose, Commit}
use Rattle.cap_text.specs.Numbers.{number_of}

-- 1 to 10 decimal digits spell the number, and it fits a u32
pub record IsNumber (digits : List ℕ) (n : ℕ) : Type 0 where
  pub spelled : number_of 10 digits ≡ Some n
  pub fits : n < 2 ^ 32

-- the line is a word, a blank and a number
abbrev pub IsNumbered : List ℕ → List ℕ → ℕ → Type 0
IsNumbered line word n = (digits : List ℕ) × (line ≡ word ++ 32 ∷ digits) × IsNumber digits n

-- the line asks for the command
abbrev pub IsCommand : List ℕ → Command → Type 0
IsCommand line Nothing = (line ≡ []) ⊎ ((comment : List ℕ) × (line ≡ 35 ∷ comment))
IsCommand line (Conf property) = line ≡ codes "conf" ++ 32 ∷ property.now
IsCommand line (Open n) = IsNumbered line (codes "open") n
IsCommand line (End n) = IsNumbered line (codes "end") n
IsCommand line (Bytes n piece) = (digits : List ℕ) × (line ≡ codes "bytes" ++ 32 ∷ digits ++ 32 ∷ piece.now) × IsNumber digits n
IsCommand line (Copy w) = IsNumbered line (codes "copy") w
IsCommand line (Propose w start) = (digits others : List ℕ) × (line ≡ codes "propose" ++ 32 ∷ digits ++ 32 ∷ others) × IsNumber digits w × IsNumber others start
IsCommand line (Commit w) = IsNumbered line (codes "commit") w

-- a command that is no word with a number alone
abbrev pub HasNoNumberAlone : Command → Type 0
HasNoNumberAlone (Open n) = ⊥
HasNoNumberAlone (End n) = ⊥
HasNoNumberAlone (Copy w) = ⊥
HasNoNumberAlone (Commit w) = ⊥
HasNoNumberAlone _ = Unit {0}

-- hexadecimal digits of at least one byte
abbrev pub IsPiece : List ℕ → Type 0
IsPiece digits = (0 < length digits) × IsOk (decode_of digits)

-- before the first step stand property lines, comments and empty lines
abbrev pub MayOpen : Command → Type 0
MayOpen Nothing = Unit {0}
MayOpen (Conf property) = Unit {0}
MayOpen _ = ⊥

-- the steps of connections and workers
abbrev pub MayStep : Command → Type 0
MayStep Nothing = ⊥
MayStep (Conf property) = ⊥
MayStep (Open n) = Unit {0}
MayStep (End n) = Unit {0}
MayStep (Bytes n piece) = IsPiece piece.now
MayStep (Copy w) = Unit {0}
MayStep (Propose w start) = Unit {0}
MayStep (Commit w) = Unit {0}

-- from the first step on stand steps, comments and empty lines
abbrev pub IsStepOrComment : Command → Type 0
IsStepOrComment Nothing = Unit {0}
IsStepOrComment command = MayStep command

abbrev pub IsOpeningLine : List ℕ → Type 0
IsOpeningLine line = (command : Command) × IsCommand line command × MayOpen command

abbrev pub IsStep : List ℕ → Type 0
IsStep line = (command : Command) × IsCommand line command × MayStep command

abbrev pub IsLaterLine : List ℕ → Type 0
IsLaterLine line = (command : Command) × IsCommand line command × IsStepOrComment command

-- a script: its property lines, and then its steps
pub record IsScript (script : List (List ℕ)) : Type 0 where
  pub front : List (List ℕ)
  pub back : List (List ℕ)
  pub cut : script ≡ front ++ back
  pub opens : All IsOpeningLine front
  pub steps : All IsLaterLine back

-- the first line that may not stand there, after good ones
pub record HasBadLine (text : List ℕ) : Type 0 where
  pub front : List (List ℕ)
  pub line : List ℕ
  pub back : List (List ℕ)
  pub lines : lines text ≡ front ++ line ∷ back
  pub good : IsScript front
  pub bad : IsScript (front ++ line ∷ []) → ⊥
