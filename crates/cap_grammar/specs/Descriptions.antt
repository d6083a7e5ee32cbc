-- Descriptions of fields: how each is read from the front of bytes, how it is spelled, and its bounds.
use Rattle.std.specs.Prelude.{◌≡◌, ℕ, ◌<◌, ◌^◌, List, [], ◌++◌, length, Option, Some, Bool, true}
use Rattle.std.specs.List.{flat_map}
use Rattle.std.specs.Int.{Width, w16, w32, w64, to_be_bytes}
use Rattle.cap_grammar.specs.Fields.{pair_at, passing_at, made_at, counted_at, byte_at, flag_at, number_at, text_at, amounts_at}
use Rattle.cap_grammar.specs.Shown.{IsShownVector}
use Rattle.cap_grammar.specs.Spelling.{text, resource, flag, byte, FitsByte, FitsListed}

pub record Field (A : Type 0) : Type 1 where
  pub read : List ℕ → Option (A × List ℕ)
  pub spell : A → List ℕ
  pub Fits : A → Type 0

-- ---- fields

abbrev pub u8 : Field ℕ
u8 = record { read = byte_at; spell = byte; Fits = FitsByte }

abbrev pub number : Width → ℕ → Field ℕ
number w limit = record { read = number_at w; spell = to_be_bytes w; Fits = λ n. n < limit }

abbrev pub u16 : Field ℕ
u16 = number w16 (2 ^ 16)

abbrev pub u32 : Field ℕ
u32 = number w32 (2 ^ 32)

abbrev pub u64 : Field ℕ
u64 = number w64 (2 ^ 64)

-- no bytes
abbrev pub nothing : Field (Unit {0})
nothing = record { read = λ bytes. Some (tt, bytes); spell = λ x. []; Fits = λ x. Unit {0} }

-- a byte that is 1 or 0
abbrev pub bool : Field Bool
bool = record { read = flag_at; spell = flag; Fits = λ holds. Unit {0} }

-- a text that passes a test
abbrev pub text_that : (List ℕ → Bool) → Field (List ℕ)
text_that test = record { read = passing_at test text_at; spell = text; Fits = λ t. test t ≡ true }

-- the first n amounts of a vector of K amounts up to a bound, of which the others are 0
abbrev pub vector : (K n bound : ℕ) → Field (List ℕ)
vector K n bound = record { read = amounts_at K n bound; spell = resource n; Fits = IsShownVector K n bound }

-- ---- fields put together

-- one after the other
abbrev pub pair : {A B : Type 0} → Field A → Field B → Field (A × B)
pair f g = record { read = pair_at f.read g.read; spell = λ x. f.spell x.0 ++ g.spell x.1; Fits = λ x. f.Fits x.0 × g.Fits x.1 }

-- at most so many, with their number before them
abbrev pub counted : {A : Type 0} → Field ℕ → ℕ → Field A → Field (List A)
counted number most f = record { read = counted_at number.read most f.read; spell = λ xs. number.spell (length xs) ++ flat_map f.spell xs; Fits = FitsListed most f.Fits }

-- what is made of a field's value, which is its parts
abbrev pub made : {A B : Type 0} → (A → B) → (B → A) → (B → Type 0) → Field A → Field B
made make parts Fits f = record { read = made_at make f.read; spell = λ y. f.spell (parts y); Fits = Fits }
