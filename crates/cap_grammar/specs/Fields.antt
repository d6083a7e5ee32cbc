-- Reading fields from left to right. A field is a value and the bytes after it.
use Rattle.std.specs.Prelude.{◌≡◌, ℕ, zero, suc, ◌-◌, List, [], ◌∷◌, ◌++◌, length, take, drop, Option, Some, None, Result, Ok, Err, Bool, true, false, nat_lt, nat_le, ◌==◌, if◌then◌else◌}
use Rattle.std.specs.Int.{Width, w64, byte_len, from_be_bytes}
use Rattle.cap_vector.specs.Vector.{zeros}
use Rattle.cap_grammar.specs.declared.fault.MessageFault.{MessageFault}
use Rattle.cap_grammar.specs.declared.fault.MessageFault.TheVariants.{Bad}

infixl 10 ◌>>=◌
abbrev pub ◌>>=◌ : {A B : Type 0} → Option A → (A → Option B) → Option B
(Some x) >>= f = f x
None >>= f = None

-- what a function returned, seen by view, is what reading gives
abbrev pub Gives : {X Y : Type 0} → (X → Y) → Result X MessageFault → Option Y → Type 0
Gives view (Ok x) read = read ≡ Some (view x)
Gives view (Err e) read = (e ≡ Bad) × (read ≡ None)

-- ---- putting readers together

-- one field after the other
abbrev pub pair_at : {A B : Type 0} → (List ℕ → Option (A × List ℕ)) → (List ℕ → Option (B × List ℕ)) → List ℕ → Option ((A × B) × List ℕ)
pair_at first second bytes = do
  x ← first bytes
  y ← second x.1
  Some ((x.0, y.0), y.1)

-- what passes a test
abbrev pub what_passes : {A : Type 0} → (A → Bool) → A → Option A
what_passes test x = if test x then Some x else None

-- a field that passes a test
abbrev pub passing_at : {A : Type 0} → (A → Bool) → (List ℕ → Option (A × List ℕ)) → List ℕ → Option (A × List ℕ)
passing_at test field bytes = do
  x ← field bytes
  if test x.0 then Some x else None

-- n fields
abbrev pub times_at : {A : Type 0} → ℕ → (List ℕ → Option (A × List ℕ)) → List ℕ → Option (List A × List ℕ)
times_at zero field bytes = Some ([], bytes)
times_at (suc n) field bytes = do
  x ← field bytes
  xs ← times_at n field x.1
  Some (x.0 ∷ xs.0, xs.1)

-- what is made of a field
abbrev pub made_at : {A B : Type 0} → (A → B) → (List ℕ → Option (A × List ℕ)) → List ℕ → Option (B × List ℕ)
made_at make field bytes = do
  x ← field bytes
  Some (make x.0, x.1)

-- a field that is all of the bytes
abbrev pub all_at : {A : Type 0} → (List ℕ → Option (A × List ℕ)) → List ℕ → Option A
all_at field bytes = do
  x ← field bytes
  if length x.1 == 0 then Some x.0 else None

-- ---- fields

abbrev pub byte_at : List ℕ → Option (ℕ × List ℕ)
byte_at [] = None
byte_at (b ∷ rest) = Some (b, rest)

-- a byte that is 1 or 0
abbrev pub flag_of_byte : ℕ → Option Bool
flag_of_byte byte = if byte == 0 then Some false else if byte == 1 then Some true else None

abbrev pub flag_at : List ℕ → Option (Bool × List ℕ)
flag_at bytes = do
  byte ← byte_at bytes
  holds ← flag_of_byte byte.0
  Some (holds, byte.1)

abbrev pub number_at : Width → List ℕ → Option (ℕ × List ℕ)
number_at w bytes = if nat_lt (length bytes) (byte_len w) then None else Some (from_be_bytes w (take (byte_len w) bytes), drop (byte_len w) bytes)

-- a text's bytes, whichever they are
abbrev pub text_at : List ℕ → Option (List ℕ × List ℕ)
text_at bytes = do
  n ← byte_at bytes
  if nat_lt (length n.1) n.0 then None else Some (take n.0 n.1, drop n.0 n.1)

-- an amount up to the bound
unfoldable pub amount_at : ℕ → List ℕ → Option (ℕ × List ℕ)
amount_at bound bytes = passing_at (λ n. nat_le n bound) (number_at w64) bytes

-- a vector of k amounts up to the bound: the first n, and 0 in place of the others
unfoldable pub amounts_at : ℕ → ℕ → ℕ → List ℕ → Option (List ℕ × List ℕ)
amounts_at k n bound bytes = made_at (λ v. v ++ zeros (k - n)) (times_at n (amount_at bound)) bytes

-- at most so many fields, with their number before them
unfoldable pub counted_at : {A : Type 0} → (List ℕ → Option (ℕ × List ℕ)) → ℕ → (List ℕ → Option (A × List ℕ)) → List ℕ → Option (List A × List ℕ)
counted_at number most field bytes = do
  n ← passing_at (λ n. nat_le n most) number bytes
  times_at n.0 field n.1
