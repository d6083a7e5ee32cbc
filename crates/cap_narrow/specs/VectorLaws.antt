-- What a vector's first amounts have to do with the whole of it, where the last is 0.
use Rattle.std.specs.Prelude.{◌≡◌, ℕ, suc, List, Option, option_map, take, length, bytes_eq}
use Rattle.cap_vector.specs.Vector.{amounts_exchanged}
use Rattle.cap_vector.specs.Rounding.{round_up}
use Rattle.cap_vector.specs.Fullness.{shares, shares_cmp}
use Rattle.cap_base.specs.Amounts.{fits, times}
use Rattle.cap_base.specs.LimitTests.{fits_maximum, fits_user_limit}
use Rattle.cap_narrow.specs.Narrowing.{EndsInNone}

-- what fits
abbrev pub FitsNarrow : Type 0
FitsNarrow = (K : ℕ) (a b : List ℕ) → EndsInNone K a → fits (take K a) (take K b) ≡ fits a b

-- a queue's maximum and a user's limit, of whatever amounts they are
abbrev pub MaximumNarrow : Type 0
MaximumNarrow = (K : ℕ) (maximum : Option (List ℕ)) (used : List ℕ) → EndsInNone K used → fits_maximum (option_map (take K) maximum) (take K used) ≡ fits_maximum maximum used

abbrev pub UserLimitNarrow : Type 0
UserLimitNarrow =
    (K factor : ℕ) (guaranteed used : List ℕ) → EndsInNone K used → fits_user_limit factor (take K guaranteed) (take K used) ≡ fits_user_limit factor guaranteed used

-- sums, differences and multiples
abbrev pub ExchangedNarrow : Type 0
ExchangedNarrow = (K : ℕ) (old new v : List ℕ) → amounts_exchanged (take K old) (take K new) (take K v) ≡ take K (amounts_exchanged old new v)

abbrev pub TimesNarrow : Type 0
TimesNarrow = (K factor : ℕ) (v : List ℕ) → times factor (take K v) ≡ take K (times factor v)

-- rounding up, which raises nothing of the last resource where its step is 0
abbrev pub RoundingNarrow : Type 0
RoundingNarrow = (K : ℕ) (v step most : List ℕ) → round_up K (take K v) (take K step) (take K most) ≡ take K (round_up (suc K) v step most)

abbrev pub RoundingEndsInNone : Type 0
RoundingEndsInNone = (K : ℕ) (v step most : List ℕ) → EndsInNone K v → EndsInNone K step → EndsInNone K (round_up (suc K) v step most)

-- the order of fullness, whatever is guaranteed of the last resource
abbrev pub FullnessNarrow : Type 0
FullnessNarrow =
    (K : ℕ) (u g v h : List ℕ) → EndsInNone K u → EndsInNone K v → length g ≡ suc K → length h ≡ suc K →
    shares_cmp (shares (take K u) (take K g)) (shares (take K v) (take K h)) ≡ shares_cmp (shares u g) (shares v h)

-- whether two vectors are the same
abbrev pub SameNarrow : Type 0
SameNarrow = (K : ℕ) (a b : List ℕ) → EndsInNone K a → EndsInNone K b → bytes_eq (take K a) (take K b) ≡ bytes_eq a b
