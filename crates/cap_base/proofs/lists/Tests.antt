-- Boolean tests and options.
use Rattle.cap_base.proofs.Prelude.{◌≡◌, ℕ, List, sym, ap, arith, Bool, true, false, refl, inl, inr, ◌⊎◌, ◌&&◌, ◌==◌, bytes_eq, unwrap_or, ◌||◌, Option, Some, None, IsSome, is_some, is_none, option_map, cond, not, not-false, nat_tests, bytes_eq-Decides}

pub or_left : (a b : Bool) → a || b ≡ false → a ≡ false
or_left true b h = absurd (cc h)
or_left false b h = refl

pub or_right : (a b : Bool) → a || b ≡ false → b ≡ false
or_right true b h = absurd (cc h)
or_right false b h = h

pub true_of_none : {A : Type 0} (o : Option A) → is_none o ≡ false → is_some o ≡ true
true_of_none o h = not-false (is_some o) h

pub twice_not : (b : Bool) → not (not b) ≡ b
twice_not true = refl
twice_not false = refl

-- the value that is there
pub value_of : {A : Type 0} (o : Option A) → IsSome o → (x : A) × (o ≡ Some x)
value_of None h = absurd (cc h)
value_of (Some x) h = (x, refl)

pub there_or_not : {A : Type 0} (o : Option A) → IsSome o ⊎ (o ≡ None)
there_or_not None = inr refl
there_or_not (Some x) = inl refl

pub not_none : {A : Type 0} (o : Option A) → o ≡ None → IsSome o → ⊥
not_none None e h = cc h
not_none (Some x) e h = cc e

pub some_kept : {A B : Type 0} (f : A → B) (o p : Option A) → option_map f o ≡ option_map f p → IsSome p → IsSome o
some_kept f None None e h = h
some_kept f None (Some x) e h = absurd (cc e)
some_kept f (Some x) p e h = refl

pub kept_if : {A B : Type 0} (b : Bool) (g : B → A) (x y : B) → g x ≡ g y → g (cond b x y) ≡ g y
kept_if true g x y e = e
kept_if false g x y e = refl

-- two tests that hold of the same
pub same_test : (a b : Bool) → (a ≡ true → b ≡ true) → (b ≡ true → a ≡ true) → a ≡ b
same_test true b f g = sym (f refl)
same_test false true f g = g refl
same_test false false f g = refl

pub and_false : (b : Bool) → b && false ≡ false
and_false true = refl
and_false false = refl

pub and_true : (b : Bool) → b && true ≡ b
and_true true = refl
and_true false = refl

pub or_false : (b : Bool) → b || false ≡ b
or_false true = refl
or_false false = refl

-- the first of two tests, of which one holds and not the second
pub first_holds : (a b : Bool) → not (a || b) ≡ false → b ≡ false → a ≡ true
first_holds true b e f = refl
first_holds false true e f = absurd (cc f)
first_holds false false e f = absurd (cc e)

-- what a choice between two values comes to where its test holds
pub first_is : {A : Type 0} (b : Bool) (x y : A) (o : Option A) → b ≡ true → cond b (Some x) o ≡ Some y → x ≡ y
first_is true x y o e f = ap (λ p. unwrap_or p x) f
first_is false x y o e f = absurd (cc e)

-- bytes are those that they are, whichever stands first
pub bytes_itself : (a : List ℕ) → bytes_eq a a ≡ true
bytes_itself a = (bytes_eq-Decides a a).1 refl

pub bytes_turned : (a b : List ℕ) → bytes_eq a b ≡ bytes_eq b a
bytes_turned a b = same_test (bytes_eq a b) (bytes_eq b a) (λ h. (bytes_eq-Decides b a).1 (sym ((bytes_eq-Decides a b).0 h))) (λ h. (bytes_eq-Decides a b).1 (sym ((bytes_eq-Decides b a).0 h)))

pub numbers_turned : (a b : ℕ) → a == b ≡ b == a
numbers_turned a b = same_test (a == b) (b == a) (λ h. grind (arith, nat_tests, h)) (λ h. grind (arith, nat_tests, h))
