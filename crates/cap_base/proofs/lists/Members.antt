-- Members of a list.
use Rattle.cap_base.proofs.Prelude.{◌≡◌, Bool, true, false, List, [], ◌∷◌, ◌++◌, refl, sym, ◌∙◌, ap, subst, inl, inr, ◌⊎◌, Option, Some, cond, filter, find, flat_map, map, unwrap_or, All, AllByRecursion, list_all, list_any, and_parts, All-from_recursion, recursion_from_All}
use Rattle.cap_base.proofs.lists.Tests.{or_left, or_right}
pub use Rattle.cap_base.specs.Members.{IsIn}

pub in_left : {A : Type 0} (x : A) (xs ys : List A) → IsIn x xs → IsIn x (xs ++ ys)
in_left x [] ys m = absurd m
in_left x (z ∷ xs) ys (inl e) = inl e
in_left x (z ∷ xs) ys (inr m) = inr (in_left x xs ys m)

pub in_right : {A : Type 0} (x : A) (xs ys : List A) → IsIn x ys → IsIn x (xs ++ ys)
in_right x [] ys m = m
in_right x (z ∷ xs) ys m = inr (in_right x xs ys m)

pub in_either : {A : Type 0} (x : A) (xs ys : List A) → IsIn x (xs ++ ys) → IsIn x xs ⊎ IsIn x ys
in_either x [] ys m = inr m
in_either x (z ∷ xs) ys (inl e) = inl (inl e)
in_either x (z ∷ xs) ys (inr m) = elim (in_either x xs ys m) [ inl a ↦ inl (inr a) | inr b ↦ inr b ]

pub in_flat_map : {X A : Type 0} (f : X → List A) (xs : List X) (x : X) (a : A) → IsIn x xs → IsIn a (f x) → IsIn a (flat_map f xs)
in_flat_map f [] x a m n = absurd m
in_flat_map f (y ∷ xs) x a (inl e) n = in_left a (f y) (flat_map f xs) (subst (λ z. IsIn a (f z)) (sym e) n)
in_flat_map f (y ∷ xs) x a (inr m) n = in_right a (f y) (flat_map f xs) (in_flat_map f xs x a m n)

pub of_flat_map : {X A : Type 0} (f : X → List A) (xs : List X) (a : A) → IsIn a (flat_map f xs) → (x : X) × IsIn a (f x)
of_flat_map f [] a m = absurd m
of_flat_map f (y ∷ xs) a m = elim (in_either a (f y) (flat_map f xs) m) [ inl h ↦ (y, h) | inr h ↦ of_flat_map f xs a h ]

in_kept : {A : Type 0} (b : Bool) (x y : A) (rest : List A) → (y ≡ x → b ≡ true) → (IsIn x rest ⊎ (y ≡ x)) → IsIn x (cond b (y ∷ rest) rest)
in_kept true x y rest f (inl m) = inr m
in_kept true x y rest f (inr e) = inl e
in_kept false x y rest f (inl m) = m
in_kept false x y rest f (inr e) = absurd (cc (f e))

pub in_filter : {A : Type 0} (test : A → Bool) (xs : List A) (x : A) → IsIn x xs → test x ≡ true → IsIn x (filter test xs)
in_filter test [] x m t = absurd m
in_filter test (y ∷ xs) x (inl e) t = in_kept (test y) x y (filter test xs) (λ e. ap test e ∙ t) (inr e)
in_filter test (y ∷ xs) x (inr m) t = in_kept (test y) x y (filter test xs) (λ e. ap test e ∙ t) (inl (in_filter test xs x m t))

of_kept : {A : Type 0} (b : Bool) (x y : A) (rest : List A) → IsIn x (cond b (y ∷ rest) rest) → ((y ≡ x) × (b ≡ true)) ⊎ IsIn x rest
of_kept true x y rest (inl e) = inl (e, refl)
of_kept true x y rest (inr m) = inr m
of_kept false x y rest m = inr m

pub of_filter : {A : Type 0} (test : A → Bool) (xs : List A) (x : A) → IsIn x (filter test xs) → (test x ≡ true) × IsIn x xs
of_filter test [] x m = absurd m
of_filter test (y ∷ xs) x m =
    elim (of_kept (test y) x y (filter test xs) m) [
      | inl h ↦ (ap test (sym (h.0)) ∙ h.1, inl (h.0))
      | inr h ↦ (let r = of_filter test xs x h in (r.0, inr (r.1)))
    ]

found_here : {A : Type 0} (test : A → Bool) (y x : A) (ys : List A) (rest : Option A) (b : Bool) → test y ≡ b → cond b (Some y) rest ≡ Some x →
    (rest ≡ Some x → IsIn x ys × (test x ≡ true)) → IsIn x (y ∷ ys) × (test x ≡ true)
found_here test y x ys rest true t e f = let s : y ≡ x = ap (λ o. unwrap_or o y) e in (inl s, ap test (sym s) ∙ t)
found_here test y x ys rest false t e f = let r = f e in (inr (r.0), r.1)

pub found : {A : Type 0} (test : A → Bool) (xs : List A) (x : A) → find test xs ≡ Some x → IsIn x xs × (test x ≡ true)
found test [] x e = absurd (cc e)
found test (y ∷ ys) x e = found_here test y x ys (find test ys) (test y) refl e (found test ys x)

from_recursion : {A : Type 0} (P : A → Type 0) (xs : List A) → AllByRecursion P xs → (x : A) → IsIn x xs → P x
from_recursion P [] a x m = absurd m
from_recursion P (y ∷ xs) a x (inl e) = subst P e a.0
from_recursion P (y ∷ xs) a x (inr m) = from_recursion P xs a.1 x m

to_recursion : {A : Type 0} (P : A → Type 0) (xs : List A) → ((x : A) → IsIn x xs → P x) → AllByRecursion P xs
to_recursion P [] f = tt
to_recursion P (y ∷ xs) f = (f y (inl refl), to_recursion P xs (λ x m. f x (inr m)))

pub each_of : {A : Type 0} (P : A → Type 0) (xs : List A) → All P xs → (x : A) → IsIn x xs → P x
each_of P xs a = from_recursion P xs (recursion_from_All P xs a)

pub of_each : {A : Type 0} (P : A → Type 0) (xs : List A) → ((x : A) → IsIn x xs → P x) → All P xs
of_each P xs f = All-from_recursion P xs (to_recursion P xs f)

-- a member of a mapped list comes from one
pub of_map : {A B : Type 0} (f : A → B) (xs : List A) (y : B) → IsIn y (map f xs) → (x : A) × IsIn x xs × (f x ≡ y)
of_map f [] y m = absurd m
of_map f (x ∷ xs) y (inl e) = (x, inl refl, e)
of_map f (x ∷ xs) y (inr m) = let r = of_map f xs y m in (r.0, inr (r.1), r.2)

pub in_map : {A B : Type 0} (f : A → B) (xs : List A) (x : A) → IsIn x xs → IsIn (f x) (map f xs)
in_map f [] x m = absurd m
in_map f (y ∷ xs) x (inl e) = inl (ap f e)
in_map f (y ∷ xs) x (inr m) = inr (in_map f xs x m)

pub all_in : {A : Type 0} (t : A → Bool) (xs : List A) (x : A) → list_all t xs ≡ true → IsIn x xs → t x ≡ true
all_in t [] x h m = absurd m
all_in t (y ∷ xs) x h (inl e) = ap t (sym e) ∙ (and_parts (t y) (list_all t xs) h).0
all_in t (y ∷ xs) x h (inr m) = all_in t xs x (and_parts (t y) (list_all t xs) h).1 m

pub none_in : {A : Type 0} (t : A → Bool) (xs : List A) (x : A) → list_any t xs ≡ false → IsIn x xs → t x ≡ false
none_in t [] x h m = absurd m
none_in t (y ∷ xs) x h (inl e) = ap t (sym e) ∙ or_left (t y) (list_any t xs) h
none_in t (y ∷ xs) x h (inr m) = none_in t xs x (or_right (t y) (list_any t xs) h) m
