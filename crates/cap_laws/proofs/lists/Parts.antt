-- What is left of a list.
use Rattle.cap_laws.proofs.Prelude.{◌≡◌, ℕ, ◌≤◌, Bool, true, false, List, [], ◌∷◌, refl, ap, subst, inl, inr, arith, ◌⊎◌, cond, ◌&&◌, ◌==◌, ◌-◌, filter, if◌then◌else◌, sum_by, sum_by-cons, keep_first, IsIn}

-- the second list is what is left of the first
abbrev pub IsPart : {A : Type 0} → List A → List A → Type 0
IsPart [] ys = ys ≡ []
IsPart {A} (x ∷ xs) ys = IsPart xs ys ⊎ ((zs : List A) × (ys ≡ x ∷ zs) × IsPart xs zs)

pub part_itself : {A : Type 0} (xs : List A) → IsPart xs xs
part_itself [] = refl
part_itself (x ∷ xs) = inr (xs, refl, part_itself xs)

pub part_filter : {A : Type 0} (t : A → Bool) (xs : List A) → IsPart xs (filter t xs)
part_filter t [] = refl
part_filter {A} t (x ∷ xs) = by (t x) (part_filter t xs)
  where
    by : (b : Bool) → IsPart xs (filter t xs) → IsPart (x ∷ xs) (cond b (x ∷ filter t xs) (filter t xs))
    by true p = inr (filter t xs, refl, p)
    by false p = inl p

pub part_in : {A : Type 0} (xs ys : List A) (x : A) → IsPart xs ys → IsIn x ys → IsIn x xs
part_in [] ys x p m = subst (λ l. IsIn x l) p m
part_in (y ∷ xs) ys x (inl p) m = inr (part_in xs ys x p m)
part_in (y ∷ xs) ys x (inr (zs, e, p)) m = elim (subst (λ l. IsIn x l) e m) [ inl h ↦ inl h | inr h ↦ inr (part_in xs zs x p h) ]

pub part_sum : {A : Type 0} (f : A → ℕ) (xs ys : List A) → IsPart xs ys → sum_by f ys ≤ sum_by f xs
part_sum f [] ys p = let e : sum_by f ys ≡ sum_by f [] = ap (sum_by f) p in omega (arith, e)
part_sum f (x ∷ xs) ys (inl p) = omega (arith, part_sum f xs ys p, sum_by-cons f x xs)
part_sum f (x ∷ xs) ys (inr (zs, e, p)) =
    let h : sum_by f ys ≡ sum_by f (x ∷ zs) = ap (sum_by f) e in
    omega (arith, h, part_sum f xs zs p, sum_by-cons f x xs, sum_by-cons f x zs)

pub part_of_part : {A : Type 0} (xs ys zs : List A) → IsPart xs ys → IsPart ys zs → IsPart xs zs
part_of_part {A} [] ys zs p q = subst (λ (l : List A). IsPart l zs) p q
part_of_part {A} (x ∷ xs) ys zs (inl p) q = inl (part_of_part xs ys zs p q)
part_of_part {A} (x ∷ xs) ys zs (inr (ws, e, p)) q =
    elim (subst (λ (l : List A). IsPart l zs) e q) [
      | inl h ↦ inl (part_of_part xs ws zs p h)
      | inr h ↦ inr (h.0, h.1, part_of_part xs ws (h.0) p (h.2))
    ]

-- what stays of reservations where only the first of some are kept
pub part_keep_first : {A : Type 0} (t : A → Bool) (n : ℕ) (xs : List A) → IsPart xs (keep_first t n xs)
part_keep_first t n [] = refl
part_keep_first {A} t n (x ∷ xs) = by (t x && n == 0) (part_keep_first t (if t x then n - 1 else n) xs)
  where
    rest : List A
    rest = keep_first t (if t x then n - 1 else n) xs

    by : (b : Bool) → IsPart xs rest → IsPart (x ∷ xs) (cond b rest (x ∷ rest))
    by true p = inl p
    by false p = inr (rest, refl, p)
