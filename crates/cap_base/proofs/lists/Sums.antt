-- Sums and counts over lists.
use Rattle.cap_base.proofs.Prelude.{◌≡◌, ℕ, ◌+◌, Bool, true, false, List, [], ◌∷◌, ◌++◌, refl, sym, ◌∙◌, ap, inl, inr, arith, ◌&&◌, cond, count_by, filter, map, sum_by, sum_by-cons, sum_by-append}
use Rattle.cap_base.proofs.lists.Members.{IsIn}

abbrev pub one_where : Bool → ℕ
one_where b = cond b 1 0

pub count_cons : {A : Type 0} (f : A → Bool) (x : A) (xs : List A) → count_by f (x ∷ xs) ≡ cond (f x) 1 0 + count_by f xs
count_cons f x xs = sum_by-cons (λ y. cond (f y) 1 0) x xs

pub count_append : {A : Type 0} (f : A → Bool) (xs ys : List A) → count_by f (xs ++ ys) ≡ count_by f xs + count_by f ys
count_append f xs ys = sum_by-append (λ y. cond (f y) 1 0) xs ys

-- counting what a filter keeps
pub count_kept : {A : Type 0} (g h : A → Bool) (xs : List A) → count_by g (filter h xs) ≡ sum_by (λ x. one_where (h x && g x)) xs
count_kept g h [] = refl
count_kept g h (x ∷ xs) = by (h x) (count_kept g h xs) ∙ sym (sum_by-cons (λ y. one_where (h y && g y)) x xs)
  where
    by : (b : Bool) → count_by g (filter h xs) ≡ sum_by (λ y. one_where (h y && g y)) xs →
        count_by g (cond b (x ∷ filter h xs) (filter h xs)) ≡ one_where (b && g x) + sum_by (λ y. one_where (h y && g y)) xs
    by true e = sum_by-cons (λ y. one_where (g y)) x (filter h xs) ∙ ap (λ n. one_where (g x) + n) e
    by false e = omega (arith, e)

pub sum_by_map : {A B : Type 0} (g : A → B) (f : B → ℕ) (xs : List A) → sum_by f (map g xs) ≡ sum_by (λ x. f (g x)) xs
sum_by_map g f [] = refl
sum_by_map g f (x ∷ xs) = sum_by-cons f (g x) (map g xs) ∙ ap (λ n. f (g x) + n) (sum_by_map g f xs) ∙ sym (sum_by-cons (λ y. f (g y)) x xs)

pub sum_by_agree : {A : Type 0} (f g : A → ℕ) (xs : List A) → ((x : A) → IsIn x xs → f x ≡ g x) → sum_by f xs ≡ sum_by g xs
sum_by_agree f g [] e = refl
sum_by_agree f g (x ∷ xs) e =
    sum_by-cons f x xs ∙ (λ i. e x (inl refl) i + sum_by_agree f g xs (λ y m. e y (inr m)) i) ∙ sym (sum_by-cons g x xs)

pub sum_of_zeros : {A : Type 0} (f : A → ℕ) (xs : List A) → ((x : A) → IsIn x xs → f x ≡ 0) → sum_by f xs ≡ 0
sum_of_zeros f [] e = refl
sum_of_zeros f (x ∷ xs) e = sum_by-cons f x xs ∙ omega (arith, e x (inl refl), sum_of_zeros f xs (λ y m. e y (inr m)))

pub sum_of_two : {A : Type 0} (f g : A → ℕ) (xs : List A) → sum_by (λ x. f x + g x) xs ≡ sum_by f xs + sum_by g xs
sum_of_two f g [] = refl
sum_of_two f g (x ∷ xs) = omega (arith, sum_by-cons (λ y. f y + g y) x xs, sum_by-cons f x xs, sum_by-cons g x xs, sum_of_two f g xs)

pub sum_by_same : {A : Type 0} (f g : A → ℕ) (xs : List A) → ((x : A) → f x ≡ g x) → sum_by f xs ≡ sum_by g xs
sum_by_same f g xs e = λ i. sum_by (λ x. e x i) xs
