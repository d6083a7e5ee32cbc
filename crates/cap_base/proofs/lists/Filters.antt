-- What a filter keeps, and what is found in a mapped list.
use Rattle.cap_base.proofs.Prelude.{◌≡◌, ◌≤◌, length, arith, Bool, true, false, List, [], ◌∷◌, refl, sym, ◌∙◌, ap, inl, inr, Some, option_map, cond, filter, find, map, length-filter, count_by-le-length}
use Rattle.cap_base.proofs.lists.Members.{IsIn}

pub filter_same : {A : Type 0} (f g : A → Bool) (xs : List A) → ((x : A) → IsIn x xs → f x ≡ g x) → filter f xs ≡ filter g xs
filter_same f g [] e = refl
filter_same f g (x ∷ xs) e = λ i. cond (e x (inl refl) i) (x ∷ filter_same f g xs (λ y m. e y (inr m)) i) (filter_same f g xs (λ y m. e y (inr m)) i)

pub filter_none : {A : Type 0} (f : A → Bool) (xs : List A) → ((x : A) → IsIn x xs → f x ≡ false) → filter f xs ≡ []
filter_none f [] e = refl
filter_none f (x ∷ xs) e = ap (λ b. cond b (x ∷ filter f xs) (filter f xs)) (e x (inl refl)) ∙ filter_none f xs (λ y m. e y (inr m))

pub filter_whole : {A : Type 0} (f : A → Bool) (xs : List A) → ((x : A) → IsIn x xs → f x ≡ true) → filter f xs ≡ xs
filter_whole f [] e = refl
filter_whole f (x ∷ xs) e = ap (λ b. cond b (x ∷ filter f xs) (filter f xs)) (e x (inl refl)) ∙ ap (λ ys. x ∷ ys) (filter_whole f xs (λ y m. e y (inr m)))

-- two filters are one
pub filter_twice : {A : Type 0} (f g h : A → Bool) (xs : List A) → ((x : A) → h x ≡ cond (g x) (f x) false) → filter f (filter g xs) ≡ filter h xs
filter_twice f g h [] e = refl
filter_twice f g h (x ∷ xs) e = by (g x) (e x) (filter_twice f g h xs e)
  where
    by : (b : Bool) → h x ≡ cond b (f x) false → filter f (filter g xs) ≡ filter h xs → filter f (cond b (x ∷ filter g xs) (filter g xs)) ≡ cond (h x) (x ∷ filter h xs) (filter h xs)
    by true t r = λ i. cond (sym t i) (x ∷ r i) (r i)
    by false t r = r ∙ sym (ap (λ b. cond b (x ∷ filter h xs) (filter h xs)) t)

pub map_twice : {A B C : Type 0} (f : B → C) (g : A → B) (xs : List A) → map f (map g xs) ≡ map (λ x. f (g x)) xs
map_twice f g [] = refl
map_twice f g (x ∷ xs) = ap (λ ys. f (g x) ∷ ys) (map_twice f g xs)

pub find_mapped_at : {A B : Type 0} (g : A → B) (t : B → Bool) (xs : List A) → find t (map g xs) ≡ option_map g (find (λ x. t (g x)) xs)
find_mapped_at g t [] = refl
find_mapped_at g t (x ∷ xs) = by (t (g x)) (find_mapped_at g t xs)
  where
    by : (b : Bool) → find t (map g xs) ≡ option_map g (find (λ y. t (g y)) xs) → cond b (Some (g x)) (find t (map g xs)) ≡ option_map g (cond b (Some x) (find (λ y. t (g y)) xs))
    by true e = refl
    by false e = e

pub filter_mapped : {A B : Type 0} (t : B → Bool) (g : A → B) (xs : List A) → filter t (map g xs) ≡ map g (filter (λ x. t (g x)) xs)
filter_mapped t g [] = refl
filter_mapped {A} {B} t g (x ∷ xs) = by (t (g x)) (filter_mapped t g xs)
  where
    by : (b : Bool) → filter t (map g xs) ≡ map g (filter (λ y. t (g y)) xs) → cond b (g x ∷ filter t (map g xs)) (filter t (map g xs)) ≡ map g (cond b (x ∷ filter (λ y. t (g y)) xs) (filter (λ y. t (g y)) xs))
    by true e = ap (λ ys. g x ∷ ys) e
    by false e = e

pub length-kept : {A : Type 0} (t : A → Bool) (xs : List A) → length (filter t xs) ≤ length xs
length-kept t xs = omega (arith, length-filter t xs, count_by-le-length t xs)

pub map_same : {A B : Type 0} (f g : A → B) (xs : List A) → ((x : A) → IsIn x xs → f x ≡ g x) → map f xs ≡ map g xs
map_same f g [] e = refl
map_same f g (x ∷ xs) e = λ i. e x (inl refl) i ∷ map_same f g xs (λ y m. e y (inr m)) i
