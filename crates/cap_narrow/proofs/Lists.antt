-- What is so of mapped lists and options: tests, changes, and what all of a list have.
use Rattle.cap_narrow.proofs.Prelude.{◌≡◌, ℕ, zero, suc, ◌+◌, ◌-◌, Bool, true, false, List, [], ◌∷◌, drop, refl, ◌∙◌, ap, inl, inr, Option, Some, None, is_none, is_some, not, ◌==◌, ◌&&◌, ◌||◌, nat_lt, map, cond, position, option_map, if◌then◌else◌, All, list_any, list_all, prefix_len, length-map, All-cons, All-head, All-tail, All-map, All-weaker, holds_of, IsIn, keep_first}

-- ---- options
pub holds_mapped : {A B : Type 0} (f : A → B) (t : B → Bool) (o : Option A) → holds_of t (option_map f o) ≡ holds_of (λ x. t (f x)) o
holds_mapped f t None = refl
holds_mapped f t (Some x) = refl

-- a test that says the same of the value that is there
pub holds_same : {A : Type 0} (t u : A → Bool) (o : Option A) → ((x : A) → o ≡ Some x → t x ≡ u x) → holds_of t o ≡ holds_of u o
holds_same t u None e = refl
holds_same t u (Some x) e = e x refl

pub some_mapped : {A B : Type 0} (f : A → B) (o : Option A) → is_some (option_map f o) ≡ is_some o
some_mapped f None = refl
some_mapped f (Some x) = refl

pub none_mapped : {A B : Type 0} (f : A → B) (o : Option A) → is_none (option_map f o) ≡ is_none o
none_mapped f None = refl
none_mapped f (Some x) = refl

-- ---- tests of lists, where a test says of each what another says of what it is mapped to
pub all_same : {A B : Type 0} (f : A → B) (t : B → Bool) (u : A → Bool) (xs : List A) → ((x : A) → IsIn x xs → t (f x) ≡ u x) → list_all t (map f xs) ≡ list_all u xs
all_same f t u [] e = refl
all_same f t u (x ∷ xs) e = λ i. e x (inl refl) i && all_same f t u xs (λ y m. e y (inr m)) i

pub any_same : {A B : Type 0} (f : A → B) (t : B → Bool) (u : A → Bool) (xs : List A) → ((x : A) → IsIn x xs → t (f x) ≡ u x) → list_any t (map f xs) ≡ list_any u xs
any_same f t u [] e = refl
any_same f t u (x ∷ xs) e = λ i. e x (inl refl) i || any_same f t u xs (λ y m. e y (inr m)) i

prefix_same : {A B : Type 0} (f : A → B) (t : B → Bool) (u : A → Bool) (xs : List A) → ((x : A) → IsIn x xs → t (f x) ≡ u x) → prefix_len t (map f xs) ≡ prefix_len u xs
prefix_same f t u [] e = refl
prefix_same f t u (x ∷ xs) e = λ i. cond (e x (inl refl) i) (1 + prefix_same f t u xs (λ y m. e y (inr m)) i) 0

pub position_same : {A B : Type 0} (f : A → B) (t : B → Bool) (u : A → Bool) (xs : List A) → ((x : A) → IsIn x xs → t (f x) ≡ u x) → position t (map f xs) ≡ position u xs
position_same f t u xs e =
    let p = prefix_same f (λ y. not (t y)) (λ x. not (u x)) xs (λ x m. ap not (e x m)) in
    λ i. cond (nat_lt (p i) (length-map xs f i)) (Some (p i)) None

pub in_drop : {A : Type 0} (n : ℕ) (xs : List A) (x : A) → IsIn x (drop n xs) → IsIn x xs
in_drop zero xs x m = m
in_drop (suc n) [] x m = m
in_drop (suc n) (y ∷ xs) x m = inr (in_drop n xs x m)

-- ---- changes
-- two maps that come to the same
pub maps_meet : {A B C D : Type 0} (f : B → D) (g : A → B) (h : C → D) (k : A → C) → ((x : A) → f (g x) ≡ h (k x)) → (xs : List A) → map f (map g xs) ≡ map h (map k xs)
maps_meet f g h k e [] = refl
maps_meet f g h k e (x ∷ xs) = λ i. e x i ∷ maps_meet f g h k e xs i

-- a change of those that pass a test
pub change_meets : {X : Type 0} (f h k : X → X) (t : X → Bool) → ((x : X) → t (f x) ≡ t x) → ((x : X) → h (f x) ≡ f (k x)) → (xs : List X) → map (λ x. if t x then h x else x) (map f xs) ≡ map f (map (λ x. if t x then k x else x) xs)
change_meets f h k t s e xs = maps_meet (λ x. if t x then h x else x) f f (λ x. if t x then k x else x) (λ x. ap (λ b. if b then h (f x) else f x) (s x) ∙ by x (t x)) xs
  where
    by : (x : _) (b : Bool) → (if b then h (f x) else f x) ≡ f (if b then k x else x)
    by x true = e x
    by x false = refl

-- of those that pass a test the first few keep their place
pub keep_mapped : {X : Type 0} (f : X → X) (t : X → Bool) → ((x : X) → t (f x) ≡ t x) → (n : ℕ) (xs : List X) → keep_first t n (map f xs) ≡ map f (keep_first t n xs)
keep_mapped f t e n [] = refl
keep_mapped f t e n (x ∷ xs) =
    (λ i. if e x i && n == 0 then keep_first t (if e x i then n - 1 else n) (map f xs) else f x ∷ keep_first t (if e x i then n - 1 else n) (map f xs))
    ∙ by (t x && n == 0) (keep_mapped f t e (if t x then n - 1 else n) xs)
  where
    by : (b : Bool) → keep_first t (if t x then n - 1 else n) (map f xs) ≡ map f (keep_first t (if t x then n - 1 else n) xs) →
        (if b then keep_first t (if t x then n - 1 else n) (map f xs) else f x ∷ keep_first t (if t x then n - 1 else n) (map f xs))
        ≡ map f (if b then keep_first t (if t x then n - 1 else n) xs else x ∷ keep_first t (if t x then n - 1 else n) xs)
    by true r = r
    by false r = ap (λ ys. f x ∷ ys) r

-- ---- what all of a list have
module _ {X : Type 0} (P : X → Type 0) where
  -- a change that keeps it
  pub all_changed : (f : X → X) → ((x : X) → P x → P (f x)) → (xs : List X) → All P xs → All P (map f xs)
  all_changed f e xs all = All-map P f xs (All-weaker P (λ x. P (f x)) e xs all)

  -- a change of those that pass a test
  pub all_changed_if : (t : X → Bool) (h : X → X) → ((x : X) → P x → P (h x)) → (xs : List X) → All P xs → All P (map (λ x. if t x then h x else x) xs)
  all_changed_if t h e xs all = all_changed (λ x. if t x then h x else x) (λ x p. by x p (t x)) xs all
    where
      by : (x : X) → P x → (b : Bool) → P (if b then h x else x)
      by x p true = e x p
      by x p false = p

  pub all_kept : (t : X → Bool) (n : ℕ) (xs : List X) → All P xs → All P (keep_first t n xs)
  all_kept t n [] all = all
  all_kept t n (x ∷ xs) all = by (all_kept t (if t x then n - 1 else n) xs (All-tail P x xs all)) (t x && n == 0)
    where
      by : All P (keep_first t (if t x then n - 1 else n) xs) → (b : Bool) →
          All P (if b then keep_first t (if t x then n - 1 else n) xs else x ∷ keep_first t (if t x then n - 1 else n) xs)
      by r true = r
      by r false = All-cons P x (keep_first t (if t x then n - 1 else n) xs) (All-head P x xs all) r
