-- Looking asks up after they were replaced or counted down.
use Rattle.cap_model.proofs.Prelude.{◌≡◌, ℕ, ◌-◌, ◌≤◌, ◌<◌, Bool, true, false, List, [], ◌∷◌, refl, sym, ◌∙◌, ap, inl, inr, arith, ◌⊎◌, Option, Some, None, cond, not, ◌&&◌, ◌==◌, filter, length, if◌then◌else◌, is_lt, nat_tests, Key, same_key, ask_key_cmp, Ask, ask_at, without_key, with_ask, put_ask, keep_first, take_one, IsIn, of_filter, first_is, and_parts, cases_Bool, and_from, not-true}

pub same_key_is : (a b : Key) → same_key a b ≡ true → a ≡ b
same_key_is a b h =
    let both = and_parts (a.priority == b.priority) (a.request == b.request) h in
    let p : a.priority ≡ b.priority = (let t = both.0 in grind (arith, nat_tests, t)) in
    let r : a.request ≡ b.request = (let t = both.1 in grind (arith, nat_tests, t)) in
    λ i. record { priority = p i; request = r i }

pub same_key_itself : (a : Key) → same_key a a ≡ true
same_key_itself a = and_from (a.priority == a.priority) (a.request == a.request) (grind (arith, nat_tests)) (grind (arith, nat_tests))

-- keys of which one is another's but not a third's
pub not_same_other : (a b : Key) → same_key a b ≡ false → same_key b a ≡ false
not_same_other a b h = grind (arith, nat_tests, h)

pub other_key : (a b c : Key) → same_key a b ≡ true → same_key b c ≡ false → same_key a c ≡ false
other_key a b c h g = ap (λ x. same_key x c) (same_key_is a b h) ∙ g

-- of those that pass, at most so many are kept
pub kept_few : {A : Type 0} (t : A → Bool) (n : ℕ) (xs : List A) → length (filter t (keep_first t n xs)) ≤ n
kept_few t n [] = omega arith
kept_few t n (x ∷ xs) = by (t x) (n == 0) refl refl (kept_few t (if t x then n - 1 else n) xs)
  where
    by : (a b : Bool) → t x ≡ a → n == 0 ≡ b → length (filter t (keep_first t (if t x then n - 1 else n) xs)) ≤ (if t x then n - 1 else n) → length (filter t (keep_first t n (x ∷ xs))) ≤ n
    by true true e f r =
        let less : cond (t x) (n - 1) n ≡ n - 1 = ap (λ c. cond c (n - 1) n) e in
        let s : length (filter t (keep_first t n (x ∷ xs))) ≡ length (filter t (keep_first t (cond (t x) (n - 1) n) xs)) =
        ap (λ c. length (filter t (cond c (keep_first t (cond (t x) (n - 1) n) xs) (x ∷ keep_first t (cond (t x) (n - 1) n) xs)))) (λ i. e i && f i) in
        omega (arith, less, s, r)
    by true false e f r =
        let less : cond (t x) (n - 1) n ≡ n - 1 = ap (λ c. cond c (n - 1) n) e in
        let positive : 0 < n = grind (arith, nat_tests, f) in
        let s : length (filter t (keep_first t n (x ∷ xs))) ≡ length (filter t (x ∷ keep_first t (cond (t x) (n - 1) n) xs)) =
        ap (λ c. length (filter t (cond c (keep_first t (cond (t x) (n - 1) n) xs) (x ∷ keep_first t (cond (t x) (n - 1) n) xs)))) (λ i. e i && f i) in
        let u : length (filter t (x ∷ keep_first t (cond (t x) (n - 1) n) xs)) ≡ length (x ∷ filter t (keep_first t (cond (t x) (n - 1) n) xs)) =
        ap (λ c. length (cond c (x ∷ filter t (keep_first t (cond (t x) (n - 1) n) xs)) (filter t (keep_first t (cond (t x) (n - 1) n) xs)))) e in
        omega (arith, less, s, u, r, positive)
    by false b e f r =
        let less : cond (t x) (n - 1) n ≡ n = ap (λ c. cond c (n - 1) n) e in
        let s : length (filter t (keep_first t n (x ∷ xs))) ≡ length (filter t (x ∷ keep_first t (cond (t x) (n - 1) n) xs)) =
        ap (λ c. length (filter t (cond c (keep_first t (cond (t x) (n - 1) n) xs) (x ∷ keep_first t (cond (t x) (n - 1) n) xs)))) (λ i. e i && (n == 0)) in
        let u : length (filter t (x ∷ keep_first t (cond (t x) (n - 1) n) xs)) ≡ length (filter t (keep_first t (cond (t x) (n - 1) n) xs)) =
        ap (λ c. length (cond c (x ∷ filter t (keep_first t (cond (t x) (n - 1) n) xs)) (filter t (keep_first t (cond (t x) (n - 1) n) xs)))) e in
        omega (arith, less, s, u, r)

-- the ask of a key after a sorted insert
found_with : (ask : Ask) (xs : List Ask) → ((x : Ask) → IsIn x xs → same_key x.key ask.key ≡ false) → ask_at ask.key (with_ask ask xs) ≡ Some ask
found_with ask [] f = ap (λ b. cond b (Some ask) None) (same_key_itself ask.key)
found_with ask (x ∷ xs) f = by (is_lt (ask_key_cmp ask.key x.key)) (found_with ask xs (λ y m. f y (inr m)))
  where
    by : (b : Bool) → ask_at ask.key (with_ask ask xs) ≡ Some ask → ask_at ask.key (cond b (ask ∷ x ∷ xs) (x ∷ with_ask ask xs)) ≡ Some ask
    by true r = ap (λ b. cond b (Some ask) (ask_at ask.key (x ∷ xs))) (same_key_itself ask.key)
    by false r = ap (λ b. cond b (Some x) (ask_at ask.key (with_ask ask xs))) (f x (inl refl)) ∙ r

other_with : (key : Key) (ask : Ask) (xs : List Ask) → same_key ask.key key ≡ false → ask_at key (with_ask ask xs) ≡ ask_at key xs
other_with key ask [] e = ap (λ b. cond b (Some ask) None) e
other_with key ask (x ∷ xs) e = by (is_lt (ask_key_cmp ask.key x.key)) (other_with key ask xs e)
  where
    by : (b : Bool) → ask_at key (with_ask ask xs) ≡ ask_at key xs → ask_at key (cond b (ask ∷ x ∷ xs) (x ∷ with_ask ask xs)) ≡ ask_at key (x ∷ xs)
    by true r = ap (λ b. cond b (Some ask) (ask_at key (x ∷ xs))) e
    by false r = ap (λ o. cond (same_key x.key key) (Some x) o) r

other_without : (key gone : Key) (xs : List Ask) → same_key gone key ≡ false → ask_at key (without_key gone xs) ≡ ask_at key xs
other_without key gone [] e = refl
other_without key gone (x ∷ xs) e = by (same_key x.key gone) refl (other_without key gone xs e)
  where
    by : (b : Bool) → same_key x.key gone ≡ b → ask_at key (without_key gone xs) ≡ ask_at key xs → ask_at key (cond (not b) (x ∷ without_key gone xs) (without_key gone xs)) ≡ ask_at key (x ∷ xs)
    by true g r = r ∙ sym (ap (λ b. cond b (Some x) (ask_at key xs)) (other_key x.key gone key g e))
    by false g r = ap (λ o. cond (same_key x.key key) (Some x) o) r

-- an ask of some containers is found under its key, and others as before
pub put_is_found : (ask : Ask) (xs : List Ask) → ask.count == 0 ≡ false → ask_at ask.key (put_ask ask xs) ≡ Some ask
put_is_found ask xs e =
    ap (λ b. ask_at ask.key (cond b (without_key ask.key xs) (with_ask ask (without_key ask.key xs)))) e
    ∙ found_with ask (without_key ask.key xs) (λ x m. not-true (same_key x.key ask.key) (of_filter (λ (y : Ask). not (same_key y.key ask.key)) xs x m).0)

pub others_are_found : (key : Key) (ask : Ask) (xs : List Ask) → same_key ask.key key ≡ false → ask_at key (put_ask ask xs) ≡ ask_at key xs
others_are_found key ask xs e = by (ask.count == 0)
  where
    by : (b : Bool) → ask_at key (cond b (without_key ask.key xs) (with_ask ask (without_key ask.key xs))) ≡ ask_at key xs
    by true = other_without key ask.key xs e
    by false = other_with key ask (without_key ask.key xs) e ∙ other_without key ask.key xs e

-- an ask with one container less to want
abbrev pub one_less : Ask → Ask
one_less ask = record ask { count = ask.count - 1 }

abbrev lessened : Key → Ask → Ask
lessened key ask = if same_key ask.key key then record ask { count = ask.count - 1 } else ask

lessened_key : (key : Key) (x : Ask) → (lessened key x).key ≡ x.key
lessened_key key x = by (same_key x.key key)
  where
    by : (b : Bool) → (cond b (one_less x) x).key ≡ x.key
    by true = refl
    by false = refl

-- where the first ask under a key is not it, or goes, the rest is looked through
passed_over : (key : Key) (b : Bool) (x : Ask) (xs : List Ask) → same_key x.key key ≡ false → ask_at key (cond b (x ∷ xs) xs) ≡ ask_at key xs
passed_over key true x xs e = ap (λ c. cond c (Some x) (ask_at key xs)) e
passed_over key false x xs e = refl

stays_first : (key : Key) (x : Ask) (xs : List Ask) → same_key x.key key ≡ true → x.count == 0 ≡ false → ask_at key (cond (not (x.count == 0)) (x ∷ xs) xs) ≡ Some x
stays_first key x xs e f = ap (λ b. ask_at key (cond (not b) (x ∷ xs) xs)) f ∙ ap (λ c. cond c (Some x) (ask_at key xs)) e

rest_is : (b : Bool) (x y : Ask) (o : Option Ask) → b ≡ false → cond b (Some x) o ≡ Some y → o ≡ Some y
rest_is true x y o e f = absurd (cc e)
rest_is false x y o e f = f

-- under the key itself the ask has one less, where that is not 0
pub one_less_found : (key : Key) (xs : List Ask) (ask : Ask) → ask_at key xs ≡ Some ask → ask.count - 1 == 0 ≡ false → ask_at key (take_one key xs) ≡ Some (one_less ask)
one_less_found key [] ask e f = absurd (cc e)
one_less_found key (x ∷ xs) ask e f = by (cases_Bool (same_key x.key key)) (one_less_found key xs ask)
  where
    rest : List Ask
    rest = take_one key xs

    by : ((same_key x.key key ≡ true) ⊎ (same_key x.key key ≡ false)) → (ask_at key xs ≡ Some ask → ask.count - 1 == 0 ≡ false → ask_at key (take_one key xs) ≡ Some (one_less ask)) → ask_at key (take_one key (x ∷ xs)) ≡ Some (one_less ask)
    by (inl h) r =
        let same : x ≡ ask = first_is (same_key x.key key) x ask (ask_at key xs) h e in
        let f' : x.count - 1 == 0 ≡ false = ap (λ (a : Ask). a.count - 1 == 0) same ∙ f in
        ap (λ b. ask_at key (cond (not ((cond b (one_less x) x).count == 0)) (cond b (one_less x) x ∷ rest) rest)) h
        ∙ stays_first key (one_less x) rest h f' ∙ ap (λ a. Some (one_less a)) same
    by (inr h) r =
        passed_over key (not ((lessened key x).count == 0)) (lessened key x) rest (ap (λ k. same_key k key) (lessened_key key x) ∙ h)
        ∙ r (rest_is (same_key x.key key) x ask (ask_at key xs) h e) f

-- under another key an ask of some containers stays
pub other_ask_stays : (key gone : Key) (xs : List Ask) (ask : Ask) → same_key key gone ≡ false → ask_at key xs ≡ Some ask → ask.count == 0 ≡ false → ask_at key (take_one gone xs) ≡ Some ask
other_ask_stays key gone [] ask o e f = absurd (cc e)
other_ask_stays key gone (x ∷ xs) ask o e f = by (cases_Bool (same_key x.key key)) (other_ask_stays key gone xs ask o)
  where
    rest : List Ask
    rest = take_one gone xs

    by : ((same_key x.key key ≡ true) ⊎ (same_key x.key key ≡ false)) → (ask_at key xs ≡ Some ask → ask.count == 0 ≡ false → ask_at key (take_one gone xs) ≡ Some ask) → ask_at key (take_one gone (x ∷ xs)) ≡ Some ask
    by (inl h) r =
        let same : x ≡ ask = first_is (same_key x.key key) x ask (ask_at key xs) h e in
        let f' : x.count == 0 ≡ false = ap (λ (a : Ask). a.count == 0) same ∙ f in
        ap (λ b. ask_at key (cond (not ((cond b (one_less x) x).count == 0)) (cond b (one_less x) x ∷ rest) rest)) (other_key x.key key gone h o)
        ∙ stays_first key x rest h f' ∙ ap (λ a. Some a) same
    by (inr h) r =
        passed_over key (not ((lessened gone x).count == 0)) (lessened gone x) rest (ap (λ k. same_key k key) (lessened_key gone x) ∙ h)
        ∙ r (rest_is (same_key x.key key) x ask (ask_at key xs) h e) f
