-- The laws of fields: what is read is spelled so and within its bounds, what is spelled is read again, and it is bytes.
use Rattle.cap_grammar.proofs.Prelude.{Bool, List, None, Option, Some, [], ap, append_assoc, arith, cond, drop, false, get_or, inl, inr, length, length-append, refl, subst, suc, sym, take, true, zero, ℕ, ◌++◌, ◌+◌, ◌-◌, ◌<◌, ◌^◌, ◌∙◌, ◌∷◌, ◌≡◌, ◌≤◌, ◌⊎◌, cases_lt, eqb-true, le-ltb, ltb-false, nat_tests, append-nil, drop_at, get_or-append-add, get_or-take, get_or_past, length-replicate, length-take, nil_from_length, take-append-drop, take_at, All-nil, be_bytes_2, be_bytes_4, be_bytes_8, from_be_bytes-to_be_bytes_2, from_be_bytes-to_be_bytes_4, from_be_bytes-to_be_bytes_8, Width, byte_len, from_be_bytes, to_be_bytes, w16, w32, w64, AllByRecursion, flat_map, nat_le, nat_lt, ◌==◌, IsBytes, Field, bool, counted, made, nothing, number, pair, text_that, u16, u32, u64, u8, vector, all_at, byte_at, flag_at, flag_of_byte, made_at, number_at, pair_at, passing_at, text_at, times_at, ◌>>=◌, amount_at, amounts_at, counted_at, IsShownVector, shown_amounts, flag, limit, text, resource, IsVector, zeros}
use Rattle.cap_grammar.proofs.SpelledBytes.{Small, one, both, two, word, long, a_flag}

abbrev pub AreBytes : List ℕ → Type 0
AreBytes bytes = (i : ℕ) → get_or bytes i 0 < 256

pub AreBytes-past : (front bytes rest : List ℕ) → bytes ≡ front ++ rest → AreBytes bytes → AreBytes rest
AreBytes-past front bytes rest e h i = subst (λ n. n < 256) (get_or-append-add front rest i 0) (subst (λ (b : List ℕ). get_or b (length front + i) 0 < 256) e (h (length front + i)))

AreBytes-take : (n : ℕ) (bytes : List ℕ) → AreBytes bytes → AreBytes (take n bytes)
AreBytes-take n bytes h i =
    elim (cases_lt i n) [
      | inl lt ↦ rw (get_or-take n bytes i 0 lt) (h i)
      | inr le ↦ rw (get_or_past (take n bytes) i 0 (omega (arith, length-take n bytes))) (omega arith)
    ]

-- a step that did not fail, and what follows it
pub bind_then : {A B : Type 0} {G : Type 0} (r : Option A) (f : A → Option B) (y : B) → (r >>= f) ≡ Some y → ((x : A) → r ≡ Some x → f x ≡ Some y → G) → G
bind_then (Some x) f y e k = k x refl e
bind_then None f y e k = absurd cc

-- a test that failed or did not
pub guard_else : {A : Type 0} (b : Bool) (x y : A) → cond b None (Some x) ≡ Some y → (b ≡ false) × (x ≡ y)
guard_else true x y e = absurd cc
guard_else false x y e = (refl, cc)

pub guard_then : {A : Type 0} (b : Bool) (x : Option A) (y : A) → cond b x None ≡ Some y → (b ≡ true) × (x ≡ Some y)
guard_then true x y e = (refl, e)
guard_then false x y e = absurd cc

-- which of two a test chose
pub chosen : {A : Type 0} (b : Bool) (x y z : A) → cond b x y ≡ z → ((b ≡ true) × (x ≡ z)) ⊎ ((b ≡ false) × (y ≡ z))
chosen true x y z e = inl (refl, e)
chosen false x y z e = inr (refl, e)

pub some_is : {A : Type 0} (x y : A) (o : Option A) → o ≡ Some x → o ≡ Some y → x ≡ y
some_is x y o e f = cc

-- what is known of bytes that a field was read from
abbrev pub Taken : {A : Type 0} → Field A → List ℕ → A → List ℕ → Type 0
Taken f bytes x rest = (bytes ≡ f.spell x ++ rest) × f.Fits x

-- the laws of a field
pub record IsField {A : Type 0} (f : Field A) : Type 0 where
  pub takes : (bytes : List ℕ) (x : A) (rest : List ℕ) → AreBytes bytes → f.read bytes ≡ Some (x, rest) → Taken f bytes x rest
  pub again : (x : A) (rest : List ℕ) → f.Fits x → f.read (f.spell x ++ rest) ≡ Some (x, rest)
  pub bytes : (x : A) → f.Fits x → IsBytes (f.spell x)

-- what was made is what was returned
returned : {A : Type 0} (f : Field A) (bytes : List ℕ) {u v : A × List ℕ} → Some u ≡ Some v → Taken f bytes u.0 u.1 → Taken f bytes v.0 v.1
returned {A} f bytes {u} {v} e t = let same : u ≡ v = cc e in subst (λ (y : A × List ℕ). Taken f bytes y.0 y.1) same t

-- a field was read, and then what follows it
pub read_then : {A B : Type 0} {G : Type 0} {f : Field A} → IsField f → (bytes : List ℕ) → AreBytes bytes → (more : A × List ℕ → Option B) (y : B) → (f.read bytes >>= more) ≡ Some y →
    ((x : A) (rest : List ℕ) → Taken f bytes x rest → AreBytes rest → more (x, rest) ≡ Some y → G) → G
read_then {A} {B} {G} {f} is bytes fits more y e then_ =
    bind_then (f.read bytes) more y e (λ u read e'.
    let t = is.takes bytes u.0 u.1 fits read in
    then_ u.0 u.1 t (AreBytes-past (f.spell u.0) bytes u.1 t.0 fits) e')

-- ---- putting fields together

-- one spelling after the other
joined : (a x b y c : List ℕ) → a ≡ x ++ b → b ≡ y ++ c → a ≡ (x ++ y) ++ c
joined a x b y c p q = p ∙ ap (λ (t : List ℕ). x ++ t) q ∙ sym (append_assoc x y c)

pub is_pair : {A B : Type 0} {f : Field A} {g : Field B} → IsField f → IsField g → IsField (pair f g)
is_pair {A} {B} {f} {g} is is' = record {
  takes = λ bytes x rest fits e.
      read_then is bytes fits _ _ e (λ a after t fits' e'.
      read_then is' after fits' _ _ e' (λ b end t' fits'' e''.
      returned (pair f g) bytes e'' (joined bytes (f.spell a) after (g.spell b) end t.0 t'.0, (t.1, t'.1))));
  again = λ x rest fits. ap (pair_at f.read g.read) (append_assoc (f.spell x.0) (g.spell x.1) rest) ∙ rw (is.again x.0 (g.spell x.1 ++ rest) fits.0, is'.again x.1 rest fits.1) refl;
  bytes = λ x fits. both (f.spell x.0) (g.spell x.1) (is.bytes x.0 fits.0) (is'.bytes x.1 fits.1);
}

-- a field that passes a test
abbrev pub passing : {A : Type 0} → (A → Bool) → Field A → Field A
passing test f = record { read = passing_at test f.read; spell = f.spell; Fits = λ x. f.Fits x × (test x ≡ true) }

pub is_passing : {A : Type 0} (test : A → Bool) {f : Field A} → IsField f → IsField (passing test f)
is_passing {A} test {f} is = record {
  takes = λ bytes x rest fits e.
      read_then is bytes fits _ _ e (λ a after t fits' e'.
      let g = guard_then (test a) (Some (a, after)) (x, rest) e' in
      returned (passing test f) bytes g.1 (t.0, (t.1, g.0)));
  again = λ x rest fits. rw (is.again x rest fits.0, fits.1) refl;
  bytes = λ x fits. is.bytes x fits.0;
}

-- n fields
abbrev pub times : {A : Type 0} → ℕ → Field A → Field (List A)
times n f = record { read = times_at n f.read; spell = flat_map f.spell; Fits = λ xs. (length xs ≡ n) × AllByRecursion f.Fits xs }

module _ {A : Type 0} (f : Field A) (is : IsField f) where
  times_takes : (n : ℕ) (bytes : List ℕ) (xs : List A) (rest : List ℕ) → AreBytes bytes → times_at n f.read bytes ≡ Some (xs, rest) → Taken (times n f) bytes xs rest
  times_takes zero bytes xs rest fits e = returned (times zero f) bytes e (refl, (refl, tt))
  times_takes (suc n) bytes xs rest fits e =
      read_then is bytes fits _ _ e (λ x after t fits' e'.
      bind_then (times_at n f.read after) _ (xs, rest) e' (λ u read e''.
      let more = times_takes n after u.0 u.1 fits' read in
      returned (times (suc n) f) bytes e'' (joined bytes (f.spell x) after (flat_map f.spell u.0) u.1 t.0 more.0, (ap suc more.1.0, (t.1, more.1.1)))))

  times_again : (n : ℕ) (xs : List A) (rest : List ℕ) → (length xs ≡ n) × AllByRecursion f.Fits xs → times_at n f.read (flat_map f.spell xs ++ rest) ≡ Some (xs, rest)
  times_again zero [] rest fits = refl
  times_again zero (x ∷ xs) rest fits = absurd (omega (arith, fits.0))
  times_again (suc n) [] rest fits = absurd (omega (arith, fits.0))
  times_again (suc n) (x ∷ xs) rest fits =
      let len : length xs ≡ n = omega (arith, fits.0) in
      ap (times_at (suc n) f.read) (append_assoc (f.spell x) (flat_map f.spell xs) rest) ∙ rw (is.again x (flat_map f.spell xs ++ rest) fits.1.0, times_again n xs rest (len, fits.1.1)) refl

  times_bytes : (xs : List A) → AllByRecursion f.Fits xs → IsBytes (flat_map f.spell xs)
  times_bytes [] fits = All-nil Small
  times_bytes (x ∷ xs) fits = both (f.spell x) (flat_map f.spell xs) (is.bytes x fits.0) (times_bytes xs fits.1)

pub is_times : {A : Type 0} (n : ℕ) {f : Field A} → IsField f → IsField (times n f)
is_times n {f} is = record { takes = times_takes f is n; again = times_again f is n; bytes = λ xs fits. times_bytes f is xs fits.1 }

-- at most so many, with their number before them
pub is_counted : {A : Type 0} (most : ℕ) {number : Field ℕ} {f : Field A} → ((n : ℕ) → n ≤ most → number.Fits n) → IsField number → IsField f → IsField (counted number most f)
unfolding counted_at
is_counted {A} most {number} {f} small is_number is =
    let count = is_passing (λ n. nat_le n most) is_number in
    record {
      takes = λ bytes xs rest fits e.
          read_then count bytes fits _ _ e (λ n after t fits' e'.
          let more = times_takes f is n after xs rest fits' e' in
          let len : n ≡ length xs = sym more.1.0 in
          let passed : nat_le n most ≡ true = t.1.1 in (
            subst (λ m. bytes ≡ (number.spell m ++ flat_map f.spell xs) ++ rest) len (joined bytes (number.spell n) after (flat_map f.spell xs) rest t.0 more.0),
            record { few = grind (arith, nat_tests, passed, len); each = more.1.1 },
          ));
      again = λ xs rest fits.
          let few : length xs ≤ most = fits.few in
          let passes : nat_le (length xs) most ≡ true = grind (arith, nat_tests, few) in
          ap (counted_at number.read most f.read) (append_assoc (number.spell (length xs)) (flat_map f.spell xs) rest)
          ∙ ap (λ (o : Option (ℕ × List ℕ)). o >>= λ n. times_at n.0 f.read n.1) (count.again (length xs) (flat_map f.spell xs ++ rest) (small (length xs) few, passes))
          ∙ times_again f is (length xs) xs rest (refl, fits.each);
      bytes = λ xs fits. both (number.spell (length xs)) (flat_map f.spell xs) (is_number.bytes (length xs) (small (length xs) fits.few)) (times_bytes f is xs fits.each);
    }

-- two types of values, each made of the other within its bounds
pub record AreMade {A B : Type 0} (make : A → B) (parts : B → A) (F : A → Type 0) (G : B → Type 0) : Type 0 where
  pub back : (x : A) → F x → parts (make x) ≡ x
  pub forth : (y : B) → G y → make (parts y) ≡ y
  pub to : (x : A) → F x → G (make x)
  pub from : (y : B) → G y → F (parts y)

-- what is made of a field's value
pub is_made : {A B : Type 0} (make : A → B) (parts : B → A) (G : B → Type 0) {f : Field A} → AreMade make parts f.Fits G → IsField f → IsField (made make parts G f)
is_made {A} {B} make parts G {f} are is = record {
  takes = λ bytes y rest fits e.
      read_then is bytes fits _ _ e (λ x after t fits' e'.
      returned (made make parts G f) bytes e' (t.0 ∙ ap (λ (z : A). f.spell z ++ after) (sym (are.back x t.1)), are.to x t.1));
  again = λ y rest fits. ap (λ (o : Option (A × List ℕ)). o >>= λ x. Some (make x.0, x.1)) (is.again (parts y) rest (are.from y fits)) ∙ ap (λ (z : B). Some (z, rest)) (are.forth y fits);
  bytes = λ y fits. is.bytes (parts y) (are.from y fits);
}

-- what is spelled is read again as what is made of it, whatever follows, and is bytes
pub made_again : {A B : Type 0} {f : Field A} (make : A → B) → IsField f → (x : A) → f.Fits x → ((rest : List ℕ) → made_at make f.read (f.spell x ++ rest) ≡ Some (make x, rest)) × IsBytes (f.spell x)
made_again make is x fits = (λ rest. rw (is.again x rest fits) refl, is.bytes x fits)

-- what is read of all of the bytes
pub all_read : {A : Type 0} (read : List ℕ → Option (A × List ℕ)) (bytes : List ℕ) (x : A) → all_at read bytes ≡ Some x → read bytes ≡ Some (x, [])
all_read {A} read bytes x e =
    bind_then (read bytes) (λ u. cond (length u.1 == 0) (Some u.0) None) x e (λ u at is.
    let g = guard_then (length u.1 == 0) (Some u.0) x is in
    let empty : u.1 ≡ [] = nil_from_length u.1 (grind (arith, nat_tests)) in
    let same : u.0 ≡ x = cc (g.1) in
    at ∙ ap (λ (r : List ℕ). Some (u.0, r)) empty ∙ ap (λ (y : A). Some (y, [])) same)

pub all_again : {A : Type 0} (read : List ℕ → Option (A × List ℕ)) (spelled : List ℕ) (x : A) → ((rest : List ℕ) → read (spelled ++ rest) ≡ Some (x, rest)) → all_at read spelled ≡ Some x
all_again read spelled x again = ap (all_at read) (sym (append-nil spelled)) ∙ rw (again []) refl

-- ---- bytes and numbers

pub is_nothing : IsField nothing
is_nothing = record { takes = λ bytes x rest fits e. returned nothing bytes e (refl, tt); again = λ x rest fits. refl; bytes = λ x fits. All-nil Small }

pub is_u8 : IsField u8
is_u8 = record { takes = takes; again = λ b rest fits. refl; bytes = λ b fits. one b [] fits (All-nil Small) }
  where
    takes : (bytes : List ℕ) (b : ℕ) (rest : List ℕ) → AreBytes bytes → byte_at bytes ≡ Some (b, rest) → Taken u8 bytes b rest
    takes [] b rest fits e = absurd cc
    takes (x ∷ xs) b rest fits e = returned u8 (x ∷ xs) e (refl, fits 0)

flag_byte : (b : ℕ) (holds : Bool) → flag_of_byte b ≡ Some holds → b ∷ [] ≡ flag holds
flag_byte b holds e =
    elim (chosen (b == 0) (Some false) (cond (b == 1) (Some true) None) (Some holds) e) [
      | inl t ↦ let same : false ≡ holds = cc (t.1) in rw (← same, eqb-true b 0 t.0) refl
      | inr f ↦
          let g = guard_then (b == 1) (Some true) holds f.1 in
          let same : true ≡ holds = cc (g.1) in rw (← same, eqb-true b 1 g.0) refl
    ]

flag_takes : (bytes : List ℕ) (holds : Bool) (rest : List ℕ) → AreBytes bytes → flag_at bytes ≡ Some (holds, rest) → Taken bool bytes holds rest
flag_takes bytes holds rest fits e =
    read_then is_u8 bytes fits _ _ e (λ b after t fits' e'.
    bind_then (flag_of_byte b) _ (holds, rest) e' (λ flag_is is e''.
    returned bool bytes e'' (t.0 ∙ ap (λ (s : List ℕ). s ++ after) (flag_byte b flag_is is), tt)))

flag_again : (holds : Bool) (rest : List ℕ) → flag_at (flag holds ++ rest) ≡ Some (holds, rest)
flag_again false rest = refl
flag_again true rest = refl

pub is_bool : IsField bool
is_bool = record { takes = flag_takes; again = λ holds rest fits. flag_again holds rest; bytes = λ holds fits. a_flag holds }

record IsWide (w : Width) (limit : ℕ) : Type 0 where
  pub len : (n : ℕ) → length (to_be_bytes w n) ≡ byte_len w
  pub back : (bytes : List ℕ) → length bytes ≡ byte_len w → AreBytes bytes → to_be_bytes w (from_be_bytes w bytes) ≡ bytes
  pub again : (n : ℕ) → n < limit → from_be_bytes w (to_be_bytes w n) ≡ n
  pub below : (bytes : List ℕ) → AreBytes bytes → from_be_bytes w bytes < limit
  pub bytes : (n : ℕ) → IsBytes (to_be_bytes w n)

wide16 : IsWide w16 (2 ^ 16)
wide16 = record {
  len = λ n. refl;
  back = λ bytes len fits. be_bytes_2 bytes _ len fits refl;
  again = λ n lt. from_be_bytes-to_be_bytes_2 n lt;
  below = λ bytes fits. omega (arith, fits 0, fits 1);
  bytes = two;
}

wide32 : IsWide w32 (2 ^ 32)
wide32 = record {
  len = λ n. refl;
  back = λ bytes len fits. be_bytes_4 bytes _ len fits refl;
  again = λ n lt. from_be_bytes-to_be_bytes_4 n lt;
  below = λ bytes fits. omega (arith, fits 0, fits 1, fits 2, fits 3);
  bytes = word;
}

wide64 : IsWide w64 (2 ^ 64)
wide64 = record {
  len = λ n. refl;
  back = λ bytes len fits. be_bytes_8 bytes _ len fits refl;
  again = λ n lt. from_be_bytes-to_be_bytes_8 n lt;
  below = λ bytes fits. omega (arith, fits 0, fits 1, fits 2, fits 3, fits 4, fits 5, fits 6, fits 7);
  bytes = long;
}

number_takes : (w : Width) (limit : ℕ) (wide : IsWide w limit) (bytes : List ℕ) (n : ℕ) (rest : List ℕ) → AreBytes bytes → number_at w bytes ≡ Some (n, rest) → Taken (number w limit) bytes n rest
number_takes w limit wide bytes n rest fits e =
    let g = guard_else (nat_lt (length bytes) (byte_len w)) (from_be_bytes w (take (byte_len w) bytes), drop (byte_len w) bytes) (n, rest) e in
    let long : byte_len w ≤ length bytes = ltb-false _ _ g.0 in
    let n-is : from_be_bytes w (take (byte_len w) bytes) ≡ n = ap (λ (p : ℕ × List ℕ). p.0) g.1 in
    let rest-is : drop (byte_len w) bytes ≡ rest = ap (λ (p : ℕ × List ℕ). p.1) g.1 in
    let front : to_be_bytes w n ≡ take (byte_len w) bytes = rw (← n-is) (wide.back (take (byte_len w) bytes) (omega (arith, length-take (byte_len w) bytes)) (AreBytes-take (byte_len w) bytes fits)) in
    (rw (front, ← rest-is) (sym (take-append-drop (byte_len w) bytes)), rw (← n-is) (wide.below (take (byte_len w) bytes) (AreBytes-take (byte_len w) bytes fits)))

number_again : (w : Width) (limit : ℕ) (wide : IsWide w limit) (n : ℕ) (rest : List ℕ) → n < limit → number_at w (to_be_bytes w n ++ rest) ≡ Some (n, rest)
number_again w limit wide n rest lt =
    let len = wide.len n in
    let long : nat_lt (length (to_be_bytes w n ++ rest)) (byte_len w) ≡ false = le-ltb _ _ (omega (arith, length-append (to_be_bytes w n) rest)) in
    rw (long, take_at (to_be_bytes w n) rest (byte_len w) len, drop_at (to_be_bytes w n) rest (byte_len w) len, wide.again n lt) refl

is_number : (w : Width) (limit : ℕ) → IsWide w limit → IsField (number w limit)
is_number w limit wide = record { takes = number_takes w limit wide; again = number_again w limit wide; bytes = λ n fits. wide.bytes n }

pub is_u16 : IsField u16
is_u16 = is_number w16 (2 ^ 16) wide16

pub is_u32 : IsField u32
is_u32 = is_number w32 (2 ^ 32) wide32

pub is_u64 : IsField u64
is_u64 = is_number w64 (2 ^ 64) wide64

-- ---- texts

text_takes : (bytes t rest : List ℕ) → AreBytes bytes → text_at bytes ≡ Some (t, rest) → bytes ≡ text t ++ rest
text_takes [] t rest fits e = absurd cc
text_takes (b ∷ bytes) t rest fits e =
    let g = guard_else (nat_lt (length bytes) b) (take b bytes, drop b bytes) (t, rest) e in
    let long : b ≤ length bytes = ltb-false _ _ g.0 in
    let len : length (take b bytes) ≡ b = omega (arith, length-take b bytes) in
    let whole : b ∷ bytes ≡ text (take b bytes) ++ drop b bytes = rw len (ap (λ (r : List ℕ). b ∷ r) (sym (take-append-drop b bytes))) in
    subst (λ (p : List ℕ × List ℕ). b ∷ bytes ≡ text p.0 ++ p.1) g.1 whole

text_again : (t rest : List ℕ) → text_at (text t ++ rest) ≡ Some (t, rest)
text_again t rest =
    let long : nat_lt (length (t ++ rest)) (length t) ≡ false = le-ltb _ _ (omega (arith, length-append t rest)) in
    rw (long, take_at t rest (length t) refl, drop_at t rest (length t) refl) refl

-- a text that passes a test, where what passes is short
pub is_text_that : (test : List ℕ → Bool) → ((t : List ℕ) → test t ≡ true → IsBytes (text t)) → IsField (text_that test)
is_text_that test short = record {
  takes = λ bytes t rest fits e.
      bind_then (text_at bytes) _ (t, rest) e (λ u read e'.
      let g = guard_then (test u.0) (Some u) (t, rest) e' in
      returned (text_that test) bytes g.1 (text_takes bytes u.0 u.1 fits read, g.0));
  again = λ t rest fits. rw (text_again t rest, fits) refl;
  bytes = short;
}

-- ---- amounts

abbrev FitsAmount : ℕ → ℕ → Type 0
FitsAmount bound n = (n < 2 ^ 64) × (nat_le n bound ≡ true)

each_within : (bound : ℕ) → bound < 2 ^ 64 → (v : List ℕ) → ((i : ℕ) → get_or v i 0 ≤ bound) → AllByRecursion (FitsAmount bound) v
each_within bound small [] h = tt
each_within bound small (x ∷ v) h = let first = h 0 in ((omega arith, grind (arith, nat_tests)), each_within bound small v (λ i. h (suc i)))

-- n amounts, each within its bound
abbrev Few : ℕ → ℕ → List ℕ → Type 0
Few n bound v = (length v ≡ n) × AllByRecursion (FitsAmount bound) v

-- the first n of a vector
few_of : (k n bound : ℕ) → n ≤ k → bound < 2 ^ 64 → (v : List ℕ) → IsVector k bound v → Few n bound (take n v)
few_of k n bound le small v is =
    let count = is.count in (
      omega (arith, length-take n v, count, le),
      each_within bound small (take n v) (λ i. elim (cases_lt i n) [
        | inl lt ↦ rw (get_or-take n v i 0 lt) (is.within i)
        | inr past ↦ rw (get_or_past (take n v) i 0 (omega (arith, length-take n v, past))) (omega arith)
      ]),
    )

pub zeros_within : (bound m i : ℕ) → get_or (zeros m) i 0 ≤ bound
zeros_within bound zero i = omega arith
zeros_within bound (suc m) zero = omega arith
zeros_within bound (suc m) (suc i) = zeros_within bound m i

padded_within : (bound m : ℕ) (v : List ℕ) → AllByRecursion (FitsAmount bound) v → (i : ℕ) → get_or (v ++ zeros m) i 0 ≤ bound
padded_within bound m [] each i = zeros_within bound m i
padded_within bound m (x ∷ v) each zero = let h = each.0.1 in grind (arith, nat_tests)
padded_within bound m (x ∷ v) each (suc i) = padded_within bound m v each.1 i

-- amounts with 0 in place of the others
padded : (k n bound : ℕ) → n ≤ k → (v : List ℕ) → Few n bound v → IsShownVector k n bound (v ++ zeros (k - n))
padded k n bound le v few =
    let len = few.0 in
    let count : length (v ++ zeros (k - n)) ≡ k = omega (arith, length-append v (zeros (k - n)), length-replicate {A = ℕ} (k - n) 0, len, le) in
    record {
      vector = record { count = count; within = padded_within bound (k - n) v few.1 };
      is_shown = rw (take_at v (zeros (k - n)) n len, count) refl;
    }

-- a vector of k amounts, as it is shown
pub shown_is_vector : (k n bound : ℕ) → n ≤ k → bound < 2 ^ 64 → (v : List ℕ) → IsVector k bound v → IsShownVector k n bound (shown_amounts n v)
shown_is_vector k n bound le small v is =
    subst (λ m. IsShownVector k n bound (take n v ++ zeros (m - n))) (sym is.count) (padded k n bound le (take n v) (few_of k n bound le small v is))

pub is_vector : (k n bound : ℕ) → n ≤ k → bound < 2 ^ 64 → IsField (vector k n bound)
unfolding amounts_at amount_at resource
is_vector k n bound le small =
    is_made (λ v. v ++ zeros (k - n)) (take n) (IsShownVector k n bound)
    (record {
      back = λ v few. take_at v (zeros (k - n)) n few.0;
      forth = λ v is. subst (λ m. take n v ++ zeros (m - n) ≡ v) is.vector.count is.is_shown;
      to = padded k n bound le;
      from = λ v is. few_of k n bound le small v is.vector;
    })
    (is_times n (is_passing (λ n. nat_le n bound) is_u64))
