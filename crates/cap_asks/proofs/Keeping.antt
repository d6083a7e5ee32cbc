-- Asks in order of key: what putting one and counting one down do.
use Rattle.cap_asks.proofs.Prelude.{◌≡◌, ℕ, zero, suc, ◌+◌, ◌-◌, ◌≤◌, ◌<◌, Bool, true, false, cond, List, [], ◌∷◌, length, take, refl, sym, ◌∙◌, ap, arith, add-one, length-set, Some, None, is_some, not, ◌&&◌, ◌||◌, ◌==◌, insert, remove, slice_set, slice_index_or, if◌then◌else◌, nat_lt, nat_eq, fold, fold_more, common_steps, nat_tests, Key, same_key, Ask, ask_at, without_key, with_ask, put_ask, take_one, same_key_is, same_key_itself, put_is_found, others_are_found, one_less, not_same_other, first_is, is_before, AreAfter, AreKept, IsKeyIndex, index_of, key_slot, keys_max, All, All-head, All-more, All-tail, All-weaker, get_or-set_other, get_or-set_same, subst}
use mir.Val.{bool_byte}

-- the order of keys in numbers
before_numbers : (a b : Key) → is_before a b ≡ (nat_lt a.priority b.priority || nat_eq a.priority b.priority && nat_lt a.request b.request)
before_numbers a b = grind (arith, common_steps)

pub before_not_same : (a b : Key) → is_before a b ≡ true → same_key a b ≡ false
before_not_same a b h = let e = sym (before_numbers a b) ∙ h in grind (arith, nat_tests, e)

pub before_one_way : (a b : Key) → is_before a b ≡ true → is_before b a ≡ false
before_one_way a b h = let e = sym (before_numbers a b) ∙ h in before_numbers b a ∙ grind (arith, nat_tests, e)

pub one_before : (a b : Key) → is_before a b ≡ false → same_key a b ≡ false → is_before b a ≡ true
one_before a b h g = let e = sym (before_numbers a b) ∙ h in before_numbers b a ∙ grind (arith, nat_tests, e, g)

pub before_through : (a b c : Key) → is_before a b ≡ true → is_before b c ≡ true → is_before a c ≡ true
before_through a b c h g = let e = sym (before_numbers a b) ∙ h in let f = sym (before_numbers b c) ∙ g in before_numbers a c ∙ grind (arith, nat_tests, e, f)

not_same_back : (a b : Key) → is_before a b ≡ true → same_key b a ≡ false
not_same_back a b h = let e = sym (before_numbers a b) ∙ h in grind (arith, nat_tests, e)

-- asks after a key: it is none of theirs, and its ask goes first
after_absent : (key : Key) (xs : List Ask) → AreAfter key xs → ask_at key xs ≡ None
after_absent key [] h = refl
after_absent key (x ∷ xs) h = ap (λ b. cond b (Some x) (ask_at key xs)) (not_same_back key x.key h.0) ∙ after_absent key xs h.1

after_without : (key : Key) (xs : List Ask) → AreAfter key xs → without_key key xs ≡ xs
after_without key [] h = refl
after_without key (x ∷ xs) h = ap (λ b. cond (not b) (x ∷ without_key key xs) (without_key key xs)) (not_same_back key x.key h.0) ∙ ap (λ ys. x ∷ ys) (after_without key xs h.1)

after_with : (ask : Ask) (xs : List Ask) → AreAfter ask.key xs → with_ask ask xs ≡ ask ∷ xs
after_with ask [] h = refl
after_with ask (x ∷ xs) h = ap (λ b. cond b (ask ∷ x ∷ xs) (x ∷ with_ask ask xs)) h.0

after_more : (a b : Key) (xs : List Ask) → is_before a b ≡ true → AreAfter b xs → AreAfter a xs
after_more a b [] e h = tt
after_more a b (x ∷ xs) e h = (before_through a b x.key e h.0, after_more a b xs e h.1)

after_same : (a b : Key) (xs : List Ask) → same_key a b ≡ true → AreAfter a xs → AreAfter b xs
after_same a b xs e h = rw (← same_key_is a b e) h

-- what happens where an ask has the key
pub record IsFound (ask : Ask) (xs : List Ask) : Type 0 where
  pub below : index_of ask.key xs < length xs
  pub taken : without_key ask.key xs ≡ remove xs (index_of ask.key xs)
  pub put : with_ask ask (without_key ask.key xs) ≡ slice_set xs (index_of ask.key xs) ask

-- and where none has
pub record IsMissing (ask : Ask) (xs : List Ask) : Type 0 where
  pub within : index_of ask.key xs ≤ length xs
  pub same : without_key ask.key xs ≡ xs
  pub put : with_ask ask (without_key ask.key xs) ≡ insert xs (index_of ask.key xs) ask

later_index : (ask x : Ask) (xs : List Ask) → is_before x.key ask.key ≡ true → index_of ask.key (x ∷ xs) ≡ suc (index_of ask.key xs)
later_index ask x xs e = ap (λ b. cond b (index_of ask.key xs + 1) 0) e ∙ add-one (index_of ask.key xs)

here_index : (ask x : Ask) (xs : List Ask) → is_before x.key ask.key ≡ false → index_of ask.key (x ∷ xs) ≡ 0
here_index ask x xs e = ap (λ b. cond b (index_of ask.key xs + 1) 0) e

without_later : (ask x : Ask) (xs : List Ask) → same_key x.key ask.key ≡ false → without_key ask.key (x ∷ xs) ≡ x ∷ without_key ask.key xs
without_later ask x xs e = ap (λ b. cond (not b) (x ∷ without_key ask.key xs) (without_key ask.key xs)) e

with_later : (ask x : Ask) (xs : List Ask) → is_before x.key ask.key ≡ true → with_ask ask (x ∷ xs) ≡ x ∷ with_ask ask xs
with_later ask x xs e = ap (λ b. cond b (ask ∷ x ∷ xs) (x ∷ with_ask ask xs)) (before_one_way x.key ask.key e)

pub found : (ask : Ask) (xs : List Ask) → AreKept xs → is_some (ask_at ask.key xs) ≡ true → IsFound ask xs
found ask [] k h = absurd (cc h)
found ask (x ∷ xs) k h = by (is_before x.key ask.key) (same_key x.key ask.key) refl refl (found ask xs k.2)
  where
    by : (b s : Bool) → is_before x.key ask.key ≡ b → same_key x.key ask.key ≡ s → (is_some (ask_at ask.key xs) ≡ true → IsFound ask xs) → IsFound ask (x ∷ xs)
    by true s e f rec =
        let n = before_not_same x.key ask.key e in
        let r = rec (sym (ap (λ b. is_some (cond b (Some x) (ask_at ask.key xs))) n) ∙ h) in
        let index = later_index ask x xs e in
        let without = without_later ask x xs n in
        let below = r.below in
        record {
          below = omega (arith, index, below);
          taken = without ∙ ap (λ ys. x ∷ ys) r.taken ∙ sym (ap (λ i. remove (x ∷ xs) i) index);
          put = ap (with_ask ask) without ∙ with_later ask x (without_key ask.key xs) e ∙ ap (λ ys. x ∷ ys) r.put ∙ sym (ap (λ i. slice_set (x ∷ xs) i ask) index);
        }
    by false true e f rec =
        let after = after_same x.key ask.key xs f k.1 in
        let index = here_index ask x xs e in
        let without : without_key ask.key (x ∷ xs) ≡ xs = ap (λ b. cond (not b) (x ∷ without_key ask.key xs) (without_key ask.key xs)) f ∙ after_without ask.key xs after in
        record {
          below = omega (arith, index);
          taken = without ∙ sym (ap (λ i. remove (x ∷ xs) i) index);
          put = ap (with_ask ask) without ∙ after_with ask xs after ∙ sym (ap (λ i. slice_set (x ∷ xs) i ask) index);
        }
    by false false e f rec =
        let b = one_before x.key ask.key e f in
        let none = after_absent ask.key (x ∷ xs) (b, after_more ask.key x.key xs b k.1) in
        absurd (cc (sym (ap is_some none) ∙ h))

pub missing : (ask : Ask) (xs : List Ask) → AreKept xs → is_some (ask_at ask.key xs) ≡ false → IsMissing ask xs
missing ask [] k h = record { within = omega arith; same = refl; put = refl }
missing ask (x ∷ xs) k h = by (is_before x.key ask.key) (same_key x.key ask.key) refl refl (missing ask xs k.2)
  where
    by : (b s : Bool) → is_before x.key ask.key ≡ b → same_key x.key ask.key ≡ s → (is_some (ask_at ask.key xs) ≡ false → IsMissing ask xs) → IsMissing ask (x ∷ xs)
    by true s e f rec =
        let n = before_not_same x.key ask.key e in
        let r = rec (sym (ap (λ b. is_some (cond b (Some x) (ask_at ask.key xs))) n) ∙ h) in
        let index = later_index ask x xs e in
        let without = without_later ask x xs n in
        let within = r.within in
        record {
          within = omega (arith, index, within);
          same = without ∙ ap (λ ys. x ∷ ys) r.same;
          put = ap (with_ask ask) without ∙ with_later ask x (without_key ask.key xs) e ∙ ap (λ ys. x ∷ ys) r.put ∙ sym (ap (λ i. insert (x ∷ xs) i ask) index);
        }
    by false true e f rec = absurd (cc (sym (ap (λ b. is_some (cond b (Some x) (ask_at ask.key xs))) f) ∙ h))
    by false false e f rec =
        let b = one_before x.key ask.key e f in
        let after : AreAfter ask.key (x ∷ xs) = (b, after_more ask.key x.key xs b k.1) in
        let index = here_index ask x xs e in
        let without = after_without ask.key (x ∷ xs) after in
        record {
          within = omega (arith, index);
          same = without;
          put = ap (with_ask ask) without ∙ after_with ask (x ∷ xs) after ∙ sym (ap (λ i. insert (x ∷ xs) i ask) index);
        }

-- putting an ask keeps the order
still_after : (j key : Key) (xs : List Ask) → AreAfter j xs → AreAfter j (without_key key xs)
still_after j key [] h = tt
still_after j key (x ∷ xs) h = by (same_key x.key key) (still_after j key xs h.1)
  where
    by : (b : Bool) → AreAfter j (without_key key xs) → AreAfter j (cond (not b) (x ∷ without_key key xs) (without_key key xs))
    by true r = r
    by false r = (h.0, r)

kept_without : (key : Key) (xs : List Ask) → AreKept xs → AreKept (without_key key xs)
kept_without key [] k = tt
kept_without key (x ∷ xs) k = by (same_key x.key key) (kept_without key xs k.2)
  where
    by : (b : Bool) → AreKept (without_key key xs) → AreKept (cond (not b) (x ∷ without_key key xs) (without_key key xs))
    by true r = r
    by false r = (k.0, still_after x.key key xs k.1, r)

with_after : (j : Key) (ask : Ask) (xs : List Ask) → is_before j ask.key ≡ true → AreAfter j xs → AreAfter j (with_ask ask xs)
with_after j ask [] e h = (e, tt)
with_after j ask (x ∷ xs) e h = by (is_before ask.key x.key) (with_after j ask xs e h.1)
  where
    by : (b : Bool) → AreAfter j (with_ask ask xs) → AreAfter j (cond b (ask ∷ x ∷ xs) (x ∷ with_ask ask xs))
    by true r = (e, (h.0, h.1))
    by false r = (h.0, r)

gone : (key : Key) (xs : List Ask) → ask_at key (without_key key xs) ≡ None
gone key [] = refl
gone key (x ∷ xs) = by (same_key x.key key) refl (gone key xs)
  where
    by : (b : Bool) → same_key x.key key ≡ b → ask_at key (without_key key xs) ≡ None → ask_at key (cond (not b) (x ∷ without_key key xs) (without_key key xs)) ≡ None
    by true e r = r
    by false e r = ap (λ b. cond b (Some x) (ask_at key (without_key key xs))) e ∙ r

kept_with : (ask : Ask) (xs : List Ask) → 1 ≤ ask.count → AreKept xs → ask_at ask.key xs ≡ None → AreKept (with_ask ask xs)
kept_with ask [] c k h = (c, tt, tt)
kept_with ask (x ∷ xs) c k h = by (is_before ask.key x.key) (same_key x.key ask.key) refl refl (kept_with ask xs c k.2)
  where
    by : (b s : Bool) → is_before ask.key x.key ≡ b → same_key x.key ask.key ≡ s → (ask_at ask.key xs ≡ None → AreKept (with_ask ask xs)) → AreKept (cond b (ask ∷ x ∷ xs) (x ∷ with_ask ask xs))
    by true s e f rec = (c, (e, after_more ask.key x.key xs e k.1), k)
    by false true e f rec = absurd (cc (sym (ap (λ b. cond b (Some x) (ask_at ask.key xs)) f) ∙ h))
    by false false e f rec =
        let b = one_before ask.key x.key e (not_same_other x.key ask.key f) in
        (k.0, with_after x.key ask xs b k.1, rec (sym (ap (λ b. cond b (Some x) (ask_at ask.key xs)) f) ∙ h))

pub kept_put : (ask : Ask) (xs : List Ask) → AreKept xs → AreKept (put_ask ask xs)
kept_put ask xs k = by (ask.count == 0) refl
  where
    by : (b : Bool) → ask.count == 0 ≡ b → AreKept (cond b (without_key ask.key xs) (with_ask ask (without_key ask.key xs)))
    by true e = kept_without ask.key xs k
    by false e = kept_with ask (without_key ask.key xs) (grind (arith, nat_tests, e)) (kept_without ask.key xs k) (gone ask.key xs)

-- whether a key stands after an ask
pub put_stands : (key : Key) (ask : Ask) (xs : List Ask) → is_some (ask_at key (put_ask ask xs)) ≡ (if same_key ask.key key then not (ask.count == 0) else is_some (ask_at key xs))
put_stands key ask xs = by (same_key ask.key key) (ask.count == 0) refl refl
  where
    by : (s b : Bool) → same_key ask.key key ≡ s → ask.count == 0 ≡ b → is_some (ask_at key (put_ask ask xs)) ≡ cond s (not b) (is_some (ask_at key xs))
    by true true e f = rw (← same_key_is ask.key key e) (ap (λ b. is_some (ask_at ask.key (cond b (without_key ask.key xs) (with_ask ask (without_key ask.key xs))))) f ∙ ap is_some (gone ask.key xs))
    by true false e f = rw (← same_key_is ask.key key e) (ap is_some (put_is_found ask xs f))
    by false b e f = ap is_some (others_are_found key ask xs e)

-- how many stand after an ask
length_with : (ask : Ask) (xs : List Ask) → length (with_ask ask xs) ≡ length xs + 1
length_with ask [] = refl
length_with ask (x ∷ xs) = by (is_before ask.key x.key) (length_with ask xs)
  where
    by : (b : Bool) → length (with_ask ask xs) ≡ length xs + 1 → length (cond b (ask ∷ x ∷ xs) (x ∷ with_ask ask xs)) ≡ length (x ∷ xs) + 1
    by true r = omega arith
    by false r = omega (arith, r)

-- one less of the asks that stand, where an ask is taken away, and one more, where one is added
pub record IsCounted (ask : Ask) (xs : List Ask) (stood none : Bool) : Type 0 where
  pub gone : stood ≡ true → none ≡ true → length (put_ask ask xs) + 1 ≡ length xs
  pub replaced : stood ≡ true → none ≡ false → length (put_ask ask xs) ≡ length xs
  pub absent : stood ≡ false → none ≡ true → length (put_ask ask xs) ≡ length xs
  pub added : stood ≡ false → none ≡ false → length (put_ask ask xs) ≡ length xs + 1

put_gone : (ask : Ask) (xs : List Ask) → ask.count == 0 ≡ true → put_ask ask xs ≡ without_key ask.key xs
put_gone ask xs e = ap (λ b. cond b (without_key ask.key xs) (with_ask ask (without_key ask.key xs))) e

put_there : (ask : Ask) (xs : List Ask) → ask.count == 0 ≡ false → put_ask ask xs ≡ with_ask ask (without_key ask.key xs)
put_there ask xs e = ap (λ b. cond b (without_key ask.key xs) (with_ask ask (without_key ask.key xs))) e

one_gone : (ask : Ask) (xs : List Ask) → AreKept xs → is_some (ask_at ask.key xs) ≡ true → length (without_key ask.key xs) + 1 ≡ length xs
one_gone ask xs k h = sym (length_with ask (without_key ask.key xs)) ∙ ap length (found ask xs k h).put ∙ length-set xs (index_of ask.key xs) ask

pub counted : (ask : Ask) (xs : List Ask) → AreKept xs → IsCounted ask xs (is_some (ask_at ask.key xs)) (ask.count == 0)
counted ask xs k = record {
  gone = λ h e. ap (λ ys. length ys + 1) (put_gone ask xs e) ∙ one_gone ask xs k h;
  replaced = λ h e. ap length (put_there ask xs e) ∙ length_with ask (without_key ask.key xs) ∙ one_gone ask xs k h;
  absent = λ h e. ap length (put_gone ask xs e) ∙ ap length (missing ask xs k h).same;
  added = λ h e. ap length (put_there ask xs e) ∙ length_with ask (without_key ask.key xs) ∙ ap (λ ys. length ys + 1) (missing ask xs k h).same;
}

pub few_one : (ask : Ask) (xs : List Ask) → AreKept xs → length (put_ask ask xs) ≤ length xs + 1
few_one ask xs k = by (is_some (ask_at ask.key xs)) (ask.count == 0) refl refl (counted ask xs k)
  where
    by : (b s : Bool) → is_some (ask_at ask.key xs) ≡ b → ask.count == 0 ≡ s → IsCounted ask xs (is_some (ask_at ask.key xs)) (ask.count == 0) → length (put_ask ask xs) ≤ length xs + 1
    by true true h e c = let f = c.gone h e in omega (arith, f)
    by true false h e c = let f = c.replaced h e in omega (arith, f)
    by false true h e c = let f = c.absent h e in omega (arith, f)
    by false false h e c = let f = c.added h e in omega (arith, f)

-- the asks after several
abbrev pub put_all : List Ask → List Ask → List Ask
put_all kept asks = fold (λ old ask. put_ask ask old) kept asks

pub kept_all : (kept asks : List Ask) → AreKept kept → AreKept (put_all kept asks)
kept_all kept [] k = k
kept_all kept (ask ∷ asks) k = kept_all (put_ask ask kept) asks (kept_put ask kept k)

one_stays : (key : Key) (x : Ask) (xs : List Ask) → 1 ≤ x.count → same_key x.key key ≡ false → take_one key (x ∷ xs) ≡ x ∷ take_one key xs
one_stays key x xs c e =
    let none : x.count == 0 ≡ false = grind (arith, nat_tests, c) in
    ap (λ b. cond (not ((cond b (one_less x) x).count == 0)) (cond b (one_less x) x ∷ take_one key xs) (take_one key xs)) e
    ∙ ap (λ b. cond (not b) (x ∷ take_one key xs) (take_one key xs)) none

pub none_taken : (key : Key) (xs : List Ask) → AreKept xs → is_some (ask_at key xs) ≡ false → take_one key xs ≡ xs
none_taken key [] k h = refl
none_taken key (x ∷ xs) k h = by (same_key x.key key) refl (none_taken key xs k.2)
  where
    by : (b : Bool) → same_key x.key key ≡ b → (is_some (ask_at key xs) ≡ false → take_one key xs ≡ xs) → take_one key (x ∷ xs) ≡ x ∷ xs
    by true e rec = absurd (cc (sym (ap (λ b. is_some (cond b (Some x) (ask_at key xs))) e) ∙ h))
    by false e rec = one_stays key x xs k.0 e ∙ ap (λ ys. x ∷ ys) (rec (sym (ap (λ b. is_some (cond b (Some x) (ask_at key xs))) e) ∙ h))

found_same : (key : Key) (ask : Ask) (xs : List Ask) → ask_at key xs ≡ Some ask → same_key ask.key key ≡ true
found_same key ask [] h = absurd (cc h)
found_same key ask (x ∷ xs) h = by (same_key x.key key) refl (found_same key ask xs)
  where
    by : (b : Bool) → same_key x.key key ≡ b → (ask_at key xs ≡ Some ask → same_key ask.key key ≡ true) → same_key ask.key key ≡ true
    by true e rec = rw (← first_is (same_key x.key key) x ask (ask_at key xs) e h) e
    by false e rec = rec (sym (ap (λ b. cond b (Some x) (ask_at key xs)) e) ∙ h)

put_later : (ask x : Ask) (xs : List Ask) → is_before x.key ask.key ≡ true → put_ask ask (x ∷ xs) ≡ x ∷ put_ask ask xs
put_later ask x xs e = by (ask.count == 0)
  where
    same : same_key x.key ask.key ≡ false
    same = before_not_same x.key ask.key e

    by : (b : Bool) → cond b (without_key ask.key (x ∷ xs)) (with_ask ask (without_key ask.key (x ∷ xs))) ≡ x ∷ cond b (without_key ask.key xs) (with_ask ask (without_key ask.key xs))
    by true = without_later ask x xs same
    by false = ap (with_ask ask) (without_later ask x xs same) ∙ with_later ask x (without_key ask.key xs) e

put_here : (ask x : Ask) (xs : List Ask) → same_key x.key ask.key ≡ true → AreAfter ask.key xs → put_ask ask (x ∷ xs) ≡ cond (ask.count == 0) xs (ask ∷ xs)
put_here ask x xs e h = by (ask.count == 0)
  where
    without : without_key ask.key (x ∷ xs) ≡ xs
    without = ap (λ b. cond (not b) (x ∷ without_key ask.key xs) (without_key ask.key xs)) e ∙ after_without ask.key xs h

    by : (b : Bool) → cond b (without_key ask.key (x ∷ xs)) (with_ask ask (without_key ask.key (x ∷ xs))) ≡ cond b xs (ask ∷ xs)
    by true = without
    by false = ap (with_ask ask) without ∙ after_with ask xs h

turned : {A : Type 0} (b : Bool) (x y : A) → cond (not b) x y ≡ cond b y x
turned true x y = refl
turned false x y = refl

one_taken_here : (key : Key) (x : Ask) (xs : List Ask) → AreKept (x ∷ xs) → same_key x.key key ≡ true → take_one key (x ∷ xs) ≡ put_ask (one_less x) (x ∷ xs)
one_taken_here key x xs k e =
    let after = after_same x.key key xs e k.1 in
    let none = none_taken key xs k.2 (ap is_some (after_absent key xs after)) in
    ap (λ b. cond (not ((cond b (one_less x) x).count == 0)) (cond b (one_less x) x ∷ take_one key xs) (take_one key xs)) e
    ∙ ap (λ ys. cond (not (x.count - 1 == 0)) (one_less x ∷ ys) ys) none
    ∙ turned (x.count - 1 == 0) (one_less x ∷ xs) xs
    ∙ sym (put_here (one_less x) x xs (same_key_itself x.key) k.1)

pub one_taken : (key : Key) (ask : Ask) (xs : List Ask) → AreKept xs → ask_at key xs ≡ Some ask → take_one key xs ≡ put_ask (one_less ask) xs
one_taken key ask [] k h = absurd (cc h)
one_taken key ask (x ∷ xs) k h = by (same_key x.key key) (is_before x.key key) refl refl (one_taken key ask xs k.2)
  where
    by : (s b : Bool) → same_key x.key key ≡ s → is_before x.key key ≡ b → (ask_at key xs ≡ Some ask → take_one key xs ≡ put_ask (one_less ask) xs) → take_one key (x ∷ xs) ≡ put_ask (one_less ask) (x ∷ xs)
    by true b e f rec = one_taken_here key x xs k e ∙ ap (λ a. put_ask (one_less a) (x ∷ xs)) (first_is (same_key x.key key) x ask (ask_at key xs) e h)
    by false true e f rec =
        let there = sym (ap (λ b. cond b (Some x) (ask_at key xs)) e) ∙ h in
        let before : is_before x.key ask.key ≡ true = ap (is_before x.key) (same_key_is ask.key key (found_same key ask xs there)) ∙ f in
        one_stays key x xs k.0 e ∙ ap (λ ys. x ∷ ys) (rec there) ∙ sym (put_later (one_less ask) x xs before)
    by false false e f rec =
        let b = one_before x.key key f e in
        let none = after_absent key (x ∷ xs) (b, after_more key x.key xs b k.1) in
        absurd (cc (sym none ∙ h))

-- where an ask is to be put, whether its key is there, and whether it takes it away
pub record IsPlaced (ask : Ask) (xs : List Ask) (index : ℕ) (stood none : Bool) : Type 0 where
  pub stands : is_some (ask_at ask.key xs) ≡ stood
  pub at : index ≡ index_of ask.key xs
  pub takes : ask.count == 0 ≡ none

pub placed : (ask : Ask) (xs seen : List Ask) (key : Key) (index count : ℕ) (stood none : Bool) → xs ≡ seen → key ≡ ask.key → IsKeyIndex key seen index stood
    → count ≡ ask.count → count == 0 ≡ none → IsPlaced ask xs index stood none
placed ask xs seen key index count stood none same key_is i count_is takes = record {
  stands = ap (λ ys. is_some (ask_at ask.key ys)) same ∙ ap (λ k. is_some (ask_at k seen)) (sym key_is) ∙ i.found;
  at = i.at ∙ ap (λ k. index_of k seen) key_is ∙ ap (index_of ask.key) (sym same);
  takes = ap (λ n. n == 0) (sym count_is) ∙ takes;
}

module _ (ask : Ask) (xs : List Ask) (index : ℕ) (kept : AreKept xs) where
  pub is_within : (none : Bool) → IsPlaced ask xs index true none → index < length xs
  is_within none p = rw p.at ((found ask xs kept p.stands).below)

  pub is_within_end : (none : Bool) → IsPlaced ask xs index false none → index ≤ length xs
  is_within_end none p = rw p.at ((missing ask xs kept p.stands).within)

  pub is_removed : IsPlaced ask xs index true true → remove xs index ≡ put_ask ask xs
  is_removed p = ap (remove xs) p.at ∙ sym (put_gone ask xs p.takes ∙ (found ask xs kept p.stands).taken)

  pub is_replaced : IsPlaced ask xs index true false → slice_set xs index ask ≡ put_ask ask xs
  is_replaced p = ap (λ i. slice_set xs i ask) p.at ∙ sym (put_there ask xs p.takes ∙ (found ask xs kept p.stands).put)

  pub is_absent : IsPlaced ask xs index false true → xs ≡ put_ask ask xs
  is_absent p = sym (put_gone ask xs p.takes ∙ (missing ask xs kept p.stands).same)

  pub is_added : IsPlaced ask xs index false false → insert xs index ask ≡ put_ask ask xs
  is_added p = ap (λ i. insert xs i ask) p.at ∙ sym (put_there ask xs p.takes ∙ (missing ask xs kept p.stands).put)

pub put_as_seen : (ask : Ask) {xs seen : List Ask} → xs ≡ seen → put_ask ask xs ≡ put_ask ask seen
put_as_seen ask e = ap (put_ask ask) e

-- asks after a key, by index
after_at : (key : Key) (xs : List Ask) (j : ℕ) (d : Ask) → AreAfter key xs → j < length xs → is_before key (slice_index_or xs j d).key ≡ true
after_at key [] j d h l = absurd (omega (arith, l))
after_at key (x ∷ xs) zero d h l = h.0
after_at key (x ∷ xs) (suc j) d h l = after_at key xs j d h.1 (omega (arith, l))

-- an ask before a key is before its index, and another is not
pub is_later : (key : Key) (xs : List Ask) (i : ℕ) (d : Ask) → AreKept xs → i < length xs → is_before (slice_index_or xs i d).key key ≡ true → i < index_of key xs
is_later key [] i d k l e = absurd (omega (arith, l))
is_later key (x ∷ xs) zero d k l e = let n = ap (λ b. cond b (index_of key xs + 1) 0) e in omega (arith, n)
is_later key (x ∷ xs) (suc i) d k l e =
    let first = before_through x.key (slice_index_or xs i d).key key (after_at x.key xs i d k.1 (omega (arith, l))) e in
    let n = ap (λ b. cond b (index_of key xs + 1) 0) first in
    let r = is_later key xs i d k.2 (omega (arith, l)) e in
    omega (arith, n, r)

pub not_later : (key : Key) (xs : List Ask) (i : ℕ) (d : Ask) → i < length xs → is_before (slice_index_or xs i d).key key ≡ false → index_of key xs ≤ i
not_later key [] i d l e = absurd (omega (arith, l))
not_later key (x ∷ xs) zero d l e = let n = ap (λ b. cond b (index_of key xs + 1) 0) e in omega (arith, n)
not_later key (x ∷ xs) (suc i) d l e = by (is_before x.key key) (not_later key xs i d (omega (arith, l)) e)
  where
    by : (b : Bool) → index_of key xs ≤ i → cond b (index_of key xs + 1) 0 ≤ suc i
    by true r = omega (arith, r)
    by false r = omega arith

pub within_end : (key : Key) (xs : List Ask) → index_of key xs ≤ length xs
within_end key [] = omega arith
within_end key (x ∷ xs) = by (is_before x.key key) (within_end key xs)
  where
    by : (b : Bool) → index_of key xs ≤ length xs → cond b (index_of key xs + 1) 0 ≤ length (x ∷ xs)
    by true r = omega (arith, r)
    by false r = omega arith

-- an ask of a key
abbrev at_key : Key → Ask
at_key key = record { key = key; count = 0; resource = []; place = [] }

index_later : (key : Key) (x : Ask) (xs : List Ask) (d : Ask) → is_before x.key key ≡ true → slice_index_or (x ∷ xs) (index_of key (x ∷ xs)) d ≡ slice_index_or xs (index_of key xs) d
index_later key x xs d e = ap (λ i. slice_index_or (x ∷ xs) i d) (ap (λ b. cond b (index_of key xs + 1) 0) e ∙ add-one (index_of key xs))

index_here : (key : Key) (x : Ask) (xs : List Ask) (d : Ask) → is_before x.key key ≡ false → slice_index_or (x ∷ xs) (index_of key (x ∷ xs)) d ≡ x
index_here key x xs d e = ap (λ i. slice_index_or (x ∷ xs) i d) (ap (λ b. cond b (index_of key xs + 1) 0) e)

pub at_index : (key : Key) (xs : List Ask) (d : Ask) → index_of key xs < length xs → same_key (slice_index_or xs (index_of key xs) d).key key ≡ true → ask_at key xs ≡ Some (slice_index_or xs (index_of key xs) d)
at_index key [] d h e = absurd (omega (arith, h))
at_index key (x ∷ xs) d h e = by (is_before x.key key) refl (at_index key xs d)
  where
    by : (b : Bool) → is_before x.key key ≡ b → (index_of key xs < length xs → same_key (slice_index_or xs (index_of key xs) d).key key ≡ true → ask_at key xs ≡ Some (slice_index_or xs (index_of key xs) d))
        → ask_at key (x ∷ xs) ≡ Some (slice_index_or (x ∷ xs) (index_of key (x ∷ xs)) d)
    by true f rec =
        let i = index_later key x xs d f in
        let later : index_of key (x ∷ xs) ≡ suc (index_of key xs) = ap (λ b. cond b (index_of key xs + 1) 0) f ∙ add-one (index_of key xs) in
        let r = rec (omega (arith, h, later)) (ap (λ (a : Ask). same_key a.key key) (sym i) ∙ e) in
        ap (λ b. cond b (Some x) (ask_at key xs)) (before_not_same x.key key f) ∙ r ∙ sym (ap Some i)
    by false f rec =
        let i = index_here key x xs d f in
        ap (λ b. cond b (Some x) (ask_at key xs)) (ap (λ (a : Ask). same_key a.key key) (sym i) ∙ e) ∙ sym (ap Some i)

stands_at : (key : Key) (xs : List Ask) (d : Ask) → AreKept xs → is_some (ask_at key xs) ≡ true → same_key (slice_index_or xs (index_of key xs) d).key key ≡ true
stands_at key [] d k h = absurd (cc h)
stands_at key (x ∷ xs) d k h = by (is_before x.key key) (same_key x.key key) refl refl (stands_at key xs d k.2)
  where
    by : (b s : Bool) → is_before x.key key ≡ b → same_key x.key key ≡ s → (is_some (ask_at key xs) ≡ true → same_key (slice_index_or xs (index_of key xs) d).key key ≡ true)
        → same_key (slice_index_or (x ∷ xs) (index_of key (x ∷ xs)) d).key key ≡ true
    by true s f e rec = ap (λ (a : Ask). same_key a.key key) (index_later key x xs d f) ∙ rec (sym (ap (λ b. is_some (cond b (Some x) (ask_at key xs))) (before_not_same x.key key f)) ∙ h)
    by false true f e rec = ap (λ (a : Ask). same_key a.key key) (index_here key x xs d f) ∙ e
    by false false f e rec =
        let b = one_before x.key key f e in
        let none = after_absent key (x ∷ xs) (b, after_more key x.key xs b k.1) in
        absurd (cc (sym (ap is_some none) ∙ h))

-- none stands where another key stands there
pub other_at_index : (key : Key) (xs : List Ask) (d : Ask) → AreKept xs → same_key (slice_index_or xs (index_of key xs) d).key key ≡ false → is_some (ask_at key xs) ≡ false
other_at_index key xs d k e = by (is_some (ask_at key xs)) refl
  where
    by : (b : Bool) → is_some (ask_at key xs) ≡ b → b ≡ false
    by true h = absurd (cc (sym e ∙ stands_at key xs d k h))
    by false h = refl

-- nor past the end
pub none_past_end : (key : Key) (xs : List Ask) → AreKept xs → length xs ≤ index_of key xs → is_some (ask_at key xs) ≡ false
none_past_end key xs k e = by (is_some (ask_at key xs)) refl
  where
    by : (b : Bool) → is_some (ask_at key xs) ≡ b → b ≡ false
    by true h = absurd (let f = (found (at_key key) xs k h).below in omega (arith, e, f))
    by false h = refl

-- each ask that stands is for at least one container
pub one_wanted : (key : Key) (ask : Ask) (xs : List Ask) → AreKept xs → ask_at key xs ≡ Some ask → 1 ≤ ask.count
one_wanted key ask [] k h = absurd (cc h)
one_wanted key ask (x ∷ xs) k h = by (same_key x.key key) refl (one_wanted key ask xs k.2)
  where
    by : (b : Bool) → same_key x.key key ≡ b → (ask_at key xs ≡ Some ask → 1 ≤ ask.count) → 1 ≤ ask.count
    by true e rec = rw (← first_is (same_key x.key key) x ask (ask_at key xs) e h) (k.0)
    by false e rec = rec (sym (ap (λ b. cond b (Some x) (ask_at key xs)) e) ∙ h)

pub itself_found : (key : Key) (ask : Ask) (xs : List Ask) → ask_at key xs ≡ Some ask → is_some (ask_at ask.key xs) ≡ true
itself_found key ask xs h = ap (λ k. is_some (ask_at k xs)) (same_key_is ask.key key (found_same key ask xs h)) ∙ ap is_some h

-- whether a key stands after one more of several asks
pub stands_next : (key : Key) (kept asks : List Ask) (i : ℕ) (ask : Ask) → i < length asks → ask ≡ slice_index_or asks i ask
    → is_some (ask_at key (put_all kept (take (i + 1) asks))) ≡ (if same_key ask.key key then not (ask.count == 0) else is_some (ask_at key (put_all kept (take i asks))))
stands_next key kept asks i ask below item =
    ap (λ ys. is_some (ask_at key ys)) (fold_more (λ old a. put_ask a old) kept asks i ask below ∙ ap (λ a. put_ask a (put_all kept (take i asks))) (sym item))
    ∙ put_stands key ask (put_all kept (take i asks))

-- what is found at a index
pub record IsTaken (key : Key) (ask : Ask) (xs : List Ask) (index : ℕ) : Type 0 where
  pub found : ask_at key xs ≡ Some ask
  pub at : index ≡ index_of key xs

pub is_taken : (key : Key) (ask : Ask) (xs seen : List Ask) (index : ℕ) → AreKept xs → xs ≡ seen → IsKeyIndex key seen index true → ask ≡ slice_index_or xs index ask → IsTaken key ask xs index
is_taken key ask xs seen index kept same i item =
    let at' : index ≡ index_of key xs = i.at ∙ ap (index_of key) (sym same) in
    let item' : ask ≡ slice_index_or xs (index_of key xs) ask = item ∙ ap (λ j. slice_index_or xs j ask) at' in
    let there = ap (λ ys. is_some (ask_at key ys)) same ∙ i.found in
    record {
      found = at_index key xs ask ((found (at_key key) xs kept there).below) (stands_at key xs ask kept there) ∙ ap Some (sym item');
      at = at';
    }

-- an index where a key stands is within the list
pub stands_within : (key : Key) (xs seen : List Ask) (index : ℕ) → AreKept xs → xs ≡ seen → IsKeyIndex key seen index true → index < length xs
stands_within key xs seen index kept same i =
    let at' : index ≡ index_of key xs = i.at ∙ ap (index_of key) (sym same) in
    rw at' ((found (at_key key) xs kept (ap (λ ys. is_some (ask_at key ys)) same ∙ i.found)).below)

-- an index that was looked for
pub index_found : (key k : Key) (ask : Ask) (xs seen : List Ask) (index : ℕ) → xs ≡ seen → index ≡ index_of key xs → index < length xs → ask ≡ slice_index_or xs index ask → k ≡ ask.key → same_key k key ≡ true
    → IsKeyIndex key seen index true
index_found key k ask xs seen index same at below item key_is is_key =
    let item' : ask ≡ slice_index_or xs (index_of key xs) ask = item ∙ ap (λ i. slice_index_or xs i ask) at in
    let is_key' = ap (λ (a : Ask). same_key a.key key) (sym item') ∙ ap (λ j. same_key j key) (sym key_is) ∙ is_key in
    record {
      at = at ∙ ap (index_of key) same;
      found = ap (λ ys. is_some (ask_at key ys)) (sym same) ∙ ap is_some (at_index key xs ask (omega (arith, below, at)) is_key');
    }

pub index_other : (key k : Key) (ask : Ask) (xs seen : List Ask) (index : ℕ) → AreKept xs → xs ≡ seen → index ≡ index_of key xs → ask ≡ slice_index_or xs index ask → k ≡ ask.key → same_key k key ≡ false
    → IsKeyIndex key seen index false
index_other key k ask xs seen index kept same at item key_is is_key =
    let item' : ask ≡ slice_index_or xs (index_of key xs) ask = item ∙ ap (λ i. slice_index_or xs i ask) at in
    let is_key' = ap (λ (a : Ask). same_key a.key key) (sym item') ∙ ap (λ j. same_key j key) (sym key_is) ∙ is_key in
    record { at = at ∙ ap (index_of key) same; found = ap (λ ys. is_some (ask_at key ys)) (sym same) ∙ other_at_index key xs ask kept is_key' }

pub index_past : (key : Key) (xs seen : List Ask) (index : ℕ) → AreKept xs → xs ≡ seen → index ≡ index_of key xs → length xs ≤ index → IsKeyIndex key seen index false
index_past key xs seen index kept same at past = record {
  at = at ∙ ap (index_of key) same;
  found = ap (λ ys. is_some (ask_at key ys)) (sym same) ∙ none_past_end key xs kept (omega (arith, at, past));
}

module _ (key : Key) (ask : Ask) (xs : List Ask) (index : ℕ) (kept : AreKept xs) (t : IsTaken key ask xs index) where
  less_placed : (none : Bool) → ask.count - 1 == 0 ≡ none → IsPlaced (one_less ask) xs index true none
  less_placed none e = record {
    stands = itself_found key ask xs t.found;
    at = t.at ∙ ap (λ k. index_of k xs) (sym (same_key_is ask.key key (found_same key ask xs t.found)));
    takes = e;
  }

  pub last_taken : ask.count ≡ 1 → remove xs index ≡ take_one key xs
  last_taken e = is_removed (one_less ask) xs index kept (less_placed true (ap (λ n. n - 1 == 0) e)) ∙ sym (one_taken key ask xs kept t.found)

  pub fewer_taken : (less : Ask) → less ≡ one_less ask → (ask.count ≡ 1 → ⊥) → slice_set xs index less ≡ take_one key xs
  fewer_taken less e f =
      let wanted = one_wanted key ask xs kept t.found in
      let more : ask.count - 1 == 0 ≡ false = grind (arith, nat_tests, f, wanted) in
      ap (slice_set xs index) e ∙ is_replaced (one_less ask) xs index kept (less_placed false more) ∙ sym (one_taken key ask xs kept t.found)

  pub kept_taken : AreKept (take_one key xs)
  kept_taken = rw (one_taken key ask xs kept t.found) (kept_put (one_less ask) xs kept)

  pub taken_wanted : 1 ≤ ask.count
  taken_wanted = one_wanted key ask xs kept t.found

pub none_there : (key : Key) (xs seen : List Ask) (index : ℕ) → AreKept xs → xs ≡ seen → IsKeyIndex key seen index false → xs ≡ take_one key xs
none_there key xs seen index kept same i = sym (none_taken key xs kept (ap (λ ys. is_some (ask_at key ys)) same ∙ i.found))

-- how many stand after one more of several asks
counted_once : (ask : Ask) (xs : List Ask) → AreKept xs → length (put_ask ask xs) + bool_byte (is_some (ask_at ask.key xs)) ≡ length xs + bool_byte (not (ask.count == 0))
counted_once ask xs k = by (is_some (ask_at ask.key xs)) (ask.count == 0) refl refl (counted ask xs k)
  where
    by : (b s : Bool) → is_some (ask_at ask.key xs) ≡ b → ask.count == 0 ≡ s → IsCounted ask xs (is_some (ask_at ask.key xs)) (ask.count == 0) → length (put_ask ask xs) + bool_byte b ≡ length xs + bool_byte (not s)
    by true true h e c = let f = c.gone h e in omega (arith, f)
    by true false h e c = let f = c.replaced h e in omega (arith, f)
    by false true h e c = let f = c.absent h e in omega (arith, f)
    by false false h e c = let f = c.added h e in omega (arith, f)

pub count_next : (kept asks : List Ask) (i : ℕ) (ask : Ask) (key : Key) (count n : ℕ) (stood : Bool) → AreKept kept → i < length asks → ask ≡ slice_index_or asks i ask → key ≡ ask.key
    → n ≡ length (put_all kept (take i asks)) → stood ≡ is_some (ask_at key (put_all kept (take i asks))) → count ≡ ask.count
    → n + bool_byte (not (count == 0)) ≡ length (put_all kept (take (i + 1) asks)) + bool_byte stood
count_next kept asks i ask key count n stood k below item key_is n_is stood_is count_is =
    let before = put_all kept (take i asks) in
    let once = counted_once ask before (kept_all kept (take i asks) k) in
    let next : length (put_all kept (take (i + 1) asks)) ≡ length (put_ask ask before) = ap length (fold_more (λ old a. put_ask a old) kept asks i ask below ∙ ap (λ a. put_ask a before) (sym item)) in
    let s = ap bool_byte (stood_is ∙ ap (λ j. is_some (ask_at j before)) key_is) in
    let t = ap (λ m. bool_byte (not (m == 0))) count_is in
    omega (arith, once, next, s, t, n_is)

-- the slot of an ask is taken, and those of several are
abbrev IsTakenIn : List Bool → Ask → Type 0
IsTakenIn taken ask = slice_index_or taken (key_slot ask.key) false ≡ true

abbrev pub AreTaken : List Bool → List Ask → Type 0
AreTaken taken asks = All (IsTakenIn taken) asks

-- one of another slot has another key
other_slot : (key : Key) (taken : List Bool) (ask : Ask) → slice_index_or taken (key_slot key) false ≡ false → slice_index_or taken (key_slot ask.key) false ≡ true → same_key ask.key key ≡ false
other_slot key taken ask free is = by (same_key ask.key key) refl
  where
    by : (b : Bool) → same_key ask.key key ≡ b → b ≡ false
    by true e = absurd (cc (sym free ∙ ap (λ k. slice_index_or taken (key_slot k) false) (sym (same_key_is ask.key key e)) ∙ is))
    by false e = refl

-- a key whose slot none of them has stands as before them
pub untouched : (key : Key) (taken : List Bool) (kept asks : List Ask) → slice_index_or taken (key_slot key) false ≡ false → AreTaken taken asks → ask_at key (put_all kept asks) ≡ ask_at key kept
untouched key taken kept [] free are = refl
untouched key taken kept (ask ∷ asks) free are =
    untouched key taken (put_ask ask kept) asks free (All-tail (IsTakenIn taken) ask asks are) ∙ others_are_found key ask kept (other_slot key taken ask free (All-head (IsTakenIn taken) ask asks are))

-- one more slot is taken
still_taken : (taken : List Bool) (slot j : ℕ) → slot < length taken → slice_index_or taken j false ≡ true → slice_index_or (slice_set taken slot true) j false ≡ true
still_taken taken slot j within is = by (nat_eq j slot) refl
  where
    by : (b : Bool) → nat_eq j slot ≡ b → slice_index_or (slice_set taken slot true) j false ≡ true
    by true e = let same : j ≡ slot = grind (arith, nat_tests, e) in ap (λ k. slice_index_or (slice_set taken slot true) k false) same ∙ get_or-set_same taken slot true false within
    by false e = get_or-set_other taken slot j true false (grind (arith, nat_tests, e)) ∙ is

pub taken_next : (taken : List Bool) (asks : List Ask) (i slot : ℕ) (ask : Ask) → i < length asks → ask ≡ slice_index_or asks i ask → slot ≡ key_slot ask.key → slot < length taken
    → AreTaken taken (take i asks) → AreTaken (slice_set taken slot true) (take (i + 1) asks)
taken_next taken asks i slot ask below item is within are =
    let after = slice_set taken slot true in
    All-more (IsTakenIn after) asks i ask below
    (All-weaker (IsTakenIn taken) (IsTakenIn after) (λ (a : Ask) h. still_taken taken slot (key_slot a.key) within h) (take i asks) are)
    (subst (IsTakenIn after) item (ap (λ k. slice_index_or after k false) (sym is) ∙ get_or-set_same taken slot true false within))

pub byte_few : (b : Bool) → bool_byte b ≤ 1
byte_few true = omega arith
byte_few false = omega arith

-- and never more than those before and one for each ask
pub few_all : (kept asks : List Ask) → AreKept kept → length (put_all kept asks) ≤ length kept + length asks
few_all kept [] k = omega arith
few_all kept (ask ∷ asks) k =
    let r = few_all (put_ask ask kept) asks (kept_put ask kept k) in
    let one = few_one ask kept k in
    omega (arith, r, one)

pub chosen : (own k key : Key) (b : Bool) (x y : Bool) → k ≡ own → same_key k key ≡ b → (if same_key own key then x else y) ≡ (if b then x else y)
chosen own k key b x y key_is e = ap (λ c. if c then x else y) (ap (λ j. same_key j key) (sym key_is) ∙ e)

-- few asks, old and new, are not too many
pub not_too_many : (kept asks : List Ask) → AreKept kept → length kept + length asks ≤ keys_max → false ≡ nat_lt keys_max (length (put_all kept asks))
not_too_many kept asks k few = let all = few_all kept asks k in grind (arith, nat_tests, all, few)
