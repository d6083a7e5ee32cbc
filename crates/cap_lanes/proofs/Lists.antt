-- Counts of workers, and what of a longer list is a worker's.
use Rattle.cap_lanes.proofs.Prelude.{◌≡◌, ◌≢◌, ℕ, zero, suc, ◌+◌, ◌<◌, ◌≤◌, ◌==◌, Bool, true, false, List, [], ◌∷◌, ◌++◌, length, set, refl, ap, sym, ◌∙◌, arith, append_assoc, if◌then◌else◌, nat_tests, append-nil, NodeProposal, Message, Put, End, Item, Lane, View, messages_of, proposals, is_over, EndsLast, puts_if, puts_in, tagged, lane, fresh, rest_of, head_of, Fits, AllFit, times, total, WorkersBelow}
use mathlib.Core.Option.{some, some-ne-none, some-injective}
use lib.ListN.{get_elem?}

abbrev pub one : ℕ → ℕ → ℕ
one a x = if a == x then 1 else 0

pub one_le : (a x : ℕ) → one a x ≤ 1
one_le a x = grind (arith, nat_tests)

pub one_same : (a : ℕ) → one a a ≡ 1
one_same a = grind (arith, nat_tests)

pub one_other : (a x : ℕ) → a ≢ x → one a x ≡ 0
one_other a x n = grind (arith, nat_tests)

pub same_of : (a b : ℕ) → (a == b) ≡ true → a ≡ b
same_of a b e = grind (arith, nat_tests)

pub test_same : (a : ℕ) → (a == a) ≡ true
test_same a = grind (arith, nat_tests)

pub times-append : (x : ℕ) (ss ts : List Lane) → times x (ss ++ ts) ≡ times x ss + times x ts
times-append x [] ts = omega arith
times-append x (s ∷ ss) ts = let i = times-append x ss ts in let o : ℕ = one s.worker x in let h : o + times x (ss ++ ts) ≡ o + times x ss + times x ts = omega arith in h

pub times-parts : (x : ℕ) (ss : List Lane) → times x (rest_of ss) + times x (head_of ss) ≡ times x ss
times-parts x [] = omega arith
times-parts x (s ∷ ss) = let o : ℕ = one s.worker x in let h : times x ss + (o + 0) ≡ o + times x ss = omega arith in h

pub total-set : (x : ℕ) (views : List View) (i : ℕ) (v w : View) → get_elem? views i ≡ some v → total x (set views i w) + times x v.lanes ≡ total x views + times x w.lanes
total-set x [] i v w e = absurd (some-ne-none v (sym e))
total-set x (u ∷ us) zero v w e = let same : times x u.lanes ≡ times x v.lanes = ap (λ (y : View). times x y.lanes) (some-injective u v e) in omega arith
total-set x (u ∷ us) (suc i) v w e = let h = total-set x us i v w e in omega arith

pub total-push : (x : ℕ) (views : List View) (w : View) → total x (views ++ w ∷ []) ≡ total x views + times x w.lanes
total-push x [] w = omega arith
total-push x (u ∷ us) w = let h = total-push x us w in omega arith

pub total_at : (x : ℕ) (views : List View) (i : ℕ) (v : View) → get_elem? views i ≡ some v → times x v.lanes ≤ total x views
total_at x [] i v e = absurd (some-ne-none v (sym e))
total_at x (u ∷ us) zero v e = let same : times x u.lanes ≡ times x v.lanes = ap (λ (y : View). times x y.lanes) (some-injective u v e) in omega arith
total_at x (u ∷ us) (suc i) v e = let h = total_at x us i v e in omega arith

pub total_two : (x : ℕ) (views : List View) (i j : ℕ) (v u : View) → i ≢ j → get_elem? views i ≡ some v → get_elem? views j ≡ some u → times x v.lanes + times x u.lanes ≤ total x views
total_two x [] i j v u n e f = absurd (some-ne-none v (sym e))
total_two x (w ∷ ws) zero zero v u n e f = absurd (n refl)
total_two x (w ∷ ws) zero (suc j) v u n e f = let same : times x w.lanes ≡ times x v.lanes = ap (λ (y : View). times x y.lanes) (some-injective w v e) in let h = total_at x ws j u f in omega arith
total_two x (w ∷ ws) (suc i) zero v u n e f = let same : times x w.lanes ≡ times x u.lanes = ap (λ (y : View). times x y.lanes) (some-injective w u f) in let h = total_at x ws i v e in omega arith
total_two x (w ∷ ws) (suc i) (suc j) v u n e f = let m : i ≢ j = λ q. n (ap suc q) in let h = total_two x ws i j v u m e f in omega arith

-- lanes in which nothing was put
pub fresh_fits : (n k : ℕ) → n + k ≤ 8 → AllFit [] [] (fresh n k)
fresh_fits n zero h = tt
fresh_fits n (suc k) h = (record { put = refl; below = omega arith }, fresh_fits (suc n) k (omega arith))

pub fresh_low : (x n k : ℕ) → x < n → times x (fresh n k) ≡ 0
fresh_low x n zero h = refl
fresh_low x n (suc k) h = let o : one n x ≡ 0 = one_other n x (λ e. omega arith) in let i = fresh_low x (suc n) k (omega arith) in let g : one n x + times x (fresh (suc n) k) ≡ 0 = omega arith in g

fresh_here : (x n k : ℕ) → times x (fresh (suc n) k) ≤ 1 → (b : Bool) → (n == x) ≡ b → one n x + times x (fresh (suc n) k) ≤ 1
fresh_here x n k h true e = let same : n ≡ x = grind (arith, nat_tests) in let l = fresh_low x (suc n) k (omega arith) in let o = one_le n x in omega arith
fresh_here x n k h false e = let o : one n x ≡ 0 = grind (arith, nat_tests) in omega arith

pub fresh_once : (x n k : ℕ) → times x (fresh n k) ≤ 1
fresh_once x n zero = omega arith
fresh_once x n (suc k) = fresh_here x n k (fresh_once x (suc n) k) (n == x) refl

-- the parts of lanes that fit
pub all_fit-append : (got items : List Item) (ss ts : List Lane) → AllFit got items ss → AllFit got items ts → AllFit got items (ss ++ ts)
all_fit-append got items [] ts h k = k
all_fit-append got items (s ∷ ss) ts h k = (h.0, all_fit-append got items ss ts h.1 k)

pub all_fit_rest : (got items : List Item) (ss : List Lane) → AllFit got items ss → AllFit got items (rest_of ss)
all_fit_rest got items [] h = tt
all_fit_rest got items (s ∷ ss) h = h.1

pub all_fit_head : (got items : List Item) (ss : List Lane) → AllFit got items ss → AllFit got items (head_of ss)
all_fit_head got items [] h = tt
all_fit_head got items (s ∷ ss) h = (h.0, tt)

-- one item more, of this worker or of another
pub messages_of-append : (w : ℕ) (xs ys : List Item) → messages_of w (xs ++ ys) ≡ messages_of w xs ++ messages_of w ys
messages_of-append w [] ys = refl
messages_of-append w (x ∷ xs) ys = step (x.worker == w) (messages_of-append w xs ys)
  where
    step : (b : Bool) → messages_of w (xs ++ ys) ≡ messages_of w xs ++ messages_of w ys → (if b then (x.message ∷ messages_of w (xs ++ ys)) else (messages_of w (xs ++ ys))) ≡ (if b then (x.message ∷ messages_of w xs) else (messages_of w xs)) ++ messages_of w ys
    step true h = ap (λ zs. x.message ∷ zs) h
    step false h = h

pub of_mine : (w : ℕ) (x : Item) → x.worker ≡ w → messages_of w (x ∷ []) ≡ x.message ∷ []
of_mine w x e = let t : (x.worker == w) ≡ true = grind (arith, nat_tests) in rw t refl

pub of_other : (w : ℕ) (x : Item) → x.worker ≢ w → messages_of w (x ∷ []) ≡ []
of_other w x n = let t : (x.worker == w) ≡ false = grind (arith, nat_tests) in rw t refl

-- what joins the channel at the back
pub of_pushed : (w : ℕ) (got items : List Item) (x : Item) → messages_of w got ++ messages_of w (items ++ x ∷ []) ≡ (messages_of w got ++ messages_of w items) ++ messages_of w (x ∷ [])
of_pushed w got items x = ap (λ zs. messages_of w got ++ zs) (messages_of-append w items (x ∷ [])) ∙ sym (append_assoc (messages_of w got) (messages_of w items) (messages_of w (x ∷ [])))

-- what goes from the front of the channel to what was taken
pub of_popped : (w : ℕ) (got items : List Item) (x : Item) → messages_of w got ++ messages_of w (x ∷ items) ≡ messages_of w (got ++ x ∷ []) ++ messages_of w items
of_popped w got items x = ap (λ zs. messages_of w got ++ zs) (messages_of-append w (x ∷ []) items) ∙ sym (append_assoc (messages_of w got) (messages_of w (x ∷ [])) (messages_of w items)) ∙ ap (λ zs. zs ++ messages_of w items) (sym (messages_of-append w got (x ∷ [])))

pub all_fit_popped : (got items : List Item) (x : Item) (ls : List Lane) → AllFit got (x ∷ items) ls → AllFit (got ++ x ∷ []) items ls
all_fit_popped got items x [] h = tt
all_fit_popped got items x (l ∷ ls) h = (record { put = h.0.put ∙ of_popped l.worker got items x; below = h.0.below }, all_fit_popped got items x ls h.1)

fits_other : (got items : List Item) (x : Item) (l : Lane) → x.worker ≢ l.worker → Fits got items l → Fits got (items ++ x ∷ []) l
fits_other got items x l n h = record {
  put = h.put ∙ sym (append-nil (messages_of l.worker got ++ messages_of l.worker items)) ∙ ap (λ zs. (messages_of l.worker got ++ messages_of l.worker items) ++ zs) (sym (of_other l.worker x n)) ∙ sym (of_pushed l.worker got items x);
  below = h.below;
}

apart_head : (a x : ℕ) (n : ℕ) → one a x + n ≡ 0 → x ≢ a
apart_head a x n h e = grind (arith, nat_tests)

pub all_fit_others : (got items : List Item) (x : Item) (ls : List Lane) → times x.worker ls ≡ 0 → AllFit got items ls → AllFit got (items ++ x ∷ []) ls
all_fit_others got items x [] gone h = tt
all_fit_others got items x (l ∷ ls) gone h = (fits_other got items x l (apart_head l.worker x.worker (times x.worker ls) gone) h.0, all_fit_others got items x ls (omega arith) h.1)

pub fits_mine : (got items : List Item) (x : Item) (l : Lane) → x.worker ≡ l.worker → Fits got items l → Fits got (items ++ x ∷ []) (lane l.worker (l.put ++ x.message ∷ []))
fits_mine got items x l e h = record {
  put = ap (λ zs. zs ++ x.message ∷ []) h.put ∙ ap (λ zs. (messages_of l.worker got ++ messages_of l.worker items) ++ zs) (sym (of_mine l.worker x e)) ∙ sym (of_pushed l.worker got items x);
  below = h.below;
}

pub WorkersBelow-push : (xs : List Item) (x : Item) → WorkersBelow xs → x.worker < 8 → WorkersBelow (xs ++ x ∷ [])
WorkersBelow-push [] x h l = (l, tt)
WorkersBelow-push (y ∷ xs) x h l = (h.0, WorkersBelow-push xs x h.1 l)

-- nothing comes after an end
pub EndsLast-push : (xs : List Message) (y : Message) → EndsLast xs → is_over xs ≡ false → EndsLast (xs ++ y ∷ [])
EndsLast-push [] (Put p) h o = tt
EndsLast-push [] End h o = refl
EndsLast-push (Put p ∷ xs) y h o = EndsLast-push xs y h o
EndsLast-push (End ∷ xs) y h o = absurd (cc (o))

snoc_not_nil : (xs : List Message) (y : Message) (ys : List Message) → xs ++ y ∷ ys ≡ [] → ⊥
snoc_not_nil [] y ys e = cc (e)
snoc_not_nil (x ∷ xs) y ys e = cc (e)

pub not_over_before : (xs : List Message) (y : Message) (ys : List Message) → EndsLast (xs ++ y ∷ ys) → is_over xs ≡ false
not_over_before [] y ys h = refl
not_over_before (Put p ∷ xs) y ys h = not_over_before xs y ys h
not_over_before (End ∷ xs) y ys h = absurd (snoc_not_nil xs y ys h)

pub is_over-push_put : (xs : List Message) (p : NodeProposal) → is_over (xs ++ Put p ∷ []) ≡ is_over xs
is_over-push_put [] p = refl
is_over-push_put (Put q ∷ xs) p = is_over-push_put xs p
is_over-push_put (End ∷ xs) p = refl

pub is_over-push_end : (xs : List Message) → is_over (xs ++ End ∷ []) ≡ true
is_over-push_end [] = refl
is_over-push_end (Put q ∷ xs) = is_over-push_end xs
is_over-push_end (End ∷ xs) = refl

-- the proposals of a longer list
pub proposals-append : (xs ys : List Message) → proposals (xs ++ ys) ≡ proposals xs ++ proposals ys
proposals-append [] ys = refl
proposals-append (Put p ∷ xs) ys = ap (λ zs. p ∷ zs) (proposals-append xs ys)
proposals-append (End ∷ xs) ys = proposals-append xs ys

pub puts_in-append : (xs ys : List Item) → puts_in (xs ++ ys) ≡ puts_in xs ++ puts_in ys
puts_in-append [] ys = refl
puts_in-append (x ∷ xs) ys = step x.message (puts_in-append xs ys)
  where
    step : (y : Message) → puts_in (xs ++ ys) ≡ puts_in xs ++ puts_in ys → puts_if y x.worker (puts_in (xs ++ ys)) ≡ puts_if y x.worker (puts_in xs) ++ puts_in ys
    step (Put p) h = ap (λ zs. (x.worker, p) ∷ zs) h
    step End h = h

pub tagged-append : (w : ℕ) (xs ys : List (ℕ × NodeProposal)) → tagged w (xs ++ ys) ≡ tagged w xs ++ tagged w ys
tagged-append w [] ys = refl
tagged-append w (x ∷ xs) ys = step (x.0 == w) (tagged-append w xs ys)
  where
    step : (b : Bool) → tagged w (xs ++ ys) ≡ tagged w xs ++ tagged w ys → (if b then (x.1 ∷ tagged w (xs ++ ys)) else (tagged w (xs ++ ys))) ≡ (if b then (x.1 ∷ tagged w xs) else (tagged w xs)) ++ tagged w ys
    step true h = ap (λ zs. x.1 ∷ zs) h
    step false h = h

-- a worker's proposals, in either order of looking
pub tagged_puts : (w : ℕ) (xs : List Item) → tagged w (puts_in xs) ≡ proposals (messages_of w xs)
tagged_puts w [] = refl
tagged_puts w (x ∷ xs) = step x.message (x.worker == w) refl (tagged_puts w xs)
  where
    step : (y : Message) (b : Bool) → (x.worker == w) ≡ b → tagged w (puts_in xs) ≡ proposals (messages_of w xs) → tagged w (puts_if y x.worker (puts_in xs)) ≡ proposals (if b then (y ∷ messages_of w xs) else (messages_of w xs))
    step (Put p) true e h = rw e (ap (λ zs. p ∷ zs) h)
    step (Put p) false e h = rw e h
    step End true e h = h
    step End false e h = h

pub length-puts_in : (xs : List Item) → length (puts_in xs) ≤ length xs
length-puts_in [] = omega arith
length-puts_in (x ∷ xs) = step x.message (length-puts_in xs)
  where
    step : (y : Message) → length (puts_in xs) ≤ length xs → length (puts_if y x.worker (puts_in xs)) ≤ suc (length xs)
    step (Put p) h = omega arith
    step End h = omega arith
