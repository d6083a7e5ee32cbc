-- Counts of seats, and what a longer journal keeps.
use Rattle.cap_shared.proofs.Prelude.{◌≡◌, ◌≢◌, ℕ, zero, suc, ◌+◌, ◌-◌, ◌<◌, ◌≤◌, ◌==◌, Bool, true, false, List, [], ◌∷◌, ◌++◌, length, set, refl, ap, sym, ◌∙◌, arith, append_assoc, zero-add, if◌then◌else◌, nat_tests, Entry, Receipt, NotedAnswer, Moment, Entered, Noted, Sitting, View, receipt_for, seat_entries, receipts_in, Addition, Enters, Notes, Nothing, sitting, fresh, rest_of, head_of, NotesBegin, Fits, AllFit, times, total, log_after, past_after, sits_after}
use mathlib.Core.Option.{some, some-ne-none, some-injective}
use mathlib.Core.List.{IsPrefix}
use lib.ListN.{get_elem?}

abbrev pub one : ℕ → ℕ → ℕ
one a x = if a == x then 1 else 0

pub one_le : (a x : ℕ) → one a x ≤ 1
one_le a x = grind (arith, nat_tests)

pub one_same : (a : ℕ) → one a a ≡ 1
one_same a = grind (arith, nat_tests)

pub one_other : (a x : ℕ) → a ≢ x → one a x ≡ 0
one_other a x n = grind (arith, nat_tests)

pub times-append : (x : ℕ) (ss ts : List Sitting) → times x (ss ++ ts) ≡ times x ss + times x ts
times-append x [] ts = omega arith
times-append x (s ∷ ss) ts = let i = times-append x ss ts in let o : ℕ = one s.seat x in let h : o + times x (ss ++ ts) ≡ o + times x ss + times x ts = omega arith in h

pub times-parts : (x : ℕ) (ss : List Sitting) → times x (rest_of ss) + times x (head_of ss) ≡ times x ss
times-parts x [] = omega arith
times-parts x (s ∷ ss) = let o : ℕ = one s.seat x in let h : times x ss + (o + 0) ≡ o + times x ss = omega arith in h

pub total-set : (x : ℕ) (views : List View) (i : ℕ) (v w : View) → get_elem? views i ≡ some v → total x (set views i w) + times x v.sits ≡ total x views + times x w.sits
total-set x [] i v w e = absurd (some-ne-none v (sym e))
total-set x (u ∷ us) zero v w e = let same : times x u.sits ≡ times x v.sits = ap (λ (y : View). times x y.sits) (some-injective u v e) in omega arith
total-set x (u ∷ us) (suc i) v w e = let h = total-set x us i v w e in omega arith

pub total-push : (x : ℕ) (views : List View) (w : View) → total x (views ++ w ∷ []) ≡ total x views + times x w.sits
total-push x [] w = omega arith
total-push x (u ∷ us) w = let h = total-push x us w in omega arith

pub total_at : (x : ℕ) (views : List View) (i : ℕ) (v : View) → get_elem? views i ≡ some v → times x v.sits ≤ total x views
total_at x [] i v e = absurd (some-ne-none v (sym e))
total_at x (u ∷ us) zero v e = let same : times x u.sits ≡ times x v.sits = ap (λ (y : View). times x y.sits) (some-injective u v e) in omega arith
total_at x (u ∷ us) (suc i) v e = let h = total_at x us i v e in omega arith

pub total_two : (x : ℕ) (views : List View) (i j : ℕ) (v u : View) → i ≢ j → get_elem? views i ≡ some v → get_elem? views j ≡ some u → times x v.sits + times x u.sits ≤ total x views
total_two x [] i j v u n e f = absurd (some-ne-none v (sym e))
total_two x (w ∷ ws) zero zero v u n e f = absurd (n refl)
total_two x (w ∷ ws) zero (suc j) v u n e f = let same : times x w.sits ≡ times x v.sits = ap (λ (y : View). times x y.sits) (some-injective w v e) in let h = total_at x ws j u f in omega arith
total_two x (w ∷ ws) (suc i) zero v u n e f = let same : times x w.sits ≡ times x u.sits = ap (λ (y : View). times x y.sits) (some-injective w u f) in let h = total_at x ws i v e in omega arith
total_two x (w ∷ ws) (suc i) (suc j) v u n e f = let m : i ≢ j = λ q. n (ap suc q) in let h = total_two x ws i j v u m e f in omega arith

-- seats that were told nothing
pub fresh_fits : (n k : ℕ) → AllFit [] (fresh n k)
fresh_fits n zero = tt
fresh_fits n (suc k) = (record { receipts = refl; notes = tt }, fresh_fits (suc n) k)

pub fresh_low : (x n k : ℕ) → x < n → times x (fresh n k) ≡ 0
fresh_low x n zero h = refl
fresh_low x n (suc k) h = let o : one n x ≡ 0 = one_other n x (λ e. omega arith) in let i = fresh_low x (suc n) k (omega arith) in let g : one n x + times x (fresh (suc n) k) ≡ 0 = omega arith in g

fresh_here : (x n k : ℕ) → times x (fresh (suc n) k) ≤ 1 → (b : Bool) → (n == x) ≡ b → one n x + times x (fresh (suc n) k) ≤ 1
fresh_here x n k h true e = let same : n ≡ x = grind (arith, nat_tests) in let l = fresh_low x (suc n) k (omega arith) in let o = one_le n x in omega arith
fresh_here x n k h false e = let o : one n x ≡ 0 = grind (arith, nat_tests) in omega arith

pub fresh_once : (x n k : ℕ) → times x (fresh n k) ≤ 1
fresh_once x n zero = omega arith
fresh_once x n (suc k) = fresh_here x n k (fresh_once x (suc n) k) (n == x) refl

-- a longer journal
pub prefix_self : (xs : List Entry) → IsPrefix xs xs
prefix_self [] = ([], refl)
prefix_self (x ∷ xs) = let r = prefix_self xs in (r.0, ap (λ ys. x ∷ ys) r.1)

pub NotesBegin-push : (log : List Entry) (e : Entry) (ms : List Moment) → NotesBegin log ms → NotesBegin (log ++ e ∷ []) ms
NotesBegin-push log e [] h = tt
NotesBegin-push log e (Entered r ∷ ms) h = NotesBegin-push log e ms h
NotesBegin-push log e (Noted es a ∷ ms) h = ((h.0.0 ++ e ∷ [], sym (append_assoc es h.0.0 (e ∷ [])) ∙ ap (λ w. w ++ e ∷ []) h.0.1), NotesBegin-push log e ms h.1)

pub NotesBegin-told : (log : List Entry) (ms : List Moment) (r : Receipt) → NotesBegin log ms → NotesBegin log (ms ++ Entered r ∷ [])
NotesBegin-told log [] r h = tt
NotesBegin-told log (Entered q ∷ ms) r h = NotesBegin-told log ms r h
NotesBegin-told log (Noted es a ∷ ms) r h = (h.0, NotesBegin-told log ms r h.1)

pub NotesBegin-noted : (log : List Entry) (ms : List Moment) (a : NotedAnswer) → NotesBegin log ms → NotesBegin log (ms ++ Noted log a ∷ [])
NotesBegin-noted log [] a h = (prefix_self log, tt)
NotesBegin-noted log (Entered q ∷ ms) a h = NotesBegin-noted log ms a h
NotesBegin-noted log (Noted es b ∷ ms) a h = (h.0, NotesBegin-noted log ms a h.1)

pub receipts_in-told : (ms : List Moment) (r : Receipt) → receipts_in (ms ++ Entered r ∷ []) ≡ receipts_in ms ++ r ∷ []
receipts_in-told [] r = refl
receipts_in-told (Entered q ∷ ms) r = ap (λ rs. q ∷ rs) (receipts_in-told ms r)
receipts_in-told (Noted es a ∷ ms) r = receipts_in-told ms r

pub receipts_in-noted : (ms : List Moment) (es : List Entry) (a : NotedAnswer) → receipts_in (ms ++ Noted es a ∷ []) ≡ receipts_in ms
receipts_in-noted [] es a = refl
receipts_in-noted (Entered q ∷ ms) es a = ap (λ rs. q ∷ rs) (receipts_in-noted ms es a)
receipts_in-noted (Noted fs b ∷ ms) es a = receipts_in-noted ms es a

-- one entry more, of this seat or of another
pub seat_entries-mine : (s n : ℕ) (es : List Entry) (e : Entry) → (e.seat == s) ≡ true → seat_entries s n (es ++ e ∷ []) ≡ seat_entries s n es ++ receipt_for (n + length es) e.event ∷ []
seat_entries-mine s n [] e is = rw is (ap (λ (k : ℕ). receipt_for k e.event ∷ []) (omega arith))
seat_entries-mine s n (d ∷ es) e is = step (d.seat == s) (seat_entries-mine s (suc n) es e is ∙ ap (λ (k : ℕ). seat_entries s (suc n) es ++ receipt_for k e.event ∷ []) (omega arith))
  where
    step : (b : Bool) → seat_entries s (suc n) (es ++ e ∷ []) ≡ seat_entries s (suc n) es ++ receipt_for (n + suc (length es)) e.event ∷ []
        → (if b then (receipt_for n d.event ∷ seat_entries s (suc n) (es ++ e ∷ [])) else (seat_entries s (suc n) (es ++ e ∷ []))) ≡ (if b then (receipt_for n d.event ∷ seat_entries s (suc n) es) else (seat_entries s (suc n) es)) ++ receipt_for (n + suc (length es)) e.event ∷ []
    step true h = ap (λ rs. receipt_for n d.event ∷ rs) h
    step false h = h

pub seat_entries-other : (s n : ℕ) (es : List Entry) (e : Entry) → (e.seat == s) ≡ false → seat_entries s n (es ++ e ∷ []) ≡ seat_entries s n es
seat_entries-other s n [] e is = rw is refl
seat_entries-other s n (d ∷ es) e is = step (d.seat == s) (seat_entries-other s (suc n) es e is)
  where
    step : (b : Bool) → seat_entries s (suc n) (es ++ e ∷ []) ≡ seat_entries s (suc n) es
        → (if b then (receipt_for n d.event ∷ seat_entries s (suc n) (es ++ e ∷ [])) else (seat_entries s (suc n) (es ++ e ∷ []))) ≡ (if b then (receipt_for n d.event ∷ seat_entries s (suc n) es) else (seat_entries s (suc n) es))
    step true h = ap (λ rs. receipt_for n d.event ∷ rs) h
    step false h = h

-- the seats of whoever is told fit the journal after it
fits_entry : (log : List Entry) (e : Entry) (s : Sitting) (b : Bool) → (e.seat == s.seat) ≡ b → Fits log s → Fits (log ++ e ∷ []) (sitting s.seat (if b then (s.past ++ Entered (receipt_for (length log) e.event) ∷ []) else s.past))
fits_entry log e s true is h = record {
  receipts = seat_entries-mine s.seat 0 log e is ∙ ap (λ (k : ℕ). seat_entries s.seat 0 log ++ receipt_for k e.event ∷ []) (zero-add (length log)) ∙ ap (λ rs. rs ++ receipt_for (length log) e.event ∷ []) h.receipts ∙ sym (receipts_in-told s.past (receipt_for (length log) e.event));
  notes = NotesBegin-told (log ++ e ∷ []) s.past (receipt_for (length log) e.event) (NotesBegin-push log e s.past h.notes);
}
fits_entry log e s false is h = record { receipts = seat_entries-other s.seat 0 log e is ∙ h.receipts; notes = NotesBegin-push log e s.past h.notes }

pub fits_after : (log : List Entry) (x : Addition) (s : Sitting) → Fits log s → Fits (log_after log x) (sitting s.seat (past_after log x s))
fits_after log (Enters e) s h = fits_entry log e s (e.seat == s.seat) refl h
fits_after log (Notes a) s h = record { receipts = h.receipts ∙ sym (receipts_in-noted s.past log a); notes = NotesBegin-noted log s.past a h.notes }
fits_after log Nothing s h = record { receipts = h.receipts; notes = h.notes }

pub all_fit_after : (log : List Entry) (x : Addition) (ss : List Sitting) → AllFit log ss → AllFit (log_after log x) (sits_after log x ss)
all_fit_after log x [] h = tt
all_fit_after log x (s ∷ ss) h = (fits_after log x s h.0, all_fit_after log x ss h.1)

pub times_after : (n : ℕ) (log : List Entry) (x : Addition) (ss : List Sitting) → times n (sits_after log x ss) ≡ times n ss
times_after n log x [] = refl
times_after n log x (s ∷ ss) = ap (λ (k : ℕ). one s.seat n + k) (times_after n log x ss)

-- the seats of others fit it too
abbrev pub absent_from : Addition → List Sitting → Type 0
absent_from (Enters e) ss = times e.seat ss ≡ 0
absent_from (Notes a) ss = Unit {0}
absent_from Nothing ss = Unit {0}

apart_head : (a x : ℕ) (n : ℕ) → one a x + n ≡ 0 → (x == a) ≡ false
apart_head a x n h = grind (arith, nat_tests)

all_fit_entry : (log : List Entry) (e : Entry) (ss : List Sitting) → times e.seat ss ≡ 0 → AllFit log ss → AllFit (log ++ e ∷ []) ss
all_fit_entry log e [] gone h = tt
all_fit_entry log e (s ∷ ss) gone h = (record { receipts = seat_entries-other s.seat 0 log e (apart_head s.seat e.seat (times e.seat ss) gone) ∙ h.0.receipts; notes = NotesBegin-push log e s.past h.0.notes }, all_fit_entry log e ss (omega arith) h.1)

pub all_fit_others : (log : List Entry) (x : Addition) (ss : List Sitting) → absent_from x ss → AllFit log ss → AllFit (log_after log x) ss
all_fit_others log (Enters e) ss gone h = all_fit_entry log e ss gone h
all_fit_others log (Notes a) ss gone h = h
all_fit_others log Nothing ss gone h = h

pub all_fit-append : (log : List Entry) (ss ts : List Sitting) → AllFit log ss → AllFit log ts → AllFit log (ss ++ ts)
all_fit-append log [] ts h k = k
all_fit-append log (s ∷ ss) ts h k = (h.0, all_fit-append log ss ts h.1 k)

pub all_fit_rest : (log : List Entry) (ss : List Sitting) → AllFit log ss → AllFit log (rest_of ss)
all_fit_rest log [] h = tt
all_fit_rest log (s ∷ ss) h = h.1

pub all_fit_head : (log : List Entry) (ss : List Sitting) → AllFit log ss → AllFit log (head_of ss)
all_fit_head log [] h = tt
all_fit_head log (s ∷ ss) h = (h.0, tt)

pub fresh-push : (n k : ℕ) → fresh n (suc k) ≡ fresh n k ++ sitting (n + k) [] ∷ []
fresh-push n zero = let e : n ≡ n + 0 = omega arith in ap (λ (i : ℕ). sitting i [] ∷ []) e
fresh-push n (suc k) = let e : suc n + k ≡ n + suc k = omega arith in ap (λ (ss : List Sitting). sitting n [] ∷ ss) (fresh-push (suc n) k ∙ ap (λ (i : ℕ). fresh (suc n) k ++ sitting i [] ∷ []) e)

pub length-fresh : (n k : ℕ) → length (fresh n k) ≡ k
length-fresh n zero = refl
length-fresh n (suc k) = ap suc (length-fresh (suc n) k)

pub fresh-step : (n m : ℕ) → n < m → fresh n (m - n) ≡ sitting n [] ∷ fresh (suc n) (m - suc n)
fresh-step n m h = let e : m - n ≡ suc (m - suc n) = omega arith in ap (λ (k : ℕ). fresh n k) e
