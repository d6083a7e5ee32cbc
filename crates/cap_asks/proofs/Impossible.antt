-- Marks of asks: how many are set, and what the marked asks want.
use Rattle.std.proofs.Math.Nat.{mul-le-mul_right}
use Rattle.cap_base.proofs.lists.Members.{in_either, in_left, in_right}
use Rattle.cap_asks.specs.Apps.{impossible_in}
use Rattle.cap_asks.specs.Changes.{Marks, puts_impossible}
use Rattle.cap_asks.specs.declared.change.Change.{Change}
use Rattle.cap_asks.specs.declared.change.Change.TheVariants.{Register, PutAsk, TakeOne, AddGrant, AddEnd}
use Rattle.cap_asks.proofs.Prelude.{◌++◌, HeldApp, lookup, set_value, remove_entry, ◌≡◌, ℕ, zero, suc, ◌+◌, ◌*◌, ◌≤◌, ◌<◌, ◌⊎◌, Bool, true, false, cond, List, [], ◌∷◌, length, refl, sym, ◌∙◌, ap, subst, inl, inr, arith, get_or, insert, remove, slice_set, slice_get, Some, IsIn, Ask, sum_by-cons, sum_by-insert, sum_by-remove, sum_by-set, length-insert, length-remove, length-set, nat_eq, nat_tests, slice_get_within, if◌then◌else◌}
use Rattle.cap_base.specs.Amounts.{fits}
use Rattle.cap_base.specs.Texts.{star}
use Rattle.std.specs.Prelude.{IsTrue, bytes_eq, ◌&&◌, ◌||◌, ◌↔◌}
use Rattle.cap_vector.specs.Vector.{Fits}
use Rattle.cap_base.proofs.Amounts.{amounts_fit, fits_amounts}
use Rattle.cap_asks.specs.Impossible.{AreAmong, AreAmongOr, AreLeftBy, AreMarkedBetween, Want, WantAmong, could_take, marks_in, want_of, wants_marked}

one_marked : (marks : List Bool) → marks_in (true ∷ marks) ≡ marks_in marks + 1
one_marked marks = sum_by-cons (λ (mark : Bool). if mark then 1 else 0) true marks ∙ grind arith

none_more : (marks : List Bool) → marks_in (false ∷ marks) ≡ marks_in marks
none_more marks = sum_by-cons (λ (mark : Bool). if mark then 1 else 0) false marks ∙ grind arith

-- no more are set than there are
pub few_marks : (marks : List Bool) → marks_in marks ≤ length marks
few_marks [] = omega arith
few_marks (true ∷ marks) = let r = few_marks marks in let one = one_marked marks in omega (arith, r, one)
few_marks (false ∷ marks) = let r = few_marks marks in let none = none_more marks in omega (arith, r, none)

-- what a mark counts
abbrev pub one_if : Bool → ℕ
one_if mark = if mark then 1 else 0

-- with one more, without one, and with another in its place
pub count_with : (marks : List Bool) (i : ℕ) (mark : Bool) → marks_in (insert marks i mark) ≡ marks_in marks + one_if mark
count_with marks i mark = sum_by-insert one_if marks i mark

pub count_without : (marks : List Bool) (i : ℕ) (mark : Bool) → i < length marks → mark ≡ get_or marks i mark → marks_in (remove marks i) + one_if mark ≡ marks_in marks
count_without marks i mark l is = ap (λ m. marks_in (remove marks i) + one_if m) is ∙ sum_by-remove one_if marks i mark l

pub count_set : (marks : List Bool) (i : ℕ) (mark was : Bool) → i < length marks → was ≡ get_or marks i was → marks_in (slice_set marks i mark) + one_if was ≡ marks_in marks + one_if mark
count_set marks i mark was l is = ap (λ m. marks_in (slice_set marks i mark) + one_if m) is ∙ sum_by-set one_if marks i mark was l

-- where none is set, nothing is marked
pub none_marked : (marks : List Bool) (asks : List Ask) → marks_in marks ≡ 0 → wants_marked marks asks ≡ []
none_marked [] asks e = refl
none_marked (mark ∷ marks) [] e = refl
none_marked (true ∷ marks) (ask ∷ asks) e = absurd (let one = one_marked marks in omega (arith, e, one))
none_marked (false ∷ marks) (ask ∷ asks) e = none_marked marks asks (sym (none_more marks) ∙ e)

-- where all are, all asks are marked
pub all_marked : (marks : List Bool) (asks : List Ask) → length marks ≡ length asks → marks_in marks ≡ length asks → (ask : Ask) → IsIn ask asks → IsIn (want_of ask) (wants_marked marks asks)
all_marked marks [] l e ask m = absurd m
all_marked [] (x ∷ asks) l e ask m = absurd (omega (arith, l))
all_marked (true ∷ marks) (x ∷ asks) l e ask (inl is) = inl (ap want_of is)
all_marked (true ∷ marks) (x ∷ asks) l e ask (inr m) = inr (all_marked marks asks (omega (arith, l)) (let one = one_marked marks in omega (arith, e, one)) ask m)
all_marked (false ∷ marks) (x ∷ asks) l e ask m = absurd (let few = few_marks marks in let none = none_more marks in omega (arith, few, l, e, none))

-- the ask at an index whose mark is set is marked
pub marked_at : (marks : List Bool) (asks : List Ask) (i : ℕ) (ask : Ask) → slice_get marks i ≡ Some true → slice_get asks i ≡ Some ask → IsIn (want_of ask) (wants_marked marks asks)
marked_at [] asks i ask m a = absurd (cc m)
marked_at (mark ∷ marks) [] i ask m a = absurd (cc a)
marked_at (true ∷ marks) (x ∷ asks) zero ask m a = let same : x ≡ ask = cc a in inl (ap want_of same)
marked_at (false ∷ marks) (x ∷ asks) zero ask m a = absurd (cc m)
marked_at (true ∷ marks) (x ∷ asks) (suc i) ask m a = inr (marked_at marks asks i ask m a)
marked_at (false ∷ marks) (x ∷ asks) (suc i) ask m a = marked_at marks asks i ask m a

-- so is each between two indexes before which the marks are set
pub wants_between : (marks : List Bool) (asks : List Ask) (from to : ℕ) → length marks ≡ length asks → AreMarkedBetween marks from to → WantAmong (wants_marked marks asks) asks from to
wants_between marks asks from to l h = record {
  later = h.later;
  within = let w = h.within in omega (arith, w, l);
  among = λ i ask a b at. marked_at marks asks i ask (h.set i a b) at;
}

-- what is marked after a mark and its ask went
pub marked_without : (marks : List Bool) (asks : List Ask) (i : ℕ) → AreAmong (wants_marked (remove marks i) (remove asks i)) (wants_marked marks asks)
marked_without [] asks zero want m = absurd m
marked_without [] asks (suc i) want m = absurd m
marked_without (mark ∷ []) [] zero want m = absurd m
marked_without (mark ∷ x ∷ marks) [] zero want m = absurd m
marked_without (mark ∷ marks) [] (suc i) want m = absurd m
marked_without (true ∷ marks) (ask ∷ asks) zero want m = inr m
marked_without (false ∷ marks) (ask ∷ asks) zero want m = m
marked_without (true ∷ marks) (ask ∷ asks) (suc i) want (inl e) = inl e
marked_without (true ∷ marks) (ask ∷ asks) (suc i) want (inr m) = inr (marked_without marks asks i want m)
marked_without (false ∷ marks) (ask ∷ asks) (suc i) want m = marked_without marks asks i want m

-- what is marked after one more came at an index
pub marked_with : (marks : List Bool) (asks : List Ask) (i : ℕ) (mark : Bool) (ask : Ask) → length marks ≡ length asks → i ≤ length asks → AreAmongOr ask mark (wants_marked (insert marks i mark) (insert asks i ask)) (wants_marked marks asks)
marked_with marks asks zero true ask l w want (inl e) = inr (refl, sym e)
marked_with marks asks zero true ask l w want (inr m) = inl m
marked_with marks asks zero false ask l w want m = inl m
marked_with [] [] (suc i) mark ask l w want m = absurd (omega (arith, w))
marked_with [] (x ∷ asks) (suc i) mark ask l w want m = absurd (omega (arith, l))
marked_with (x ∷ marks) [] (suc i) mark ask l w want m = absurd (omega (arith, l))
marked_with (true ∷ marks) (x ∷ asks) (suc i) mark ask l w want (inl e) = inl (inl e)
marked_with (true ∷ marks) (x ∷ asks) (suc i) mark ask l w want (inr m) =
    elim (marked_with marks asks i mark ask (omega (arith, l)) (omega (arith, w)) want m) [ inl h ↦ inl (inr h) | inr h ↦ inr h ]
marked_with (false ∷ marks) (x ∷ asks) (suc i) mark ask l w want m = marked_with marks asks i mark ask (omega (arith, l)) (omega (arith, w)) want m

-- what is marked after both at an index were set
pub marked_set : (marks : List Bool) (asks : List Ask) (i : ℕ) (mark : Bool) (ask : Ask) → AreAmongOr ask mark (wants_marked (slice_set marks i mark) (slice_set asks i ask)) (wants_marked marks asks)
marked_set [] asks i mark ask want m = absurd m
marked_set (x ∷ marks) [] zero mark ask want m = absurd m
marked_set (x ∷ marks) [] (suc i) mark ask want m = absurd m
marked_set (true ∷ marks) (y ∷ asks) zero true ask want (inl e) = inr (refl, sym e)
marked_set (true ∷ marks) (y ∷ asks) zero true ask want (inr m) = inl (inr m)
marked_set (true ∷ marks) (y ∷ asks) zero false ask want m = inl (inr m)
marked_set (false ∷ marks) (y ∷ asks) zero true ask want (inl e) = inr (refl, sym e)
marked_set (false ∷ marks) (y ∷ asks) zero true ask want (inr m) = inl m
marked_set (false ∷ marks) (y ∷ asks) zero false ask want m = inl m
marked_set (true ∷ marks) (y ∷ asks) (suc i) mark ask want (inl e) = inl (inl e)
marked_set (true ∷ marks) (y ∷ asks) (suc i) mark ask want (inr m) = elim (marked_set marks asks i mark ask want m) [ inl h ↦ inl (inr h) | inr h ↦ inr h ]
marked_set (false ∷ marks) (y ∷ asks) (suc i) mark ask want m = marked_set marks asks i mark ask want m

-- an ask that wants the same in place of one
pub marked_same : (marks : List Bool) (asks : List Ask) (i : ℕ) (ask old : Ask) → slice_get asks i ≡ Some old → want_of ask ≡ want_of old → wants_marked marks (slice_set asks i ask) ≡ wants_marked marks asks
marked_same [] asks i ask old a e = refl
marked_same (x ∷ marks) [] zero ask old a e = refl
marked_same (x ∷ marks) [] (suc i) ask old a e = refl
marked_same (true ∷ marks) (y ∷ asks) zero ask old a e = (let same : y ≡ old = cc a in ap (λ w. w ∷ wants_marked marks asks) (e ∙ ap want_of (sym same)))
marked_same (false ∷ marks) (y ∷ asks) zero ask old a e = refl
marked_same (true ∷ marks) (y ∷ asks) (suc i) ask old a e = ap (λ ws. want_of y ∷ ws) (marked_same marks asks i ask old a e)
marked_same (false ∷ marks) (y ∷ asks) (suc i) ask old a e = marked_same marks asks i ask old a e

-- what is marked is wanted at an index whose mark is set
pub marked_from : (marks : List Bool) (asks : List Ask) (want : Want) → IsIn want (wants_marked marks asks) → (i : ℕ) × (ask : Ask) × (slice_get marks i ≡ Some true) × (slice_get asks i ≡ Some ask) × (want ≡ want_of ask)
marked_from [] asks want m = absurd m
marked_from (x ∷ marks) [] want m = absurd m
marked_from (true ∷ marks) (y ∷ asks) want (inl e) = (zero, y, refl, refl, sym e)
marked_from (true ∷ marks) (y ∷ asks) want (inr m) = let r = marked_from marks asks want m in (suc r.0, r.1, r.2, r.3, r.4)
marked_from (false ∷ marks) (y ∷ asks) want m = let r = marked_from marks asks want m in (suc r.0, r.1, r.2, r.3, r.4)

-- as many marks as asks, after a change of both
pub same_without : (marks : List Bool) (asks : List Ask) (i : ℕ) → length marks ≡ length asks → i < length asks → length (remove marks i) ≡ length (remove asks i)
same_without marks asks i l w = let a = length-remove marks i (omega (arith, l, w)) in let b = length-remove asks i w in omega (arith, a, b, l)

pub same_with : (marks : List Bool) (asks : List Ask) (i : ℕ) (mark : Bool) (ask : Ask) → length marks ≡ length asks → i ≤ length asks → length (insert marks i mark) ≡ length (insert asks i ask)
same_with marks asks i mark ask l w = let a = length-insert marks i mark (omega (arith, l, w)) in let b = length-insert asks i ask w in omega (arith, a, b, l)

pub same_set : (marks : List Bool) (asks : List Ask) (i : ℕ) (mark : Bool) (ask : Ask) → length marks ≡ length asks → length (slice_set marks i mark) ≡ length (slice_set asks i ask)
same_set marks asks i mark ask l = length-set marks i mark ∙ l ∙ sym (length-set asks i ask)

-- one of several fits where all do
pub one_fits : (n size most : ℕ) → 1 ≤ n → n * size < most → size < most
one_fits n size most l w = let more = mul-le-mul_right {m = 1} {n = n} size l in omega (arith, w, more)

get_set_same : (xs : List Bool) (i : ℕ) (x : Bool) → i < length xs → slice_get (slice_set xs i x) i ≡ Some x
get_set_same [] i x l = absurd (omega (arith, l))
get_set_same (y ∷ xs) zero x l = refl
get_set_same (y ∷ xs) (suc i) x l = get_set_same xs i x (omega (arith, l))

get_set_other : (xs : List Bool) (i j : ℕ) (x : Bool) → nat_eq i j ≡ false → slice_get (slice_set xs j x) i ≡ slice_get xs i
get_set_other [] i j x e = refl
get_set_other (y ∷ xs) zero zero x e = absurd (cc e)
get_set_other (y ∷ xs) zero (suc j) x e = refl
get_set_other (y ∷ xs) (suc i) zero x e = refl
get_set_other (y ∷ xs) (suc i) (suc j) x e = get_set_other xs i j x (grind (arith, nat_tests, e))

-- what is marked of asks up to an index once the marks of those went that a node could take
pub record AreSeenTo (host rack total : List ℕ) (marks old : List Bool) (asks : List Ask) (index : ℕ) : Type 0 where
  pub count : length marks ≡ length old
  pub before : (i : ℕ) (ask : Ask) → slice_get marks i ≡ Some true → slice_get asks i ≡ Some ask → (slice_get old i ≡ Some true) × (i < index → could_take (want_of ask) host rack total ≡ false)

pub none_seen : (host rack total : List ℕ) (marks : List Bool) (asks : List Ask) → AreSeenTo host rack total marks marks asks 0
none_seen host rack total marks asks = record { count = refl; before = λ i ask m a. (m, λ l. absurd (omega (arith, l))) }

-- the next one is not taken, so its mark stays
pub seen_kept : (host rack total : List ℕ) (marks old : List Bool) (asks : List Ask) (index : ℕ) (ask : Ask) → slice_get asks index ≡ Some ask → could_take (want_of ask) host rack total ≡ false → AreSeenTo host rack total marks old asks index → AreSeenTo host rack total marks old asks (index + 1)
seen_kept host rack total marks old asks index ask at off s = record {
  count = s.count;
  before = λ i it m a. let r = s.before i it m a in (r.0, λ l. by i it a l r.1 (nat_eq i index) refl);
}
  where
    by : (i : ℕ) (it : Ask) → slice_get asks i ≡ Some it → i < index + 1 → (i < index → could_take (want_of it) host rack total ≡ false) → (b : Bool) → nat_eq i index ≡ b → could_take (want_of it) host rack total ≡ false
    by i it a l f true e = let same : i ≡ index = grind (arith, nat_tests, e) in let is : it ≡ ask = cc (sym a ∙ ap (slice_get asks) same ∙ at) in ap (λ x. could_take (want_of x) host rack total) is ∙ off
    by i it a l f false e = f (grind (arith, nat_tests, e, l))

-- or it is taken, and its mark goes
pub seen_gone : (host rack total : List ℕ) (marks old : List Bool) (asks : List Ask) (index : ℕ) → index < length marks → AreSeenTo host rack total marks old asks index → AreSeenTo host rack total (slice_set marks index false) old asks (index + 1)
seen_gone host rack total marks old asks index within s = record {
  count = length-set marks index false ∙ s.count;
  before = λ i it m a. by i it m a (nat_eq i index) refl;
}
  where
    by : (i : ℕ) (it : Ask) → slice_get (slice_set marks index false) i ≡ Some true → slice_get asks i ≡ Some it → (b : Bool) → nat_eq i index ≡ b → (slice_get old i ≡ Some true) × (i < index + 1 → could_take (want_of it) host rack total ≡ false)
    by i it m a true e = let same : i ≡ index = grind (arith, nat_tests, e) in absurd (cc (sym m ∙ ap (slice_get (slice_set marks index false)) same ∙ get_set_same marks index false within))
    by i it m a false e =
        let other = get_set_other marks i index false e in
        let r = s.before i it (sym other ∙ m) a in
        (r.0, λ l. r.1 (grind (arith, nat_tests, e, l)))

-- so what is marked after all were seen was marked, and the node could not take it
pub all_seen : (host rack total : List ℕ) (marks old : List Bool) (asks : List Ask) → AreSeenTo host rack total marks old asks (length asks) → AreLeftBy host rack total (wants_marked marks asks) (wants_marked old asks)
all_seen host rack total marks old asks s want m =
    let f = marked_from marks asks want m in
    let r = s.before f.0 f.1 f.2 f.3 in (
      subst (λ w. IsIn w (wants_marked old asks)) (sym f.4) (marked_at old asks f.0 f.1 r.0 f.3),
      ap (λ w. could_take w host rack total) f.4 ∙ r.1 (slice_get_within asks f.0 f.1 f.3),
    )

-- a test of sizes says whether one fits the other
pub size_test : (fit : Bool) (a b : List ℕ) → (IsTrue fit ↔ Fits a b) → fit ≡ fits a b
size_test true a b h = sym (amounts_fit a b (h.0 refl))
size_test false a b h = by (fits a b) refl
  where
    by : (t : Bool) → fits a b ≡ t → false ≡ fits a b
    by false e = sym e
    by true e = absurd (cc (h.1 (fits_amounts a b e)))

-- where its place is taken, an ask could be taken exactly where its size fits
pub sized : (want : Want) (host rack total place resource : List ℕ) (taken fit : Bool) → place ≡ want.place → resource ≡ want.resource → taken ≡ (bytes_eq place (star ∷ []) || bytes_eq place host || bytes_eq place rack) → taken ≡ true
    → (IsTrue fit ↔ Fits resource total) → fit ≡ could_take want host rack total
sized want host rack total place resource taken fit p r is here test =
    size_test fit resource total test ∙ ap (λ x. fits x total) r ∙ sym (ap (λ b. b && fits want.resource total) (ap (λ q. bytes_eq q (star ∷ []) || bytes_eq q host || bytes_eq q rack) (sym p) ∙ sym is ∙ here))

-- what the impossible asks of entries want
pub none_among : (these those : List Want) → AreAmong these those → those ≡ [] → these ≡ []
none_among [] those h e = refl
none_among (want ∷ wants) those h e = absurd (subst (IsIn want) e (h want (inl refl)))

pub own_wants : (n : ℕ) (es : List (ℕ × HeldApp)) (old : HeldApp) → lookup (nat_eq n) es ≡ Some old → AreAmong old.impossible (impossible_in es)
own_wants n [] old e want m = absurd (cc e)
own_wants n (e ∷ es) old found want m = by (nat_eq n e.0) found (λ f. own_wants n es old f want m)
  where
    by : (b : Bool) → cond b (Some e.1) (lookup (nat_eq n) es) ≡ Some old → (lookup (nat_eq n) es ≡ Some old → IsIn want (impossible_in es)) → IsIn want (impossible_in (e ∷ es))
    by true f r = in_left want e.1.impossible (impossible_in es) (let same : e.1 ≡ old = cc f in subst (λ (x : HeldApp). IsIn want x.impossible) (sym same) m)
    by false f r = in_right want e.1.impossible (impossible_in es) (r f)

set_wants : (n : ℕ) (es : List (ℕ × HeldApp)) (now : HeldApp) (want : Want) → IsIn want (impossible_in (set_value (nat_eq n) es now)) → IsIn want now.impossible ⊎ IsIn want (impossible_in es)
set_wants n [] now want m = absurd m
set_wants n (e ∷ es) now want m = by (nat_eq n e.0) m (set_wants n es now want)
  where
    by : (b : Bool) → IsIn want (impossible_in (cond b ((e.0, now) ∷ es) (e ∷ set_value (nat_eq n) es now))) → (IsIn want (impossible_in (set_value (nat_eq n) es now)) → IsIn want now.impossible ⊎ IsIn want (impossible_in es))
        → IsIn want now.impossible ⊎ IsIn want (impossible_in (e ∷ es))
    by true m r = elim (in_either want now.impossible (impossible_in es) m) [ inl a ↦ inl a | inr b ↦ inr (in_right want e.1.impossible (impossible_in es) b) ]
    by false m r =
        elim (in_either want e.1.impossible (impossible_in (set_value (nat_eq n) es now)) m) [
          | inl a ↦ inr (in_left want e.1.impossible (impossible_in es) a)
          | inr b ↦ elim (r b) [ inl x ↦ inl x | inr y ↦ inr (in_right want e.1.impossible (impossible_in es) y) ]
        ]

-- after one changed
pub among_changed : (n : ℕ) (es es' : List (ℕ × HeldApp)) (old now : HeldApp) → lookup (nat_eq n) es ≡ Some old → es' ≡ set_value (nat_eq n) es now → AreAmong now.impossible old.impossible → AreAmong (impossible_in es') (impossible_in es)
among_changed n es es' old now found is among want m =
    elim (set_wants n es now want (subst (λ xs. IsIn want (impossible_in xs)) is m)) [ inl a ↦ own_wants n es old found want (among want a) | inr b ↦ b ]

or_changed : (n : ℕ) (es es' : List (ℕ × HeldApp)) (old now : HeldApp) (ask : Ask) (impossible : Bool) → lookup (nat_eq n) es ≡ Some old → es' ≡ set_value (nat_eq n) es now → AreAmongOr ask impossible now.impossible old.impossible → AreAmongOr ask impossible (impossible_in es') (impossible_in es)
or_changed n es es' old now ask impossible found is among want m =
    elim (set_wants n es now want (subst (λ xs. IsIn want (impossible_in xs)) is m)) [
      | inl a ↦ elim (among want a) [ inl x ↦ inl (own_wants n es old found want x) | inr y ↦ inr y ]
      | inr b ↦ inl b
    ]

pub marks_changed : {K : ℕ} (change : Change K) (n : ℕ) (es es' : List (ℕ × HeldApp)) (old now : HeldApp) → lookup (nat_eq n) es ≡ Some old → es' ≡ set_value (nat_eq n) es now → Marks change old.impossible now.impossible → Marks change (impossible_in es) (impossible_in es')
marks_changed Register n es es' old now found is marks = among_changed n es es' old now found is marks
marks_changed (PutAsk put impossible) n es es' old now found is marks = or_changed n es es' old now put.now impossible found is marks
marks_changed (TakeOne key) n es es' old now found is marks = among_changed n es es' old now found is marks
marks_changed (AddGrant grant) n es es' old now found is marks = among_changed n es es' old now found is marks
marks_changed (AddEnd end) n es es' old now found is marks = among_changed n es es' old now found is marks

pub marks_stay : {K : ℕ} (change : Change K) (wants : List Want) → Marks change wants wants
marks_stay Register wants = λ want m. m
marks_stay (PutAsk put impossible) wants = λ want m. inl m
marks_stay (TakeOne key) wants = λ want m. m
marks_stay (AddGrant grant) wants = λ want m. m
marks_stay (AddEnd end) wants = λ want m. m

-- where none was impossible and none is put so, none is
pub none_marks : {K : ℕ} (change : Change K) (old new : List Want) → Marks change old new → puts_impossible change ≡ false → old ≡ [] → new ≡ []
none_marks Register old new m p e = none_among new old m e
none_marks (PutAsk put impossible) old new m p e = none_among new old (λ want i. elim (m want i) [ inl a ↦ a | inr b ↦ absurd (cc (sym p ∙ b.0)) ]) e
none_marks (TakeOne key) old new m p e = none_among new old m e
none_marks (AddGrant grant) old new m p e = none_among new old m e
none_marks (AddEnd end) old new m p e = none_among new old m e

pub neither : (a b : Bool) → (a || b) ≡ false → (a ≡ false) × (b ≡ false)
neither true b e = absurd (cc e)
neither false b e = (refl, e)

-- without one, and with one more at the end that has none
pub among_without : (test : ℕ → Bool) (es : List (ℕ × HeldApp)) → AreAmong (impossible_in (remove_entry test es)) (impossible_in es)
among_without test [] want m = absurd m
among_without test (e ∷ es) want m = by (test e.0) m (among_without test es want)
  where
    by : (b : Bool) → IsIn want (impossible_in (cond b es (e ∷ remove_entry test es))) → (IsIn want (impossible_in (remove_entry test es)) → IsIn want (impossible_in es)) → IsIn want (impossible_in (e ∷ es))
    by true m r = in_right want e.1.impossible (impossible_in es) m
    by false m r =
        elim (in_either want e.1.impossible (impossible_in (remove_entry test es)) m) [
          | inl a ↦ in_left want e.1.impossible (impossible_in es) a
          | inr b ↦ in_right want e.1.impossible (impossible_in es) (r b)
        ]

pub among_front : (es : List (ℕ × HeldApp)) (p : ℕ × HeldApp) → AreAmong (impossible_in es) (impossible_in (es ++ p ∷ []))
among_front [] p want m = absurd m
among_front (e ∷ es) p want m =
    elim (in_either want e.1.impossible (impossible_in es) m) [
      | inl a ↦ in_left want e.1.impossible (impossible_in (es ++ p ∷ [])) a
      | inr b ↦ in_right want e.1.impossible (impossible_in (es ++ p ∷ [])) (among_front es p want b)
    ]

pub among_more : (es : List (ℕ × HeldApp)) (n : ℕ) (x : HeldApp) → x.impossible ≡ [] → AreAmong (impossible_in (es ++ (n, x) ∷ [])) (impossible_in es)
among_more [] n x none want m = elim (in_either want x.impossible [] m) [ inl a ↦ absurd (subst (IsIn want) none a) | inr b ↦ b ]
among_more (e ∷ es) n x none want m =
    elim (in_either want e.1.impossible (impossible_in (es ++ (n, x) ∷ [])) m) [
      | inl a ↦ in_left want e.1.impossible (impossible_in es) a
      | inr b ↦ in_right want e.1.impossible (impossible_in es) (among_more es n x none want b)
    ]

pub same_among : {these those : List Want} → these ≡ those → AreAmong these those
same_among {these} {those} e want m = subst (IsIn want) e m

pub same_through : (these next those : List Want) → these ≡ next → AreAmong next those → AreAmong these those
same_through these next those e h want m = h want (subst (IsIn want) e m)
