-- Where the asks of each application lie, and how such a range is found.
use Rattle.cap_copy.proofs.Prelude.{◌≡◌, ◌≢◌, ℕ, zero, suc, ◌+◌, ◌<◌, ◌≤◌, List, [], ◌∷◌, ◌++◌, length, length-append, map, refl, sym, ◌∙◌, ap, subst, arith, inl, inr, ◌⊎◌, Some, None, option_map, slice_get, set, cases_lt, length-map, same_Some, slice_get-map, slice_get_within, IsIn, AskRange, AskEntry, AreApart, AreInside, AreRanges, IsIndexOf, IsRangeOf, SeenApp, range_in}
use Rattle.cap_copy.proofs.LoopSteps.{slice_get_in}

-- what stands at an index of a list in which one element was replaced
module _ {A : Type 0} where
  pub set_here : (xs : List A) (k : ℕ) (v x : A) → slice_get xs k ≡ Some x → slice_get (set xs k v) k ≡ Some v
  set_here [] k v x at = absurd (cc at)
  set_here (y ∷ xs) zero v x at = refl
  set_here (y ∷ xs) (suc k) v x at = set_here xs k v x at

  pub set_other : (xs : List A) (k i : ℕ) (v : A) → i ≢ k → slice_get (set xs k v) i ≡ slice_get xs i
  set_other [] k i v other = refl
  set_other (y ∷ xs) zero zero v other = absurd (other refl)
  set_other (y ∷ xs) zero (suc i) v other = refl
  set_other (y ∷ xs) (suc k) zero v other = refl
  set_other (y ∷ xs) (suc k) (suc i) v other = set_other xs k i v (λ same. other (ap suc same))

  -- an element more
  pub pushed : (xs : List A) (x : A) (i : ℕ) (y : A) → slice_get (xs ++ x ∷ []) i ≡ Some y → (slice_get xs i ≡ Some y) ⊎ ((i ≡ length xs) × (x ≡ y))
  pushed [] x zero y at = inr (refl, same_Some x y at)
  pushed [] x (suc i) y at = absurd (cc at)
  pushed (z ∷ xs) x zero y at = inl at
  pushed (z ∷ xs) x (suc i) y at = elim (pushed xs x i y at) [ inl h ↦ inl h | inr h ↦ inr (ap suc h.0, h.1) ]

  pub stays : (xs ys : List A) (i : ℕ) (x : A) → slice_get xs i ≡ Some x → slice_get (xs ++ ys) i ≡ Some x
  stays [] ys i x at = absurd (cc at)
  stays (z ∷ xs) ys zero x at = at
  stays (z ∷ xs) ys (suc i) x at = stays xs ys i x at

  pub last_at : (xs : List A) (x : A) → slice_get (xs ++ x ∷ []) (length xs) ≡ Some x
  last_at [] x = refl
  last_at (z ∷ xs) x = last_at xs x

  -- what stands at an index of two lists is in the first, or in the second
  pub either_at : (xs ys : List A) (i : ℕ) (x : A) → slice_get (xs ++ ys) i ≡ Some x → (slice_get xs i ≡ Some x) ⊎ ((length xs ≤ i) × IsIn x ys)
  either_at [] ys i x at = inr (omega arith, slice_get_in ys i x at)
  either_at (z ∷ xs) ys zero x at = inl at
  either_at (z ∷ xs) ys (suc i) x at = elim (either_at xs ys i x at) [ inl h ↦ inl h | inr h ↦ inr (let l = h.0 in omega (arith, l), h.1) ]

-- the asks of one application more, at the end of those of the others
pub ranges_more : (asks more : List AskEntry) (ranges : List AskRange) (b : AskRange) → AreRanges asks ranges → b.start ≡ length asks → b.end ≡ length (asks ++ more) →
    ((e : AskEntry) → IsIn e more → (e.index ≡ length ranges) × (b.app ≡ e.app)) → AreRanges (asks ++ more) (ranges ++ b ∷ [])
ranges_more asks more ranges b are start end own = record {
  ends = λ i r at. elim (pushed ranges b i r at) [
    | inl old ↦ let w = are.ends i r old in (w.0, let t = w.1 in let l = length-append asks more in omega (arith, t, l))
    | inr new ↦ subst (λ (x : AskRange). (x.start ≤ x.end) × (x.end ≤ length (asks ++ more))) new.1 (let l = length-append asks more in (omega (arith, start, end, l), omega (arith, end)))
  ];
  each = λ j e lt at. elim (either_at asks more j e at) [
    | inl old ↦
        let l = are.each j e (slice_get_within asks j e old) old in
        record { range = l.range; at = stays ranges (b ∷ []) e.index l.range l.at; app = l.app; from = l.from; to = l.to }
    | inr new ↦
        let w = own e new.1 in
        let from = new.0 in
        record {
          range = b;
          at = ap (slice_get (ranges ++ b ∷ [])) w.0 ∙ last_at ranges b;
          app = w.1;
          from = omega (arith, from, start);
          to = omega (arith, lt, end);
        }
  ];
}

-- all asks of an application lie in its range
pub inside_range : (asks : List AskEntry) (ranges : List AskRange) (app : ℕ) (range : AskRange) → AreRanges asks ranges → IsRangeOf app ranges (Some range) → (range.end ≤ length asks) × AreInside asks app range.start range.end
inside_range asks ranges app range filled found = (
  (filled.ends found.0.0 range found.0.1).1,
  λ j e at own.
      let below = slice_get_within asks j e at in
      let lies = filled.each j e below at in
      let same = found.1 e.index lies.range lies.at (lies.app ∙ own) in
      (subst (λ (r : AskRange). r.start ≤ j) same lies.from, subst (λ (r : AskRange). j < r.end) same lies.to),
)

-- the search for an application among those whose numbers rise
module _ (apps : List SeenApp) (app : ℕ) (apart : AreApart (map range_in apps)) where
  pub range_at : (i : ℕ) (a : SeenApp) → slice_get apps i ≡ Some a → slice_get (map range_in apps) i ≡ Some (range_in a)
  range_at i a at = slice_get-map range_in apps i ∙ ap (option_map range_in) at

  same_range : (i j : ℕ) (a : SeenApp) (b : AskRange) → i ≡ j → slice_get apps i ≡ Some a → slice_get (map range_in apps) j ≡ Some b → range_in a ≡ b
  same_range i j a b e at there = same_Some (range_in a) b (sym (range_at i a at) ∙ ap (slice_get (map range_in apps)) e ∙ there)

  pub below_middle : (m : ℕ) (a : SeenApp) → slice_get apps m ≡ Some a → a.held.app.number < app → (i : ℕ) (b : AskRange) → i < m + 1 → slice_get (map range_in apps) i ≡ Some b → b.app < app
  below_middle m a at less i b lt there = elim (cases_lt i m) [
    | inl l ↦ let rise = apart i m b (range_in a) l there (range_at m a at) in omega (arith, rise, less)
    | inr g ↦ subst (λ (r : AskRange). r.app < app) (same_range m i a b (omega (arith, lt, g)) at there) less
  ]

  pub above_middle : (m : ℕ) (a : SeenApp) → slice_get apps m ≡ Some a → app ≤ a.held.app.number → (i : ℕ) (b : AskRange) → m ≤ i → slice_get (map range_in apps) i ≡ Some b → app ≤ b.app
  above_middle m a at most i b le there = elim (cases_lt m i) [
    | inl l ↦ let rise = apart m i (range_in a) b l (range_at m a at) there in omega (arith, rise, most)
    | inr g ↦ subst (λ (r : AskRange). app ≤ r.app) (same_range m i a b (omega (arith, le, g)) at there) most
  ]

  pub found_at : (m : ℕ) (a : SeenApp) → slice_get apps m ≡ Some a → a.held.app.number ≡ app → IsRangeOf app (map range_in apps) (Some (range_in a))
  found_at m a at own = (
    (m, range_at m a at),
    λ i b there e. elim (cases_lt i m) [
      | inl l ↦ absurd (let rise = apart i m b (range_in a) l there (range_at m a at) in omega (arith, rise, own, e))
      | inr g ↦ elim (cases_lt m i) [
        | inl l ↦ absurd (let rise = apart m i (range_in a) b l (range_at m a at) there in omega (arith, rise, own, e))
        | inr k ↦ sym (same_range m i a b (omega (arith, g, k)) at there)
      ]
    ],
  )

  -- it is none of those before an index, and there are no others; or neither the one at the index nor one after it
  pub none_past : (m : ℕ) → length apps ≤ m → ((i : ℕ) (b : AskRange) → i < m → slice_get (map range_in apps) i ≡ Some b → b.app < app) → IsIndexOf app (map range_in apps) None
  none_past m past below i b there e =
      let w = slice_get_within (map range_in apps) i b there in
      let n = length-map apps range_in in
      let less = below i b (omega (arith, w, n, past)) there in
      omega (arith, less, e)

  pub none_at : (m : ℕ) (a : SeenApp) → slice_get apps m ≡ Some a → ((i : ℕ) (b : AskRange) → i < m → slice_get (map range_in apps) i ≡ Some b → b.app < app) → ((i : ℕ) (b : AskRange) → m ≤ i → slice_get (map range_in apps) i ≡ Some b → app ≤ b.app) →
      (a.held.app.number ≡ app → ⊥) → IsIndexOf app (map range_in apps) None
  none_at m a at below above other i b there e = elim (cases_lt i m) [
    | inl l ↦ let less = below i b l there in omega (arith, less, e)
    | inr g ↦ elim (cases_lt m i) [
      | inl l ↦
          let rise = apart m i (range_in a) b l (range_at m a at) there in
          let most = above m (range_in a) (omega arith) (range_at m a at) in
          omega (arith, rise, most, e)
      | inr k ↦ other (ap (λ (r : AskRange). r.app) (same_range m i a b (omega (arith, g, k)) at there) ∙ e)
    ]
  ]
