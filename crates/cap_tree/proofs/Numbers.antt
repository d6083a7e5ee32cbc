-- Where a number stands among numbers in order, or would stand.
use Rattle.cap_tree.proofs.Prelude.{◌≡◌, ℕ, zero, suc, ◌+◌, ◌-◌, ◌<◌, ◌≤◌, true, false, List, [], ◌∷◌, length, get_or, insert, Option, Some, None, refl, sym, ◌∙◌, ap, subst, arith, inl, inr, nat_eq, nat_lt, nat_tests, ◌==◌, cases_lt, slice_get, slice_get-get_or, slice_get_past, IsIn}
use Rattle.std.specs.List.{remove}
use Rattle.cap_base.specs.Members.{IsRising}
use Rattle.cap_tree.specs.Numbers.{AreNumbers, IsNextNumber, IsPlaceOf, with_number, without_number}
use Rattle.cap_tree.specs.NumberLaws.{none_without}

rising_at : (low high i : ℕ) (ns : List ℕ) → IsRising low ns high → i < length ns → low ≤ get_or ns i 0
rising_at low high i [] h l = absurd (omega (arith, l))
rising_at low high zero (n ∷ ns) h l = h.0
rising_at low high (suc i) (n ∷ ns) h l = let r = rising_at (n + 1) high i ns h.1 (omega (arith, l)) in let first = h.0 in omega (arith, r, first)

ordered : (low high : ℕ) (ns : List ℕ) → IsRising low ns high → (i j : ℕ) → i < j → j < length ns → get_or ns i 0 < get_or ns j 0
ordered low high [] h i j lt l = absurd (omega (arith, l))
ordered low high (n ∷ ns) h i zero lt l = absurd (omega (arith, lt))
ordered low high (n ∷ ns) h zero (suc j) lt l = let r = rising_at (n + 1) high j ns h.1 (omega (arith, l)) in omega (arith, r)
ordered low high (n ∷ ns) h (suc i) (suc j) lt l = ordered (n + 1) high ns h.1 i j (omega (arith, lt)) (omega (arith, l))

pub in_order : (low high : ℕ) (ns : List ℕ) → IsRising low ns high → (i j : ℕ) → i ≤ j → j < length ns → get_or ns i 0 ≤ get_or ns j 0
in_order low high ns h i j le l = elim (cases_lt i j) [
  | inl less ↦ let o = ordered low high ns h i j less l in omega (arith, o)
  | inr more ↦ let same : i ≡ j = omega (arith, le, more) in let is = ap (λ k. get_or ns k 0) same in omega (arith, is)
]

in_list : (ns : List ℕ) (k : ℕ) → k < length ns → IsIn (get_or ns k 0) ns
in_list [] k l = absurd (omega (arith, l))
in_list (n ∷ ns) zero l = inl refl
in_list (n ∷ ns) (suc k) l = inr (in_list ns k (omega (arith, l)))

index_of : (n : ℕ) (ns : List ℕ) → IsIn n ns → (k : ℕ) × (k < length ns) × (get_or ns k 0 ≡ n)
index_of n [] m = absurd m
index_of n (k ∷ ns) (inl e) = (zero, omega arith, e)
index_of n (k ∷ ns) (inr m) = let r = index_of n ns m in let lt = r.1 in (suc (r.0), omega (arith, lt), r.2)

with_at : (n i : ℕ) (ns : List ℕ) → i ≤ length ns → ((k : ℕ) → k < i → get_or ns k 0 < n) → ((k : ℕ) → i ≤ k → k < length ns → n ≤ get_or ns k 0) → with_number n ns ≡ insert ns i n
with_at n zero [] l below above = refl
with_at n (suc i) [] l below above = absurd (omega (arith, l))
with_at n zero (e ∷ ns) l below above =
    let more = above 0 (omega arith) (omega arith) in
    let lt : nat_lt e n ≡ false = grind (arith, nat_tests, more) in
    rw lt refl
with_at n (suc i) (e ∷ ns) l below above =
    let less = below 0 (omega arith) in
    let lt : nat_lt e n ≡ true = grind (arith, nat_tests, less) in
    rw lt (ap (λ xs. e ∷ xs) (with_at n i ns (omega (arith, l)) (λ k a. below (suc k) (omega (arith, a))) (λ k a b. above (suc k) (omega (arith, a)) (omega (arith, b)))))

without_at : (n low high i : ℕ) (ns : List ℕ) → IsRising low ns high → i < length ns → get_or ns i 0 ≡ n → without_number n ns ≡ remove ns i
without_at n low high i [] h l e = absurd (omega (arith, l))
without_at n low high zero (e ∷ ns) h l is =
    let same : (e == n) ≡ true = grind (arith, nat_tests, is) in
    rw same (none_without n (e + 1) high ns (omega (arith, is)) h.1)
without_at n low high (suc i) (e ∷ ns) h l is =
    let r = rising_at (e + 1) high i ns h.1 (omega (arith, l)) in
    let other : (e == n) ≡ false = grind (arith, nat_tests, r, is) in
    rw other (ap (λ xs. e ∷ xs) (without_at n (e + 1) high i ns h.1 (omega (arith, l)) is))

module _ (n : ℕ) (ns : List ℕ) (a : AreNumbers ns) (place : ℕ) (p : IsPlaceOf n ns place) where
  -- a number that is not there yet comes to its place
  pub put_at : ¬ IsIn n ns → with_number n ns ≡ insert ns place n
  put_at out =
      with_at n place ns p.within (λ k lt.
      let le = p.before k lt in
      let w = p.within in
      let other : get_or ns k 0 ≡ n → ⊥ = λ e. out (subst (λ m. IsIn m ns) e (in_list ns k (omega (arith, lt, w)))) in
      omega (arith, le, other)) (λ k le lt. let more = p.after k le lt in omega (arith, more))

  -- what stands before its place is there
  pub there_before : 1 ≤ place → nat_eq (get_or ns (place - 1) 0) n ≡ true → IsIn n ns
  there_before some e = let w = p.within in subst (λ m. IsIn m ns) (grind (arith, nat_tests, e)) (in_list ns (place - 1) (omega (arith, some, w)))

  -- one that is there stands before its place
  module _ (there : IsIn n ns) where
    index : (k : ℕ) × (k < length ns) × (get_or ns k 0 ≡ n)
    index = index_of n ns there

    before_place : index.0 < place
    before_place = elim (cases_lt (index.0) place) [
      | inl less ↦ less
      | inr more ↦ absurd (let later = p.after (index.0) more (index.1) in let is = index.2 in omega (arith, later, is))
    ]

    pub some_before : 1 ≤ place
    some_before = let b = before_place in omega (arith, b)

    pub last_within : place - 1 < length ns
    last_within = let b = before_place in let w = p.within in omega (arith, b, w)

    pub last_is : get_or ns (place - 1) 0 ≡ n
    last_is =
        let b = before_place in
        let w = p.within in
        let le = p.before (place - 1) (omega (arith, b)) in
        let o = in_order 1 a.end ns a.rise (index.0) (place - 1) (omega (arith, b)) (omega (arith, b, w)) in
        let is = index.2 in
        omega (arith, le, o, is)

    pub taken_at : without_number n ns ≡ remove ns (place - 1)
    taken_at = without_at n 1 a.end (place - 1) ns a.rise last_within last_is

  -- what stands at its place is the next
  pub next_at : (o : Option ℕ) → o ≡ slice_get ns place → IsNextNumber n ns o
  next_at None e =
      λ k m.
      let i = index_of k ns m in
      let is = i.2 in
      elim (cases_lt (i.0) place) [
        | inl less ↦ let le = p.before (i.0) less in omega (arith, le, is)
        | inr more ↦ absurd (let within : place < length ns = (let l = i.1 in omega (arith, more, l)) in let some = slice_get-get_or ns place 0 within in cc (e, some))
      ]
  next_at (Some m) e = elim (cases_lt place (length ns)) [
    | inl within ↦
        let some : Some m ≡ Some (get_or ns place 0) = e ∙ slice_get-get_or ns place 0 within in
        let is : m ≡ get_or ns place 0 = cc some in
        let later = p.after place (omega arith) within in
        record {
          there = subst (λ x. IsIn x ns) (sym is) (in_list ns place within);
          later = omega (arith, is, later);
          least = λ k h lt.
              let i = index_of k ns h in
              let at = i.2 in
              elim (cases_lt (i.0) place) [
                | inl less ↦ absurd (let le = p.before (i.0) less in omega (arith, le, at, lt))
                | inr more ↦ let o = in_order 1 a.end ns a.rise place (i.0) more (i.1) in omega (arith, is, o, at)
              ];
        }
    | inr past ↦ absurd (past_none m e past)
  ]
    where
      past_none : (m : ℕ) → Some m ≡ slice_get ns place → length ns ≤ place → ⊥
      past_none m e past = let n = slice_get_past ns place past in cc (e, n)
