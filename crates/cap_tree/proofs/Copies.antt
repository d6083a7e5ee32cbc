-- The spots of a tree whose items are copies.
use Rattle.cap_tree.proofs.Prelude.{◌≡◌, ℕ, suc, ◌+◌, ◌≤◌, List, [], ◌∷◌, ◌++◌, length, refl, sym, ◌∙◌, ap, subst, arith, map, sum_by, take, get_or, ◌<◌, get_or-map, map-append, length-map, length-take-le, take_all, take_more, sum_by-cons, All-map, Measure, Spot, below, first_of, made_of, spots, under, AreSpots, IsBranch, of_tree}

module _ {T U : Type 0} (f : T → U) where
  made-under : (name : List ℕ) (j : ℕ) (ss : List (Spot T)) → map (under name j) (map (made_of f) ss) ≡ map (made_of f) (map (under name j) ss)
  made-under name j [] = refl
  made-under name j (s ∷ ss) = ap (λ t. made_of f (under name j s) ∷ t) (made-under name j ss)

  made-below : (name : List ℕ) (j : ℕ) (kids : List (List (Spot T))) → below name j (map (map (made_of f)) kids) ≡ map (made_of f) (below name j kids)
  made-below name j [] = refl
  made-below name j (k ∷ ks) =
      ap (λ t. t ++ below name (suc j) (map (map (made_of f)) ks)) (made-under name j k)
      ∙ ap (λ t. map (made_of f) (map (under name j) k) ++ t) (made-below name (suc j) ks)
      ∙ sym (map-append (made_of f) (map (under name j) k) (below name (suc j) ks))

  -- a copy has the copied spots where it keeps the name
  pub made-spots : (name : T → List ℕ) (name' : U → List ℕ) (item : T) (kids : List (List (Spot T))) → name' (f item) ≡ name item →
      spots name' (f item) (map (map (made_of f)) kids) ≡ map (made_of f) (spots name item kids)
  made-spots name name' item kids e = rw (e, made-below (name item) 0 kids)

  -- and so it is that of a tree
  pub tree_made : (name : T → List ℕ) (name' : U → List ℕ) → ((x : T) → name' (f x) ≡ name x) → {ss : List (Spot T)} → AreSpots name ss → AreSpots name' (map (made_of f) ss)
  tree_made name name' e (of_tree item kids each) =
      subst (AreSpots name') (made-spots name name' item kids (e item))
      (of_tree (f item) (map (map (made_of f)) kids)
      (λ i lt. let l : i < length kids = (let m = length-map kids (map (made_of f)) in omega (arith, lt, m)) in subst (AreSpots name') (sym (get_or-map (map (made_of f)) kids i [] [] l)) (tree_made name name' e (each i l))))

  first_made : (g : U → ℕ) (h : T → ℕ) → ((x : T) → g (f x) ≡ h x) → (ss : List (Spot T)) → first_of g (map (made_of f) ss) ≡ first_of h ss
  first_made g h e [] = refl
  first_made g h e (s ∷ ss) = e s.item

  sum_made : (g : U → ℕ) (h : T → ℕ) → ((x : T) → g (f x) ≡ h x) → (kids : List (List (Spot T))) → sum_by (first_of g) (map (map (made_of f)) kids) ≡ sum_by (first_of h) kids
  sum_made g h e [] = refl
  sum_made g h e (k ∷ ks) = simp sum_by-cons (omega (arith, first_made g h e k, sum_made g h e ks))

  -- what holds at each level holds of the copy where it keeps the counts
  pub branch_made : (name : T → List ℕ) (stored own : T → Measure → ℕ) (name' : U → List ℕ) (stored' own' : U → Measure → ℕ) → ((x : T) → name' (f x) ≡ name x) → ((x : T) (m : Measure) → stored' (f x) m ≡ stored x m) →
      ((x : T) (m : Measure) → own' (f x) m ≡ own x m) → (item : T) (kids : List (List (Spot T))) → IsBranch name stored own item kids → IsBranch name' stored' own' (f item) (map (map (made_of f)) kids)
  branch_made name stored own name' stored' own' en es eo item kids b = record {
    sums = λ m.
        let s = b.sums m in
        let x = es item m in
        let y = eo item m in
        let z = sum_made (λ u. stored' u m) (λ t. stored t m) (λ t. es t m) kids in
        omega (arith, s, x, y, z);
    trees = All-map (AreSpots name') (map (made_of f)) kids (λ k d lt. tree_made name name' en (b.trees k d lt));
    few = let l = length-map kids (map (made_of f)) in omega (arith, l, b.few);
  }

pub made-itself : {T : Type 0} (ss : List (Spot T)) → map (made_of (λ (x : T). x)) ss ≡ ss
made-itself [] = refl
made-itself (s ∷ ss) = ap (λ t. s ∷ t) (made-itself ss)

-- copies of the first children, and of one more
module _ {T U : Type 0} (f : T → U) (kids : List (List (Spot T))) (i : ℕ) where
  pub copied_length : (copies : List (List (Spot U))) → i ≤ length kids → copies ≡ map (map (made_of f)) (take i kids) → length copies ≡ i
  copied_length copies h e =
      let a = ap length e in
      let b = length-map (take i kids) (map (made_of f)) in
      let c = length-take-le i kids h in
      omega (arith, a, b, c)

  pub copied_more : (kid : List (Spot T)) (copy : List (Spot U)) (copies copies' : List (List (Spot U))) → i < length kids → kid ≡ get_or kids i kid → copy ≡ map (made_of f) kid →
      copies ≡ map (map (made_of f)) (take i kids) → copies' ≡ copies ++ copy ∷ [] → copies' ≡ map (map (made_of f)) (take (i + 1) kids)
  copied_more kid copy copies copies' h k e so_far put =
      put ∙ (λ j. so_far j ++ e j ∷ []) ∙ sym (map-append (map (made_of f)) (take i kids) (kid ∷ [])) ∙ ap (map (map (made_of f))) (ap (λ x. take i kids ++ x ∷ []) k ∙ sym (take_more kids i kid h))

  pub copied_all : (own : List (List (Spot T))) (copies : List (List (Spot U))) → kids ≡ own → length kids ≤ i → copies ≡ map (map (made_of f)) (take i kids) → copies ≡ map (map (made_of f)) own
  copied_all own copies same h e = e ∙ ap (map (map (made_of f))) (take_all i kids h ∙ same)
