-- A position below child i leads into that child's spots, and a change along it changes those alone.
use Rattle.cap_tree.proofs.Prelude.{◌≡◌, ℕ, zero, suc, ◌+◌, ◌-◌, ◌≤◌, ◌<◌, Bool, true, false, cond, eqb, List, [], ◌∷◌, ◌++◌, length, get_or, set, Some, None, refl, sym, ◌∙◌, ap, arith, map, ◌≢◌, subst, take, drop, sum_by, eq-eqb, ne_eqb, map-append, get_or_default, take_all, sum_by-set, get_or-le-sum_by, bytes_eq, Spot, leads_to, item_at, under, below, spots, change_along, HoldsOfItem}

-- a first step and the others, as code sees them
pub rest-is : (i : ℕ) (p : List ℕ) → take (length (i ∷ p) - 1) (drop 1 (i ∷ p)) ≡ p
rest-is i p = let e : length (i ∷ p) - 1 ≡ length p = omega arith in rw e (take_all (length p) p (omega arith))

pub steps-is : (steps : List ℕ) → 1 ≤ length steps → steps ≡ get_or steps 0 0 ∷ take (length steps - 1) (drop 1 steps)
steps-is [] h = absurd (omega arith)
steps-is (i ∷ p) h = ap (λ t. i ∷ t) (sym (rest-is i p))

pub steps-empty : (steps : List ℕ) → length steps < 1 → steps ≡ []
steps-empty [] h = refl
steps-empty (i ∷ p) h = absurd (omega arith)

-- the sum over the children, at one child and after a change of it
pub child-le-sum : {X : Type 0} (f : X → ℕ) (kids : List X) (i : ℕ) (child : X) → i < length kids → child ≡ get_or kids i child → f child ≤ sum_by f kids
child-le-sum f kids i child h e = let b = get_or-le-sum_by f kids i child h in rw (← e) at b

pub sum-set_child : {X : Type 0} (f : X → ℕ) (kids : List X) (i : ℕ) (child child' : X) → i < length kids → child ≡ get_or kids i child → sum_by f (set kids i child') + f child ≡ sum_by f kids + f child'
sum-set_child f kids i child child' h e = let b = sum_by-set f kids i child' child h in rw (← e) at b

module _ {T : Type 0} where
  -- the item at a position below child i

  item_at-none_under : (name : List ℕ) (i j : ℕ) (p : List ℕ) (ss rest : List (Spot T)) → j ≢ i → item_at (i ∷ p) (map (under name j) ss ++ rest) ≡ item_at (i ∷ p) rest
  item_at-none_under name i j p [] rest h = refl
  item_at-none_under name i j p (s ∷ ss) rest h = rw (ne_eqb j i h) (item_at-none_under name i j p ss rest h)

  item_at-under : (name : List ℕ) (i : ℕ) (p : List ℕ) (ss rest : List (Spot T)) → item_at (i ∷ p) rest ≡ None → item_at (i ∷ p) (map (under name i) ss ++ rest) ≡ item_at p ss
  item_at-under name i p [] rest h = h
  item_at-under name i p (s ∷ ss) rest h = rw (eq-eqb i i refl) (ap (λ o. cond (bytes_eq s.position p) (Some s.item) o) (item_at-under name i p ss rest h))

  item_at-none_below : (name : List ℕ) (i j : ℕ) (p : List ℕ) (kids : List (List (Spot T))) → i < j → item_at (i ∷ p) (below name j kids) ≡ None
  item_at-none_below name i j p [] h = refl
  item_at-none_below name i j p (k ∷ ks) h =
      item_at-none_under name i j p k (below name (suc j) ks) (λ e. absurd (omega arith)) ∙ item_at-none_below name i (suc j) p ks (omega arith)

  pub item_at-below : (name : List ℕ) (i j n : ℕ) (p : List ℕ) (kids : List (List (Spot T))) → i ≡ j + n → item_at (i ∷ p) (below name j kids) ≡ item_at p (get_or kids n [])
  item_at-below name i j n p [] h = refl
  item_at-below name i j zero p (k ∷ ks) h =
      let e : j ≡ i = omega arith in
      rw e (item_at-under name i p k (below name (suc i) ks) (item_at-none_below name i (suc i) p ks (omega arith)))
  item_at-below name i j (suc n) p (k ∷ ks) h =
      item_at-none_under name i j p k (below name (suc j) ks) (λ e. absurd (omega arith)) ∙ item_at-below name i (suc j) n p ks (omega arith)

  -- a change along a position below child i

  change-other_under : (f g : T → T) (name : List ℕ) (i j : ℕ) (p : List ℕ) (ss : List (Spot T)) → j ≢ i → map (change_along f g (i ∷ p)) (map (under name j) ss) ≡ map (under name j) ss
  change-other_under f g name i j p [] h = refl
  change-other_under f g name i j p (s ∷ ss) h = rw (ne_eqb j i h) (ap (λ t. under name j s ∷ t) (change-other_under f g name i j p ss h))

  change-under_spot : (f g : T → T) (name : List ℕ) (i : ℕ) (p : List ℕ) (s : Spot T) (a b : Bool) → eqb i i ≡ true → bytes_eq s.position p ≡ a → leads_to s.position p ≡ b →
      change_along f g (i ∷ p) (under name i s) ≡ under name i (change_along f g p s)
  change-under_spot f g name i p s true b e ea eb = rw (e, ea)
  change-under_spot f g name i p s false true e ea eb = rw (e, ea, eb)
  change-under_spot f g name i p s false false e ea eb = rw (e, ea, eb)

  change-under : (f g : T → T) (name : List ℕ) (i : ℕ) (p : List ℕ) (ss : List (Spot T)) → map (change_along f g (i ∷ p)) (map (under name i) ss) ≡ map (under name i) (map (change_along f g p) ss)
  change-under f g name i p [] = refl
  change-under f g name i p (s ∷ ss) =
      ap (λ t. t ∷ map (change_along f g (i ∷ p)) (map (under name i) ss)) (change-under_spot f g name i p s _ _ (eq-eqb i i refl) refl refl)
      ∙ ap (λ t. under name i (change_along f g p s) ∷ t) (change-under f g name i p ss)

  change-other_below : (f g : T → T) (name : List ℕ) (i j : ℕ) (p : List ℕ) (kids : List (List (Spot T))) → i < j → map (change_along f g (i ∷ p)) (below name j kids) ≡ below name j kids
  change-other_below f g name i j p [] h = refl
  change-other_below f g name i j p (k ∷ ks) h =
      map-append (change_along f g (i ∷ p)) (map (under name j) k) (below name (suc j) ks)
      ∙ ap (λ t. t ++ map (change_along f g (i ∷ p)) (below name (suc j) ks)) (change-other_under f g name i j p k (λ e. absurd (omega arith)))
      ∙ ap (λ t. map (under name j) k ++ t) (change-other_below f g name i (suc j) p ks (omega arith))

  pub change-below : (f g : T → T) (name : List ℕ) (i j n : ℕ) (p : List ℕ) (kids : List (List (Spot T))) (d : List (Spot T)) → i ≡ j + n →
      map (change_along f g (i ∷ p)) (below name j kids) ≡ below name j (set kids n (map (change_along f g p) (get_or kids n d)))
  change-below f g name i j n p [] d h = refl
  change-below f g name i j zero p (k ∷ ks) d h =
      let e : j ≡ i = omega arith in
      rw e (map-append (change_along f g (i ∷ p)) (map (under name i) k) (below name (suc i) ks)
      ∙ ap (λ t. t ++ map (change_along f g (i ∷ p)) (below name (suc i) ks)) (change-under f g name i p k)
      ∙ ap (λ t. map (under name i) (map (change_along f g p) k) ++ t) (change-other_below f g name i (suc i) p ks (omega arith)))
  change-below f g name i j (suc n) p (k ∷ ks) d h =
      map-append (change_along f g (i ∷ p)) (map (under name j) k) (below name (suc j) ks)
      ∙ ap (λ t. t ++ map (change_along f g (i ∷ p)) (below name (suc j) ks)) (change-other_under f g name i j p k (λ e. absurd (omega arith)))
      ∙ ap (λ t. map (under name j) k ++ t) (change-below f g name i (suc j) n p ks d (omega arith))

  -- a change at the root alone

  root_under : (f g : T → T) (name : List ℕ) (j : ℕ) (ss : List (Spot T)) → map (change_along f g []) (map (under name j) ss) ≡ map (under name j) ss
  root_under f g name j [] = refl
  root_under f g name j (s ∷ ss) = ap (λ t. under name j s ∷ t) (root_under f g name j ss)

  pub change-root_below : (f g : T → T) (name : List ℕ) (j : ℕ) (kids : List (List (Spot T))) → map (change_along f g []) (below name j kids) ≡ below name j kids
  change-root_below f g name j [] = refl
  change-root_below f g name j (k ∷ ks) =
      map-append (change_along f g []) (map (under name j) k) (below name (suc j) ks)
      ∙ ap (λ t. t ++ map (change_along f g []) (below name (suc j) ks)) (root_under f g name j k)
      ∙ ap (λ t. map (under name j) k ++ t) (change-root_below f g name (suc j) ks)

  -- the same of a whole tree

  pub change-spots_root : (f g : T → T) (name : T → List ℕ) (item : T) (kids : List (List (Spot T))) → name (g item) ≡ name item → spots name (g item) kids ≡ map (change_along f g []) (spots name item kids)
  change-spots_root f g name item kids e = rw (e, change-root_below f g (name item) 0 kids)

  pub changed_at_root : (f g : T → T) (name : T → List ℕ) (item item' : T) (kids : List (List (Spot T))) (value : List (Spot T)) (steps : List ℕ) → spots name item kids ≡ value → length steps < 1 → name (g item) ≡ name item → item' ≡ g item →
      spots name item' kids ≡ map (change_along f g steps) value
  changed_at_root f g name item item' kids value steps e h n ie = rw (steps-empty steps h, ← e, ie) (change-spots_root f g name item kids n)

  pub change-spots : (f g : T → T) (name : T → List ℕ) (item : T) (i : ℕ) (p : List ℕ) (kids : List (List (Spot T))) (d : List (Spot T)) → name (f item) ≡ name item →
      spots name (f item) (set kids i (map (change_along f g p) (get_or kids i d))) ≡ map (change_along f g (i ∷ p)) (spots name item kids)
  change-spots f g name item i p kids d e = rw (e, change-below f g (name item) i 0 i p kids d (omega arith))

  pub item_at-spots : (name : T → List ℕ) (item : T) (i : ℕ) (p : List ℕ) (kids : List (List (Spot T))) → item_at (i ∷ p) (spots name item kids) ≡ item_at p (get_or kids i [])
  item_at-spots name item i p kids = item_at-below (name item) i 0 i p kids (omega arith)

  -- where the item is there, the child is
  pub holds-within : (P : T → Type 0) (name : T → List ℕ) (item : T) (i : ℕ) (p : List ℕ) (kids : List (List (Spot T))) → HoldsOfItem P (item_at (i ∷ p) (spots name item kids)) → i < length kids
  holds-within P name item i p kids h =
      elim (Rattle.std.proofs.lemmas.Bool.cases_lt i (length kids)) [
        | Rattle.std.proofs.Common.inl l ↦ l
        | Rattle.std.proofs.Common.inr l ↦ absurd (rw (item_at-spots name item i p kids, Rattle.std.proofs.lemmas.List.get_or_past kids i [] l) at h)
      ]

  -- the item that the steps lead to is in the child that the first step names
  pub record IsInChild (P : T → Type 0) (kids : List (List (Spot T))) (i : ℕ) (p : List ℕ) : Type 0 where
    pub within : i < length kids
    pub holds : (d : List (Spot T)) → HoldsOfItem P (item_at p (get_or kids i d))

  pub in_child : (P : T → Type 0) (name : T → List ℕ) (item : T) (kids : List (List (Spot T))) (value : List (Spot T)) (steps : List ℕ) → spots name item kids ≡ value → 1 ≤ length steps →
      HoldsOfItem P (item_at steps value) → IsInChild P kids (get_or steps 0 0) (take (length steps - 1) (drop 1 steps))
  in_child P name item kids value steps e h holds =
      let i = get_or steps 0 0 in
      let p = take (length steps - 1) (drop 1 steps) in
      let there : HoldsOfItem P (item_at (i ∷ p) (spots name item kids)) = subst (λ s. HoldsOfItem P (item_at s (spots name item kids))) (steps-is steps h) (subst (λ v. HoldsOfItem P (item_at steps v)) (sym e) holds) in
      let within = holds-within P name item i p kids there in
      record {
        within = within;
        holds = λ d. subst (λ x. HoldsOfItem P (item_at p x)) (get_or_default kids i [] d within) (subst (HoldsOfItem P) (item_at-spots name item i p kids) there);
      }

  -- what a change in the child leaves
  pub changed_in_child : (f g : T → T) (name : T → List ℕ) (item item' : T) (kids : List (List (Spot T))) (value : List (Spot T)) (steps : List ℕ) (child child' : List (Spot T)) →
      spots name item kids ≡ value → 1 ≤ length steps → name (f item) ≡ name item → item' ≡ f item → get_or steps 0 0 < length kids → child ≡ get_or kids (get_or steps 0 0) child →
      child' ≡ map (change_along f g (take (length steps - 1) (drop 1 steps))) child →
      spots name item' (set kids (get_or steps 0 0) child') ≡ map (change_along f g steps) value
  changed_in_child f g name item item' kids value steps child child' e h n ie within ce ce' =
      let s = change-spots f g name item (get_or steps 0 0) (take (length steps - 1) (drop 1 steps)) kids child n in
      rw (ie, ce', ← e) (subst (λ x. spots name (f item) (set kids (get_or steps 0 0) (map (change_along f g (take (length steps - 1) (drop 1 steps))) x)) ≡ map (change_along f g steps) (spots name item kids)) (sym ce)
      (s ∙ ap (λ t. map (change_along f g t) (spots name item kids)) (sym (steps-is steps h))))

  -- what is at the steps, by the child

  as_in_child_cases : (name : T → List ℕ) (item : T) (kids : List (List (Spot T))) (steps : List ℕ) → 1 ≤ length steps → get_or steps 0 0 < length kids → (d : List (Spot T)) →
      item_at steps (spots name item kids) ≡ item_at (take (length steps - 1) (drop 1 steps)) (get_or kids (get_or steps 0 0) d)
  as_in_child_cases name item kids [] h w d = absurd (omega arith)
  as_in_child_cases name item kids (i ∷ p) h w d =
      let e = get_or_default kids i [] d w in
      rw (rest-is i p, ← e) (item_at-spots name item i p kids)

  pub as_in_child : (name : T → List ℕ) (item : T) (kids : List (List (Spot T))) (value : List (Spot T)) (steps : List ℕ) (child : List (Spot T)) → spots name item kids ≡ value → 1 ≤ length steps →
      get_or steps 0 0 < length kids → child ≡ get_or kids (get_or steps 0 0) child → item_at steps value ≡ item_at (take (length steps - 1) (drop 1 steps)) child
  as_in_child name item kids value steps child e h w c =
      subst (λ v. item_at steps v ≡ item_at (take (length steps - 1) (drop 1 steps)) child) e (as_in_child_cases name item kids steps h w child ∙ ap (item_at (take (length steps - 1) (drop 1 steps))) (sym c))
