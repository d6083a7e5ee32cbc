-- What is on the way to a position, and below it.
use Rattle.cap_tree.proofs.Prelude.{◌≡◌, ℕ, zero, suc, ◌+◌, ◌-◌, ◌≤◌, ◌<◌, Bool, true, false, cond, ◌&&◌, List, [], ◌∷◌, ◌++◌, length, get_or, Option, Some, None, refl, sym, ◌∙◌, ap, arith, map, ◌≢◌, subst, take, drop, bytes_eq, nat_eq, nat_lt, not, option_map, if◌then◌else◌, ◌||◌, ◌==◌, All, position_or_len, pointwise, nat_tests, All-get_or, eq-eqb, ne_eqb, get_or_default, append-nil, Spot, leads_to, leads_below, under, below, spots, position_of_path, along, first_failing, has_below, bytes_itself}
use Rattle.cap_tree.proofs.Spots.{steps-is, steps-empty}

abbrev placed : ℕ → Option (List ℕ) → Option (List ℕ) → Option (List ℕ)
placed i None rest = rest
placed i (Some p) rest = Some (i ∷ p)

placed_cases : (b : Bool) (i : ℕ) (p : List ℕ) (o rest : Option (List ℕ)) → cond b (Some (i ∷ p)) (placed i o rest) ≡ placed i (cond b (Some p) o) rest
placed_cases true i p o rest = refl
placed_cases false i p o rest = refl

same_rest : (name a b : List ℕ) → bytes_eq (name ++ a) (name ++ b) ≡ bytes_eq a b
same_rest [] a b = refl
same_rest (x ∷ name) a b = rw (eq-eqb x x refl) (same_rest name a b)

-- the path is not the name with more behind it
other_start : (name path x : List ℕ) → pointwise nat_eq (take (length name) path) name ≡ false → bytes_eq (name ++ x) path ≡ false
other_start [] path x h = absurd (cc h)
other_start (b ∷ name) [] x h = refl
other_start (b ∷ name) (d ∷ path) x h = by (d == b) refl h (other_start name path x)
  where
    by : (c : Bool) → (d == b) ≡ c → c && pointwise nat_eq (take (length name) path) name ≡ false → (pointwise nat_eq (take (length name) path) name ≡ false → bytes_eq (name ++ x) path ≡ false) → (b == d) && bytes_eq (name ++ x) path ≡ false
    by true e g r = let s : b ≡ d = grind (arith, nat_tests, e) in rw (eq-eqb b d s) (r g)
    by false e g r = let s : b == d ≡ false = grind (arith, nat_tests, e) in rw s refl

whole : (name path : List ℕ) → pointwise nat_eq (take (length name) path) name ≡ true → path ≡ name ++ drop (length name) path
whole [] path h = refl
whole (b ∷ name) [] h = absurd (cc h)
whole (b ∷ name) (d ∷ path) h = by (d == b) refl h (whole name path)
  where
    by : (c : Bool) → (d == b) ≡ c → c && pointwise nat_eq (take (length name) path) name ≡ true → (pointwise nat_eq (take (length name) path) name ≡ true → path ≡ name ++ drop (length name) path) → d ∷ path ≡ b ∷ name ++ drop (length name) path
    by true e g r = let s : d ≡ b = grind (arith, nat_tests, e) in λ i. s i ∷ r g i
    by false e g r = absurd (cc g)

shorter_differs : (name : List ℕ) (b : ℕ) (x : List ℕ) → bytes_eq name (name ++ b ∷ x) ≡ false
shorter_differs [] b x = refl
shorter_differs (a ∷ name) b x = rw (eq-eqb a a refl) (shorter_differs name b x)

bytes_differ : (a b : ℕ) (x y : List ℕ) → a ≢ b → bytes_eq (a ∷ x) (b ∷ y) ≡ false
bytes_differ a b x y h = rw (ne_eqb a b h) refl

-- a dot and more are behind it: the path in the children
pub record IsInside (name : List ℕ) (path q : List ℕ) : Type 0 where
  pub is : path ≡ name ++ 46 ∷ q

pub inside : (name path : List ℕ) → pointwise nat_eq (take (length name) path) name ≡ true → 1 ≤ length (drop (length name) path) → get_or (drop (length name) path) 0 0 ≡ 46 →
    IsInside name path (take (length (drop (length name) path) - 1) (drop 1 (drop (length name) path)))
inside name path h l n =
    let rest = drop (length name) path in
    record { is = whole name path h ∙ ap (λ r. name ++ r) (steps-is rest l) ∙ ap (λ b. name ++ (b ∷ take (length rest - 1) (drop 1 rest))) n }

module _ {T : Type 0} where
  -- what is on the way

  along-none_under : (name : List ℕ) (i j : ℕ) (p : List ℕ) (ss rest : List (Spot T)) → j ≢ i → along (i ∷ p) (map (under name j) ss ++ rest) ≡ along (i ∷ p) rest
  along-none_under name i j p [] rest h = refl
  along-none_under name i j p (s ∷ ss) rest h = rw (ne_eqb j i h) (along-none_under name i j p ss rest h)

  along-under : (name : List ℕ) (i : ℕ) (p : List ℕ) (ss rest : List (Spot T)) → along (i ∷ p) rest ≡ [] → along (i ∷ p) (map (under name i) ss ++ rest) ≡ map (under name i) (along p ss)
  along-under name i p [] rest h = h
  along-under name i p (s ∷ ss) rest h = rw (eq-eqb i i refl) (by (leads_to s.position p) (along-under name i p ss rest h))
    where
      by : (b : Bool) → along (i ∷ p) (map (under name i) ss ++ rest) ≡ map (under name i) (along p ss) →
          cond b (under name i s ∷ along (i ∷ p) (map (under name i) ss ++ rest)) (along (i ∷ p) (map (under name i) ss ++ rest)) ≡ map (under name i) (cond b (s ∷ along p ss) (along p ss))
      by true e = ap (λ t. under name i s ∷ t) e
      by false e = e

  along-none_below : (name : List ℕ) (i j : ℕ) (p : List ℕ) (kids : List (List (Spot T))) → i < j → along (i ∷ p) (below name j kids) ≡ []
  along-none_below name i j p [] h = refl
  along-none_below name i j p (k ∷ ks) h =
      along-none_under name i j p k (below name (suc j) ks) (λ e. absurd (omega arith)) ∙ along-none_below name i (suc j) p ks (omega arith)

  pub along-below : (name : List ℕ) (i j n : ℕ) (p : List ℕ) (kids : List (List (Spot T))) → i ≡ j + n → along (i ∷ p) (below name j kids) ≡ map (under name i) (along p (get_or kids n []))
  along-below name i j n p [] h = refl
  along-below name i j zero p (k ∷ ks) h =
      let e : j ≡ i = omega arith in
      rw e (along-under name i p k (below name (suc i) ks) (along-none_below name i (suc i) p ks (omega arith)))
  along-below name i j (suc n) p (k ∷ ks) h =
      along-none_under name i j p k (below name (suc j) ks) (λ e. absurd (omega arith)) ∙ along-below name i (suc j) n p ks (omega arith)

  along-root_under : (name : List ℕ) (j : ℕ) (ss rest : List (Spot T)) → along [] (map (under name j) ss ++ rest) ≡ along [] rest
  along-root_under name j [] rest = refl
  along-root_under name j (s ∷ ss) rest = along-root_under name j ss rest

  pub along-root_below : (name : List ℕ) (j : ℕ) (kids : List (List (Spot T))) → along [] (below name j kids) ≡ []
  along-root_below name j [] = refl
  along-root_below name j (k ∷ ks) = along-root_under name j k (below name (suc j) ks) ∙ along-root_below name (suc j) ks

  -- which is the first that fails there

  module _ (test : T → Bool) where
    -- the level at a spot that passes or not, where those after it have this one
    abbrev pub level_from : Bool → Option ℕ → Option ℕ
    level_from b o = if b then option_map (λ n. n + 1) o else Some 0

    pub failing-cons : (s : Spot T) (ss : List (Spot T)) → first_failing test (s ∷ ss) ≡ level_from (test s.item) (first_failing test ss)
    failing-cons s ss = by (test s.item) (position_or_len (λ (t : Spot T). not (test t.item)) ss) (length ss)
      where
        by : (b : Bool) (n l : ℕ) → cond (nat_lt (cond (not (not b)) (1 + n) 0) (suc l)) (Some (cond (not (not b)) (1 + n) 0)) None ≡ level_from b (cond (nat_lt n l) (Some n) None)
        by false n l = let z : nat_lt 0 (suc l) ≡ true = grind (arith, nat_tests) in ap (λ c. cond c (Some 0) None) z
        by true n l = more (nat_lt n l) (nat_lt (1 + n) (suc l)) (grind (arith, nat_tests))
          where
            more : (b c : Bool) → c ≡ b → cond c (Some (1 + n)) None ≡ option_map (λ k. k + 1) (cond b (Some n) None)
            more true true e = let z : 1 + n ≡ n + 1 = omega arith in ap Some z
            more false false e = refl
            more true false e = absurd (cc e)
            more false true e = absurd (cc e)

    failing-map : (name : List ℕ) (i : ℕ) (ss : List (Spot T)) → first_failing test (map (under name i) ss) ≡ first_failing test ss
    failing-map name i [] = refl
    failing-map name i (s ∷ ss) = failing-cons (under name i s) (map (under name i) ss) ∙ ap (level_from (test s.item)) (failing-map name i ss) ∙ sym (failing-cons s ss)

    failing-spots : (name : T → List ℕ) (item : T) (kids : List (List (Spot T))) (steps : List ℕ) → first_failing test (along steps (spots name item kids)) ≡ level_from (test item) (first_failing test (along steps (below (name item) 0 kids)))
    failing-spots name item kids steps = failing-cons (record { position = []; path = name item; item = item }) (along steps (below (name item) 0 kids))

    pub failing-root : (name : T → List ℕ) (item : T) (kids : List (List (Spot T))) (value : List (Spot T)) (steps : List ℕ) → spots name item kids ≡ value → test item ≡ false →
        Some 0 ≡ first_failing test (along steps value)
    failing-root name item kids value steps e t = rw (← e) (sym (failing-spots name item kids steps ∙ ap (λ b. level_from b (first_failing test (along steps (below (name item) 0 kids)))) t))

    pub failing-at_root : (name : T → List ℕ) (item : T) (kids : List (List (Spot T))) (value : List (Spot T)) (steps : List ℕ) → spots name item kids ≡ value → length steps < 1 → test item ≡ true →
        None ≡ first_failing test (along steps value)
    failing-at_root name item kids value steps e h t =
        rw (steps-empty steps h, ← e) (sym (failing-spots name item kids [] ∙ (λ i. level_from (t i) (first_failing test (along-root_below (name item) 0 kids i)))))

    pub failing-in_child : (name : T → List ℕ) (item : T) (kids : List (List (Spot T))) (value : List (Spot T)) (steps : List ℕ) (child : List (Spot T)) → spots name item kids ≡ value → 1 ≤ length steps →
        get_or steps 0 0 < length kids → child ≡ get_or kids (get_or steps 0 0) child → test item ≡ true →
        level_from true (first_failing test (along (take (length steps - 1) (drop 1 steps)) child)) ≡ first_failing test (along steps value)
    failing-in_child name item kids value steps child e h w c t =
        let i = get_or steps 0 0 in
        let p = take (length steps - 1) (drop 1 steps) in
        let kid : get_or kids i [] ≡ child = get_or_default kids i [] child w ∙ sym c in
        let way : along (i ∷ p) (below (name item) 0 kids) ≡ map (under (name item) i) (along p child) = along-below (name item) i 0 i p kids (omega arith) ∙ ap (λ k. map (under (name item) i) (along p k)) kid in
        let whole : first_failing test (along (i ∷ p) (spots name item kids)) ≡ level_from true (first_failing test (along p child)) =
        failing-spots name item kids (i ∷ p) ∙ (λ j. level_from (t j) (first_failing test (way j))) ∙ ap (level_from true) (failing-map (name item) i (along p child)) in
        sym (ap (λ q. first_failing test (along q value)) (steps-is steps h) ∙ ap (λ v. first_failing test (along (i ∷ p) v)) (sym e) ∙ whole)

  -- what is below

  below-none_under : (name : List ℕ) (i j : ℕ) (p : List ℕ) (ss rest : List (Spot T)) → j ≢ i → has_below (i ∷ p) (map (under name j) ss ++ rest) ≡ has_below (i ∷ p) rest
  below-none_under name i j p [] rest h = refl
  below-none_under name i j p (s ∷ ss) rest h = rw (ne_eqb i j (λ e. h (sym e))) (below-none_under name i j p ss rest h)

  below-under : (name : List ℕ) (i : ℕ) (p : List ℕ) (ss rest : List (Spot T)) → has_below (i ∷ p) rest ≡ false → has_below (i ∷ p) (map (under name i) ss ++ rest) ≡ has_below p ss
  below-under name i p [] rest h = h
  below-under name i p (s ∷ ss) rest h = rw (eq-eqb i i refl) (ap (λ c. leads_below p s.position || c) (below-under name i p ss rest h))

  below-none_below : (name : List ℕ) (i j : ℕ) (p : List ℕ) (kids : List (List (Spot T))) → i < j → has_below (i ∷ p) (below name j kids) ≡ false
  below-none_below name i j p [] h = refl
  below-none_below name i j p (k ∷ ks) h =
      below-none_under name i j p k (below name (suc j) ks) (λ e. absurd (omega arith)) ∙ below-none_below name i (suc j) p ks (omega arith)

  below-below : (name : List ℕ) (i j n : ℕ) (p : List ℕ) (kids : List (List (Spot T))) → i ≡ j + n → has_below (i ∷ p) (below name j kids) ≡ has_below p (get_or kids n [])
  below-below name i j n p [] h = refl
  below-below name i j zero p (k ∷ ks) h =
      let e : j ≡ i = omega arith in
      rw e (below-under name i p k (below name (suc i) ks) (below-none_below name i (suc i) p ks (omega arith)))
  below-below name i j (suc n) p (k ∷ ks) h =
      below-none_under name i j p k (below name (suc j) ks) (λ e. absurd (omega arith)) ∙ below-below name i (suc j) n p ks (omega arith)

  below-spots : (name : T → List ℕ) (item : T) (i : ℕ) (p : List ℕ) (kids : List (List (Spot T))) (d : List (Spot T)) → i < length kids → has_below (i ∷ p) (spots name item kids) ≡ has_below p (get_or kids i d)
  below-spots name item i p kids d w = below-below (name item) i 0 i p kids (omega arith) ∙ ap (has_below p) (get_or_default kids i [] d w)

  first_below : (name : List ℕ) (i : ℕ) (k : List (Spot T)) (rest : List (Spot T)) → 1 ≤ length k → has_below [] (map (under name i) k ++ rest) ≡ true
  first_below name i [] rest h = absurd (omega arith)
  first_below name i (s ∷ ss) rest h = refl

  parent-below : (name : T → List ℕ) (item : T) (kids : List (List (Spot T))) → All (λ kid. 1 ≤ length kid) kids → 1 ≤ length kids → true ≡ has_below [] (spots name item kids)
  parent-below name item [] f h = absurd (omega arith)
  parent-below name item (k ∷ ks) f h = sym (first_below (name item) 0 k (below (name item) 1 ks) (All-get_or (λ kid. 1 ≤ length kid) (k ∷ ks) 0 k (omega arith) f))

  pub parent_has_below : (name : T → List ℕ) (item : T) (kids : List (List (Spot T))) (value : List (Spot T)) → spots name item kids ≡ value → All (λ kid. 1 ≤ length kid) kids → 1 ≤ length kids → true ≡ has_below [] value
  parent_has_below name item kids value e f h = parent-below name item kids f h ∙ ap (has_below []) e

  pub leaf_has_none_below : (name : T → List ℕ) (item : T) (kids : List (List (Spot T))) (value : List (Spot T)) → spots name item kids ≡ value → length kids < 1 → false ≡ has_below [] value
  leaf_has_none_below name item [] value e h = ap (has_below []) e
  leaf_has_none_below name item (k ∷ ks) value e h = absurd (omega arith)

  -- the position of a path

  position-under : (name : List ℕ) (i : ℕ) (q : List ℕ) (ss rest : List (Spot T)) →
      position_of_path (name ++ 46 ∷ q) (map (under name i) ss ++ rest) ≡ placed i (position_of_path q ss) (position_of_path (name ++ 46 ∷ q) rest)
  position-under name i q [] rest = refl
  position-under name i q (s ∷ ss) rest =
      ap (λ b. cond b (Some (i ∷ s.position)) (position_of_path (name ++ 46 ∷ q) (map (under name i) ss ++ rest))) (same_rest name (46 ∷ s.path) (46 ∷ q))
      ∙ ap (λ o. cond (bytes_eq s.path q) (Some (i ∷ s.position)) o) (position-under name i q ss rest)
      ∙ placed_cases (bytes_eq s.path q) i s.position (position_of_path q ss) (position_of_path (name ++ 46 ∷ q) rest)

  -- none of the children up to n has the path
  abbrev pub NoneBefore : List ℕ → List (List (Spot T)) → ℕ → Type 0
  NoneBefore q kids n = (m : ℕ) (d : List (Spot T)) → m < n → m < length kids → position_of_path q (get_or kids m d) ≡ None

  position-below : (name : List ℕ) (j n : ℕ) (q : List ℕ) (kids : List (List (Spot T))) (d : List (Spot T)) (p : List ℕ) → n < length kids → NoneBefore q kids n → position_of_path q (get_or kids n d) ≡ Some p →
      position_of_path (name ++ 46 ∷ q) (below name j kids) ≡ Some ((j + n) ∷ p)
  position-below name j n q [] d p h none e = absurd (omega arith)
  position-below name j zero q (k ∷ ks) d p h none e =
      let z : j ≡ j + 0 = omega arith in
      position-under name j q k (below name (suc j) ks) ∙ ap (λ o. placed j o (position_of_path (name ++ 46 ∷ q) (below name (suc j) ks))) e ∙ ap (λ x. Some (x ∷ p)) z
  position-below name j (suc n) q (k ∷ ks) d p h none e =
      let z : suc j + n ≡ j + suc n = omega arith in
      position-under name j q k (below name (suc j) ks)
      ∙ ap (λ o. placed j o (position_of_path (name ++ 46 ∷ q) (below name (suc j) ks))) (none 0 d (omega arith) (omega arith))
      ∙ position-below name (suc j) n q ks d p (omega arith) (λ m c l w. none (suc m) c (omega arith) (omega arith)) e
      ∙ ap (λ x. Some (x ∷ p)) z

  position-none_below : (name : List ℕ) (j : ℕ) (q : List ℕ) (kids : List (List (Spot T))) → NoneBefore q kids (length kids) → position_of_path (name ++ 46 ∷ q) (below name j kids) ≡ None
  position-none_below name j q [] none = refl
  position-none_below name j q (k ∷ ks) none =
      position-under name j q k (below name (suc j) ks)
      ∙ ap (λ o. placed j o (position_of_path (name ++ 46 ∷ q) (below name (suc j) ks))) (none 0 k (omega arith) (omega arith))
      ∙ position-none_below name (suc j) q ks (λ m c l w. none (suc m) c (omega arith) (omega arith))

  no_position-under : (name path : List ℕ) (i : ℕ) (ss rest : List (Spot T)) → ((x : List ℕ) → bytes_eq (name ++ 46 ∷ x) path ≡ false) → position_of_path path (map (under name i) ss ++ rest) ≡ position_of_path path rest
  no_position-under name path i [] rest f = refl
  no_position-under name path i (s ∷ ss) rest f = rw (f s.path) (no_position-under name path i ss rest f)

  no_position-below : (name path : List ℕ) (i : ℕ) (kids : List (List (Spot T))) → ((x : List ℕ) → bytes_eq (name ++ 46 ∷ x) path ≡ false) → position_of_path path (below name i kids) ≡ None
  no_position-below name path i [] f = refl
  no_position-below name path i (k ∷ ks) f = no_position-under name path i k (below name (suc i) ks) f ∙ no_position-below name path (suc i) ks f

  pub missing_by_name : (name : T → List ℕ) (item : T) (kids : List (List (Spot T))) (value : List (Spot T)) (path : List ℕ) → spots name item kids ≡ value → pointwise nat_eq (take (length (name item)) path) (name item) ≡ false →
      position_of_path path value ≡ None
  missing_by_name name item kids value path e h =
      let f : (x : List ℕ) → bytes_eq (name item ++ x) path ≡ false = λ x. other_start (name item) path x h in
      let z : bytes_eq (name item) path ≡ false = subst (λ l. bytes_eq l path ≡ false) (append-nil (name item)) (f []) in
      ap (position_of_path path) (sym e) ∙ ap (λ b. cond b (Some []) (position_of_path path (below (name item) 0 kids))) z ∙ no_position-below (name item) path 0 kids (λ x. f (46 ∷ x))

  -- nothing is behind the name
  pub found_here : (name : T → List ℕ) (item : T) (kids : List (List (Spot T))) (value : List (Spot T)) (path : List ℕ) → spots name item kids ≡ value → pointwise nat_eq (take (length (name item)) path) (name item) ≡ true →
      length (drop (length (name item)) path) < 1 → position_of_path path value ≡ Some []
  found_here name item kids value path e h l =
      let p : path ≡ name item ++ [] = whole (name item) path h ∙ ap (λ r. name item ++ r) (steps-empty (drop (length (name item)) path) l) in
      let q : path ≡ name item = p ∙ append-nil (name item) in
      ap (position_of_path path) (sym e) ∙ ap (λ b. cond b (Some []) (position_of_path path (below (name item) 0 kids))) (ap (bytes_eq (name item)) q ∙ bytes_itself (name item))

  -- another byte than a dot is behind it
  pub missing_by_dot : (name : T → List ℕ) (item : T) (kids : List (List (Spot T))) (value : List (Spot T)) (path : List ℕ) → spots name item kids ≡ value → pointwise nat_eq (take (length (name item)) path) (name item) ≡ true →
      1 ≤ length (drop (length (name item)) path) → get_or (drop (length (name item)) path) 0 0 ≢ 46 → position_of_path path value ≡ None
  missing_by_dot name item kids value path e h l n =
      let rest = drop (length (name item)) path in
      let p : path ≡ name item ++ (get_or rest 0 0 ∷ take (length rest - 1) (drop 1 rest)) = whole (name item) path h ∙ ap (λ r. name item ++ r) (steps-is rest l) in
      let z : bytes_eq (name item) path ≡ false = ap (bytes_eq (name item)) p ∙ shorter_differs (name item) (get_or rest 0 0) (take (length rest - 1) (drop 1 rest)) in
      let f : (x : List ℕ) → bytes_eq (name item ++ 46 ∷ x) path ≡ false = λ x. ap (bytes_eq (name item ++ 46 ∷ x)) p ∙ same_rest (name item) (46 ∷ x) (get_or rest 0 0 ∷ take (length rest - 1) (drop 1 rest)) ∙ bytes_differ 46 (get_or rest 0 0) x (take (length rest - 1) (drop 1 rest)) (λ d. n (sym d)) in
      ap (position_of_path path) (sym e) ∙ ap (λ b. cond b (Some []) (position_of_path path (below (name item) 0 kids))) z ∙ no_position-below (name item) path 0 kids f

  position-inside : (name : T → List ℕ) (item : T) (kids : List (List (Spot T))) (value : List (Spot T)) (path q : List ℕ) → spots name item kids ≡ value → IsInside (name item) path q →
      position_of_path path value ≡ position_of_path (name item ++ 46 ∷ q) (below (name item) 0 kids)
  position-inside name item kids value path q e i =
      ap (position_of_path path) (sym e) ∙ ap (λ b. cond b (Some []) (position_of_path path (below (name item) 0 kids))) (ap (bytes_eq (name item)) i.is ∙ shorter_differs (name item) 46 q)
      ∙ ap (λ p. position_of_path p (below (name item) 0 kids)) i.is

  pub missing_inside : (name : T → List ℕ) (item : T) (kids : List (List (Spot T))) (value : List (Spot T)) (path q : List ℕ) → spots name item kids ≡ value → IsInside (name item) path q →
      NoneBefore q kids (length kids) → position_of_path path value ≡ None
  missing_inside name item kids value path q e i none = position-inside name item kids value path q e i ∙ position-none_below (name item) 0 q kids none

  pub found_inside : (name : T → List ℕ) (item : T) (kids : List (List (Spot T))) (value : List (Spot T)) (path q : List ℕ) (n : ℕ) (d : List (Spot T)) (p : List ℕ) → spots name item kids ≡ value → IsInside (name item) path q →
      NoneBefore q kids n → n < length kids → position_of_path q (get_or kids n d) ≡ Some p → position_of_path path value ≡ Some (n ∷ p)
  found_inside name item kids value path q n d p e i none w at = position-inside name item kids value path q e i ∙ position-below (name item) 0 n q kids d p w none at ∙ (let z : 0 + n ≡ n = omega arith in ap (λ x. Some (x ∷ p)) z)

  pub below_inside : (name : T → List ℕ) (item : T) (kids : List (List (Spot T))) (value : List (Spot T)) (n : ℕ) (d : List (Spot T)) (p : List ℕ) → spots name item kids ≡ value → n < length kids →
      has_below p (get_or kids n d) ≡ has_below (n ∷ p) value
  below_inside name item kids value n d p e w = sym (below-spots name item n p kids d w) ∙ ap (has_below (n ∷ p)) e
