-- One more spot, the last, as the last child of a spot on the way to the last.
use Rattle.cap_tree.proofs.Prelude.{◌≡◌, ℕ, zero, suc, ◌+◌, ◌-◌, ◌≤◌, ◌<◌, Bool, true, false, cond, List, [], ◌∷◌, ◌++◌, length, get_or, set, Option, Some, refl, sym, ◌∙◌, ap, arith, map, ◌≢◌, subst, take, bytes_eq, ◌||◌, All, list_any, eq-eqb, ne_eqb, append_assoc, append-nil, map-append, length-append, length-map, get_or_default, All-get_or, All-from_recursion, recursion_from_All, Spot, leads_to, item_at, path_at, last_position, under, below, spots, HoldsOfItem, IsPosition, IsAdded, IsAddedAt}
use Rattle.cap_tree.proofs.Spots.{item_at-spots}

pub from_zero : (n : ℕ) → 0 + n ≡ n
from_zero n = omega arith

pub none_below : (n : ℕ) → (0 < n → false ≡ true) → n ≡ 0
none_below zero h = refl
none_below (suc n) h = absurd (cc (h (omega arith)))

abbrev nowhere : List ℕ
nowhere = []

take_nothing : (n : ℕ) → take n nowhere ≡ nowhere
take_nothing zero = refl
take_nothing (suc n) = refl

module _ {T : Type 0} where
  abbrev Filled : List (List (Spot T)) → Type 0
  Filled kids = All (λ kid. 1 ≤ length kid) kids

  first_filled : (k : List (Spot T)) (ks : List (List (Spot T))) → Filled (k ∷ ks) → 1 ≤ length k
  first_filled k ks f = All-get_or (λ kid. 1 ≤ length kid) (k ∷ ks) 0 k (omega arith) f

  rest_filled : (k : List (Spot T)) (ks : List (List (Spot T))) → Filled (k ∷ ks) → Filled ks
  rest_filled k ks f = All-from_recursion (λ kid. 1 ≤ length kid) ks ((recursion_from_All (λ kid. 1 ≤ length kid) (k ∷ ks) f).1)

  -- the position of the last

  last-cons : (s : Spot T) (ss : List (Spot T)) → 1 ≤ length ss → last_position (s ∷ ss) ≡ last_position ss
  last-cons s [] h = absurd (omega arith)
  last-cons s (t ∷ ss) h = refl

  pub last-append : (xs ys : List (Spot T)) → 1 ≤ length ys → last_position (xs ++ ys) ≡ last_position ys
  last-append [] ys h = refl
  last-append (x ∷ xs) ys h = last-cons x (xs ++ ys) (let n = length-append xs ys in omega arith) ∙ last-append xs ys h

  last-under : (name : List ℕ) (i : ℕ) (k : List (Spot T)) → 1 ≤ length k → last_position (map (under name i) k) ≡ i ∷ last_position k
  last-under name i [] h = absurd (omega arith)
  last-under name i (s ∷ []) h = refl
  last-under name i (s ∷ t ∷ ss) h = last-under name i (t ∷ ss) (omega arith)

  length-below : (name : List ℕ) (j : ℕ) (k : List (Spot T)) (ks : List (List (Spot T))) → 1 ≤ length k → 1 ≤ length (below name j (k ∷ ks))
  length-below name j k ks h = let n = length-append (map (under name j) k) (below name (suc j) ks) in let m = length-map k (under name j) in omega arith

  length-kids : (name : List ℕ) (i : ℕ) (kids : List (List (Spot T))) → Filled kids → length kids ≤ length (below name i kids)
  length-kids name i [] f = omega arith
  length-kids name i (k ∷ ks) f =
      let n = length-append (map (under name i) k) (below name (suc i) ks) in
      let m = length-map k (under name i) in
      omega (arith, n, m, first_filled k ks f, length-kids name (suc i) ks (rest_filled k ks f))

  -- there are fewer children than spots
  pub kids-lt : (name : T → List ℕ) (item : T) (kids : List (List (Spot T))) (value : List (Spot T)) → spots name item kids ≡ value → Filled kids → length kids < length value
  kids-lt name item kids value e f = let v = ap length e in omega (arith, v, length-kids (name item) 0 kids f)

  last-below : (name : List ℕ) (j n : ℕ) (kids : List (List (Spot T))) (d : List (Spot T)) → n + 1 ≡ length kids → Filled kids → last_position (below name j kids) ≡ (j + n) ∷ last_position (get_or kids n d)
  last-below name j n [] d h f = absurd (omega arith)
  last-below name j zero (k ∷ []) d h f =
      let z : j ≡ j + 0 = omega arith in
      ap last_position (append-nil (map (under name j) k)) ∙ last-under name j k (first_filled k [] f) ∙ ap (λ x. x ∷ last_position k) z
  last-below name j (suc n) (k ∷ []) d h f = absurd (omega arith)
  last-below name j zero (k ∷ l ∷ ks) d h f = absurd (omega arith)
  last-below name j (suc n) (k ∷ l ∷ ks) d h f =
      let z : suc j + n ≡ j + suc n = omega arith in
      last-append (map (under name j) k) (below name (suc j) (l ∷ ks)) (length-below name (suc j) l ks (first_filled l ks (rest_filled k (l ∷ ks) f)))
      ∙ last-below name (suc j) n (l ∷ ks) d (omega arith) (rest_filled k (l ∷ ks) f)
      ∙ ap (λ x. x ∷ last_position (get_or (l ∷ ks) n d)) z

  last-spots : (name : T → List ℕ) (item : T) (n : ℕ) (kids : List (List (Spot T))) (d : List (Spot T)) → n + 1 ≡ length kids → Filled kids → last_position (spots name item kids) ≡ n ∷ last_position (get_or kids n d)
  last-spots name item n [] d h f = absurd (omega arith)
  last-spots name item n (k ∷ ks) d h f =
      last-cons (record { position = []; path = name item; item = item }) (below (name item) 0 (k ∷ ks)) (length-below (name item) 0 k ks (first_filled k ks f)) ∙ last-below (name item) 0 n (k ∷ ks) d h f ∙ ap (λ x. x ∷ last_position (get_or (k ∷ ks) n d)) (from_zero n)

  -- the path at a position below child i

  path_at-none_under : (name : List ℕ) (i j : ℕ) (p : List ℕ) (ss rest : List (Spot T)) → j ≢ i → path_at (i ∷ p) (map (under name j) ss ++ rest) ≡ path_at (i ∷ p) rest
  path_at-none_under name i j p [] rest h = refl
  path_at-none_under name i j p (s ∷ ss) rest h = rw (ne_eqb j i h) (path_at-none_under name i j p ss rest h)

  path_cases : (b : Bool) (name : List ℕ) (s : Spot T) (o : Option T) (x y : List ℕ) → HoldsOfItem (λ _. Unit {0}) (cond b (Some s.item) o) → (HoldsOfItem (λ _. Unit {0}) o → x ≡ name ++ 46 ∷ y) →
      cond b (name ++ 46 ∷ s.path) x ≡ name ++ 46 ∷ cond b s.path y
  path_cases true name s o x y h f = refl
  path_cases false name s o x y h f = f h

  path_at-under : (name : List ℕ) (i : ℕ) (p : List ℕ) (ss rest : List (Spot T)) → IsPosition ss p → path_at (i ∷ p) (map (under name i) ss ++ rest) ≡ name ++ 46 ∷ path_at p ss
  path_at-under name i p [] rest h = absurd h
  path_at-under name i p (s ∷ ss) rest h =
      rw (eq-eqb i i refl) (path_cases (bytes_eq s.position p) name s (item_at p ss) (path_at (i ∷ p) (map (under name i) ss ++ rest)) (path_at p ss) h (path_at-under name i p ss rest))

  path_at-below : (name : List ℕ) (i j n : ℕ) (p : List ℕ) (kids : List (List (Spot T))) (d : List (Spot T)) → i ≡ j + n → n < length kids → IsPosition (get_or kids n d) p → path_at (i ∷ p) (below name j kids) ≡ name ++ 46 ∷ path_at p (get_or kids n d)
  path_at-below name i j n p [] d h w q = absurd (omega arith)
  path_at-below name i j zero p (k ∷ ks) d h w q = let e : j ≡ i = omega arith in rw e (path_at-under name i p k (below name (suc i) ks) q)
  path_at-below name i j (suc n) p (k ∷ ks) d h w q =
      path_at-none_under name i j p k (below name (suc j) ks) (λ e. absurd (omega arith)) ∙ path_at-below name i (suc j) n p ks d (omega arith) (omega arith) q

  -- no spot on the way from a new position

  fresh-none_under : (name : List ℕ) (i j : ℕ) (p : List ℕ) (ss rest : List (Spot T)) → j ≢ i → list_any (λ s. leads_to (i ∷ p) s.position) (map (under name j) ss ++ rest) ≡ list_any (λ s. leads_to (i ∷ p) s.position) rest
  fresh-none_under name i j p [] rest h = refl
  fresh-none_under name i j p (s ∷ ss) rest h = rw (ne_eqb i j (λ e. h (sym e))) (fresh-none_under name i j p ss rest h)

  fresh-none_below : (name : List ℕ) (i j : ℕ) (p : List ℕ) (kids : List (List (Spot T))) → i < j → list_any (λ s. leads_to (i ∷ p) s.position) (below name j kids) ≡ false
  fresh-none_below name i j p [] h = refl
  fresh-none_below name i j p (k ∷ ks) h = fresh-none_under name i j p k (below name (suc j) ks) (λ e. absurd (omega arith)) ∙ fresh-none_below name i (suc j) p ks (omega arith)

  fresh-past_below : (name : List ℕ) (i j : ℕ) (p : List ℕ) (kids : List (List (Spot T))) → j + length kids ≤ i → list_any (λ s. leads_to (i ∷ p) s.position) (below name j kids) ≡ false
  fresh-past_below name i j p [] h = refl
  fresh-past_below name i j p (k ∷ ks) h = fresh-none_under name i j p k (below name (suc j) ks) (λ e. absurd (omega arith)) ∙ fresh-past_below name i (suc j) p ks (omega arith)

  fresh-under : (name : List ℕ) (i : ℕ) (p : List ℕ) (ss rest : List (Spot T)) → list_any (λ s. leads_to (i ∷ p) s.position) rest ≡ false → list_any (λ s. leads_to (i ∷ p) s.position) (map (under name i) ss ++ rest) ≡ list_any (λ s. leads_to p s.position) ss
  fresh-under name i p [] rest h = h
  fresh-under name i p (s ∷ ss) rest h = rw (eq-eqb i i refl) (ap (λ c. leads_to p s.position || c) (fresh-under name i p ss rest h))

  fresh-below : (name : List ℕ) (i j n : ℕ) (p : List ℕ) (kids : List (List (Spot T))) (d : List (Spot T)) → i ≡ j + n → n < length kids → list_any (λ s. leads_to (i ∷ p) s.position) (below name j kids) ≡ list_any (λ s. leads_to p s.position) (get_or kids n d)
  fresh-below name i j n p [] d h w = absurd (omega arith)
  fresh-below name i j zero p (k ∷ ks) d h w = let e : j ≡ i = omega arith in rw e (fresh-under name i p k (below name (suc i) ks) (fresh-none_below name i (suc i) p ks (omega arith)))
  fresh-below name i j (suc n) p (k ∷ ks) d h w =
      fresh-none_under name i j p k (below name (suc j) ks) (λ e. absurd (omega arith)) ∙ fresh-below name i (suc j) n p ks d (omega arith) (omega arith)

  -- one more spot in the last child, and one more child

  more-below : (name : List ℕ) (j n : ℕ) (kids : List (List (Spot T))) (d : List (Spot T)) (s : Spot T) → n + 1 ≡ length kids → below name j (set kids n (get_or kids n d ++ s ∷ [])) ≡ below name j kids ++ under name (j + n) s ∷ []
  more-below name j n [] d s h = absurd (omega arith)
  more-below name j zero (k ∷ []) d s h =
      let z : j ≡ j + 0 = omega arith in
      append-nil (map (under name j) (k ++ s ∷ [])) ∙ map-append (under name j) k (s ∷ []) ∙ ap (λ l. l ++ under name j s ∷ []) (sym (append-nil (map (under name j) k))) ∙ ap (λ x. (map (under name j) k ++ []) ++ under name x s ∷ []) z
  more-below name j (suc n) (k ∷ []) d s h = absurd (omega arith)
  more-below name j zero (k ∷ l ∷ ks) d s h = absurd (omega arith)
  more-below name j (suc n) (k ∷ l ∷ ks) d s h =
      let z : suc j + n ≡ j + suc n = omega arith in
      ap (λ x. map (under name j) k ++ x) (more-below name (suc j) n (l ∷ ks) d s (omega arith))
      ∙ sym (append_assoc (map (under name j) k) (below name (suc j) (l ∷ ks)) (under name (suc j + n) s ∷ []))
      ∙ ap (λ x. below name j (k ∷ l ∷ ks) ++ under name x s ∷ []) z

  more-kids : (name : List ℕ) (j : ℕ) (kids : List (List (Spot T))) (s : Spot T) → below name j (kids ++ (s ∷ []) ∷ []) ≡ below name j kids ++ under name (j + length kids) s ∷ []
  more-kids name j [] s = let z : j ≡ j + 0 = omega arith in ap (λ x. under name x s ∷ []) z
  more-kids name j (k ∷ ks) s =
      let z : suc j + length ks ≡ j + suc (length ks) = omega arith in
      ap (λ x. map (under name j) k ++ x) (more-kids name (suc j) ks s)
      ∙ sym (append_assoc (map (under name j) k) (below name (suc j) ks) (under name (suc j + length ks) s ∷ []))
      ∙ ap (λ x. below name j (k ∷ ks) ++ under name x s ∷ []) z

  -- to the whole tree

  pub added_here : (levels : ℕ) (name : T → List ℕ) (item x : T) (kids : List (List (Spot T))) (value : List (Spot T)) → spots name item kids ≡ value → (levels ≡ 0) →
      IsAdded levels (name x) x value (spots name item (kids ++ spots name x [] ∷ []))
  added_here levels name item x kids value e h = rw (← e, h) (record {
    child = length kids;
    parent = tt;
    is = ap (λ l. record { position = []; path = name item; item = item } ∷ l) (more-kids (name item) 0 kids (record { position = []; path = name x; item = x }) ∙ ap (λ n. below (name item) 0 kids ++ under (name item) n (record { position = []; path = name x; item = x }) ∷ []) (from_zero (length kids)));
    fresh = fresh-past_below (name item) (length kids) 0 [] kids (omega arith);
  })

  pub added_in_child : (levels : ℕ) (nm : List ℕ) (name : T → List ℕ) (item x : T) (kids : List (List (Spot T))) (value child child' : List (Spot T)) → spots name item kids ≡ value → Filled kids → 1 ≤ length kids →
      child ≡ get_or kids (length kids - 1) child → IsAdded levels nm x child child' → IsAdded (suc levels) nm x value (spots name item (set kids (length kids - 1) child'))
  added_in_child levels nm name item x kids value child child' e f h c a =
      let n = length kids - 1 in
      let last : last_position (spots name item kids) ≡ n ∷ last_position child = last-spots name item n kids child (omega arith) f ∙ ap (λ k. n ∷ last_position k) (sym c) in
      let way : take (suc levels) (last_position (spots name item kids)) ≡ n ∷ take levels (last_position child) = ap (take (suc levels)) last in
      let spot : Spot T = record { position = take levels (last_position child) ++ a.child ∷ []; path = path_at (take levels (last_position child)) child ++ 46 ∷ nm; item = x } in
      let here : item_at (n ∷ take levels (last_position child)) (spots name item kids) ≡ item_at (take levels (last_position child)) child = item_at-spots name item n (take levels (last_position child)) kids ∙ ap (item_at (take levels (last_position child))) (get_or_default kids n [] child (omega arith) ∙ sym c) in
      let path : path_at (n ∷ take levels (last_position child)) (spots name item kids) ≡ name item ++ 46 ∷ path_at (take levels (last_position child)) child =
      path_at-below (name item) n 0 n (take levels (last_position child)) kids child (omega arith) (omega arith) (subst (λ k. IsPosition k (take levels (last_position child))) c a.parent) ∙ ap (λ k. name item ++ 46 ∷ path_at (take levels (last_position child)) k) (sym c) in
      let new : spots name item (set kids n child') ≡ spots name item kids ++ under (name item) n spot ∷ [] =
      ap (λ k. spots name item (set kids n k)) (a.is ∙ ap (λ k. k ++ spot ∷ []) c) ∙ ap (λ l. record { position = []; path = name item; item = item } ∷ l) (more-below (name item) 0 n kids child spot (omega arith) ∙ ap (λ x. below (name item) 0 kids ++ under (name item) x spot ∷ []) (from_zero n)) in
      let whole : IsAddedAt (n ∷ take levels (last_position child)) nm x (spots name item kids) (spots name item (set kids n child')) = record {
        child = a.child;
        parent = subst (HoldsOfItem (λ _. Unit {0})) (sym here) a.parent;
        is = new ∙ ap (λ p. spots name item kids ++ record { position = n ∷ take levels (last_position child) ++ a.child ∷ []; path = p; item = x } ∷ [])
            (sym (append_assoc (name item) (46 ∷ path_at (take levels (last_position child)) child) (46 ∷ nm)) ∙ ap (λ p. p ++ 46 ∷ nm) (sym path));
        fresh = fresh-below (name item) n 0 n (take levels (last_position child) ++ a.child ∷ []) kids child (omega arith) (omega arith) ∙ ap (list_any (λ s. leads_to (take levels (last_position child) ++ a.child ∷ []) s.position)) (sym c) ∙ a.fresh;
      } in
      let here_too : IsAddedAt (take (suc levels) (last_position (spots name item kids))) nm x (spots name item kids) (spots name item (set kids n child')) = subst (λ w. IsAddedAt w nm x (spots name item kids) (spots name item (set kids n child'))) (sym way) whole in
      subst (λ v. IsAdded (suc levels) nm x v (spots name item (set kids n child'))) e here_too

  -- the same at a spot that has no children, which is the last however many levels are counted
  pub added_at_leaf : (levels : ℕ) (nm : List ℕ) (name : T → List ℕ) (item x : T) (kids : List (List (Spot T))) (value new : List (Spot T)) → spots name item kids ≡ value → kids ≡ [] → IsAdded 0 nm x value new → IsAdded levels nm x value new
  added_at_leaf levels nm name item x kids value new e none a =
      let way : take levels (last_position value) ≡ [] = ap (λ v. take levels (last_position v)) (sym e) ∙ ap (λ ks. take levels (last_position (spots name item ks))) none ∙ take_nothing levels in
      subst (λ p. IsAddedAt p nm x value new) (sym way) a

  -- the same, as code counts the levels and the children
  pub added_below : (levels n : ℕ) (nm : List ℕ) (name : T → List ℕ) (item x : T) (kids : List (List (Spot T))) (value child child' : List (Spot T)) → spots name item kids ≡ value → Filled kids → 1 ≤ length kids → n ≡ length kids - 1 →
      child ≡ get_or kids n child → 1 ≤ levels → IsAdded (levels - 1) nm x child child' → IsAdded levels nm x value (spots name item (set kids n child'))
  added_below zero n nm name item x kids value child child' e f h w c l a = absurd (omega arith)
  added_below (suc levels) n nm name item x kids value child child' e f h w c l a =
      let z : suc levels - 1 ≡ levels = omega arith in
      subst (λ k. IsAdded (suc levels) nm x value (spots name item (set kids k child'))) (sym w)
      (added_in_child levels nm name item x kids value child child' e f h (c ∙ ap (λ k. get_or kids k child) w) (subst (λ k. IsAdded k nm x child child') z a))
