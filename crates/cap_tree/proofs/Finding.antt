-- The queue that is found at a path.
use Rattle.cap_tree.proofs.Prelude.{◌≡◌, ℕ, Bool, true, false, cond, ◌&&◌, List, [], ◌∷◌, ◌++◌, Some, None, refl, sym, ◌∙◌, ap, subst, arith, inl, inr, ◌⊎◌, bytes_eq, nat_eq, ◌==◌, ◌||◌, not, find, starts_with, nat_tests, bytes_eq-Decides, is_under, IsIn, under_itself, leads_to, leads_below, position_of_path, has_below, item_at, HoldsOfItem, IsPosition, Row, PositionsArePaths, queues_of, has_children, IsAt}
use Rattle.cap_tree.proofs.Finds.{of_path}
use Rattle.cap_tree.proofs.RowPaths.{at_position, agree, same_row, same_path}

there_cases : (c : Bool) (position : List ℕ) (s r : Row) (ss : List Row) → bytes_eq s.position position ≡ c → r.position ≡ position → (s ≡ r) ⊎ IsIn r ss → (IsIn r ss → IsPosition ss position) → HoldsOfItem (λ _. Unit {0}) (cond c (Some s.item) (item_at position ss))
there_cases true position s r ss e p m f = tt
there_cases false position s r ss e p (inl m) f = absurd (let t = (bytes_eq-Decides s.position position).1 (ap (λ (x : Row). x.position) m ∙ p) in cc (t, e))
there_cases false position s r ss e p (inr m) f = f m

there : (position : List ℕ) (r : Row) (rows : List Row) → r.position ≡ position → IsIn r rows → IsPosition rows position
there position r [] p m = absurd m
there position r (s ∷ ss) p m = there_cases (bytes_eq s.position position) position s r ss refl p m (there position r ss p)

pub found_at : (rows : List Row) (path position : List ℕ) → PositionsArePaths rows → position_of_path path rows ≡ Some position → IsAt rows path position
found_at rows path position a h =
    let r = of_path path position rows h in
    let p = there position r.spot rows r.position_is r.member in
    let t = at_position position rows p in
    let e : bytes_eq t.row.position r.spot.position ≡ true = (bytes_eq-Decides t.row.position r.spot.position).1 (t.position_is ∙ sym r.position_is) in
    let f = (bytes_eq-Decides t.row.path r.spot.path).0 (sym (same_row rows a t.row r.spot t.member r.member) ∙ e) in
    record { present = p; path_is = t.path_is ∙ f ∙ r.path_is }

-- what is below

below_is : (p q : List ℕ) → leads_below p q ≡ leads_to p q && not (leads_to q p)
below_is [] [] = refl
below_is [] (y ∷ q) = refl
below_is (x ∷ p) [] = refl
below_is (x ∷ p) (y ∷ q) = let e : (y == x) ≡ (x == y) = grind (arith, nat_tests) in by (x == y) (y == x) (sym e) (below_is p q)
  where
    by : (c d : Bool) → c ≡ d → leads_below p q ≡ leads_to p q && not (leads_to q p) → c && leads_below p q ≡ (c && leads_to p q) && not (d && leads_to q p)
    by true true e r = r
    by false false e r = refl
    by true false e r = absurd (cc e)
    by false true e r = absurd (cc e)

child_is : (x y : List ℕ) → starts_with nat_eq y (x ++ 46 ∷ []) ≡ is_under x y && not (is_under y x)
child_is x y = by (bytes_eq x y) (starts_with nat_eq y (x ++ 46 ∷ [])) (is_under y x) (same_path x y) refl (λ e. let s = (bytes_eq-Decides x y).0 e in subst (λ z. is_under z x ≡ true) s (under_itself x)) (λ e. let s = (bytes_eq-Decides x y).0 e in subst (λ z. starts_with nat_eq z (x ++ 46 ∷ []) ≡ false) s (not_itself x))
  where
    not_itself : (z : List ℕ) → starts_with nat_eq z (z ++ 46 ∷ []) ≡ false
    not_itself [] = refl
    not_itself (b ∷ z) = let e : (b == b) ≡ true = grind (arith, nat_tests) in ap (λ c. c && starts_with nat_eq z (z ++ 46 ∷ [])) e ∙ not_itself z

    by : (b s u : Bool) → b ≡ (b || s) && u → bytes_eq x y ≡ b → (b ≡ true → u ≡ true) → (b ≡ true → s ≡ false) → s ≡ (b || s) && not u
    by true s u e z f g = let h = f refl in let k = g refl in cc (h, k)
    by false true true e z f g = absurd (cc e)
    by false true false e z f g = refl
    by false false u e z f g = refl

same_below : (t : Row) (rows ss : List Row) → PositionsArePaths rows → IsIn t rows → ((r : Row) → IsIn r ss → IsIn r rows) → has_below t.position ss ≡ has_children ss t.path
same_below t rows [] a m f = refl
same_below t rows (s ∷ ss) a m f =
    let n = f s (inl refl) in
    let e : leads_below t.position s.position ≡ starts_with nat_eq s.path (t.path ++ 46 ∷ []) =
    below_is t.position s.position ∙ ap (λ c. c && not (leads_to s.position t.position)) (agree rows a t s m n) ∙ ap (λ c. is_under t.path s.path && not c) (agree rows a s t n m) ∙ sym (child_is t.path s.path) in
    ap (λ c. c || has_below t.position ss) e ∙ ap (λ c. starts_with nat_eq s.path (t.path ++ 46 ∷ []) || c) (same_below t rows ss a m (λ r k. f r (inr k)))

pub children_at : (rows : List Row) (path position : List ℕ) → PositionsArePaths rows → position_of_path path rows ≡ Some position → has_children rows path ≡ has_below position rows
children_at rows path position a h =
    let r = of_path path position rows h in
    ap (has_children rows) (sym r.path_is) ∙ sym (same_below r.spot rows rows a r.member (λ x m. m)) ∙ ap (λ p. has_below p rows) r.position_is

missing_cases : (c : Bool) (path : List ℕ) (s : Row) (ss : List Row) → cond c (Some s.position) (position_of_path path ss) ≡ None → (position_of_path path ss ≡ None → find (λ q. bytes_eq q.path path) (queues_of ss) ≡ None) →
    cond c (Some (Rattle.cap_tree.specs.Rows.settings_of_row s)) (find (λ q. bytes_eq q.path path) (queues_of ss)) ≡ None
missing_cases true path s ss h r = absurd (cc)
missing_cases false path s ss h r = r h

pub missing : (rows : List Row) (path : List ℕ) → position_of_path path rows ≡ None → find (λ q. bytes_eq q.path path) (queues_of rows) ≡ None
missing [] path h = refl
missing (s ∷ ss) path h = missing_cases (bytes_eq s.path path) path s ss h (missing ss path)
