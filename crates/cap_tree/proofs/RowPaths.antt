-- The rows of a tree by position and by path.
use Rattle.cap_tree.proofs.Prelude.{◌≡◌, ℕ, ◌≤◌, Bool, true, false, cond, ◌&&◌, List, [], ◌∷◌, ◌++◌, length, map, Some, refl, sym, ◌∙◌, ap, subst, arith, inl, inr, bytes_eq, ◌==◌, Option, None, filter, not, is_some, All, list_all, nat_tests, length-append, bytes_eq-Decides, QueueRow, is_under, name_of, IsIn, each_of, of_each, of_map, IsUnder, under_is, under_itself, map_same, filter_same, leads_to, item_at, path_at, change_along, along, first_failing, HoldsOfItem, IsPosition, Queue, Row, HasLastName, PositionsArePaths, settings_of_row, queues_of, changed_at, items_to, rows_to, is_running, Spot}
use Rattle.cap_tree.proofs.Looking.{level_from, failing-cons}

-- two are the same where each leads to the other

same_both : (c a b : Bool) → (c ≡ true → a ≡ true) → (c ≡ true → b ≡ true) → (a ≡ true → b ≡ true → c ≡ true) → c ≡ a && b
same_both true a b f g h = let x = f refl in let y = g refl in cc (x, y)
same_both false true true f g h = h refl refl
same_both false true false f g h = refl
same_both false false b f g h = refl

pub leads_itself : (p : List ℕ) → leads_to p p ≡ true
leads_itself [] = refl
leads_itself (x ∷ p) = let e : (x == x) ≡ true = grind (arith, nat_tests) in ap (λ c. c && leads_to p p) e ∙ leads_itself p

leads_back : (p q : List ℕ) → leads_to p q ≡ true → leads_to q p ≡ true → p ≡ q
leads_back [] [] f g = refl
leads_back [] (y ∷ q) f g = absurd (cc g)
leads_back (x ∷ p) [] f g = absurd (cc f)
leads_back (x ∷ p) (y ∷ q) f g = by (x == y) refl f (back (y == x) (leads_to q p) g) (leads_back p q)
  where
    back : (a b : Bool) → a && b ≡ true → b ≡ true
    back true b h = h
    back false b h = absurd (cc h)

    by : (c : Bool) → (x == y) ≡ c → c && leads_to p q ≡ true → leads_to q p ≡ true → (leads_to p q ≡ true → leads_to q p ≡ true → p ≡ q) → x ∷ p ≡ y ∷ q
    by true e h k r = let s : x ≡ y = grind (arith, nat_tests, e) in λ i. s i ∷ r h k i
    by false e h k r = absurd (cc h)

pub same_position : (p q : List ℕ) → bytes_eq p q ≡ leads_to p q && leads_to q p
same_position p q =
    same_both (bytes_eq p q) (leads_to p q) (leads_to q p)
    (λ e. let s = (bytes_eq-Decides p q).0 e in subst (λ x. leads_to p x ≡ true) s (leads_itself p))
    (λ e. let s = (bytes_eq-Decides p q).0 e in subst (λ x. leads_to x p ≡ true) s (leads_itself p))
    (λ f g. (bytes_eq-Decides p q).1 (leads_back p q f g))

under_back : (p q : List ℕ) → IsUnder p q → IsUnder q p → p ≡ q
under_back p q (inl e) g = sym e
under_back p q (inr (rest, e)) (inl f) = f
under_back p q (inr (rest, e)) (inr (more, f)) =
    let a : length q ≡ length (p ++ 46 ∷ rest) = ap length e in
    let b : length p ≡ length (q ++ 46 ∷ more) = ap length f in
    let c = length-append p (46 ∷ rest) in
    let d = length-append q (46 ∷ more) in
    absurd (omega (arith, a, b, c, d))

pub same_path : (p q : List ℕ) → bytes_eq p q ≡ is_under p q && is_under q p
same_path p q =
    same_both (bytes_eq p q) (is_under p q) (is_under q p)
    (λ e. let s = (bytes_eq-Decides p q).0 e in subst (λ x. is_under p x ≡ true) s (under_itself p))
    (λ e. let s = (bytes_eq-Decides p q).0 e in subst (λ x. is_under x p ≡ true) s (under_itself p))
    (λ f g. (bytes_eq-Decides p q).1 (under_back p q (under_is p q f) (under_is q p g)))

-- the row at a position

pub record AtPosition (position : List ℕ) (rows : List Row) : Type 0 where
  pub row : Row
  pub member : IsIn row rows
  pub position_is : row.position ≡ position
  pub path_is : path_at position rows ≡ row.path
  pub item_is : item_at position rows ≡ Some row.item

at_cases : (c : Bool) (position : List ℕ) (s : Row) (ss : List Row) → bytes_eq s.position position ≡ c → HoldsOfItem (λ _. Unit {0}) (cond c (Some s.item) (item_at position ss)) → (IsPosition ss position → AtPosition position ss) → AtPosition position (s ∷ ss)
at_cases true position s ss e h r = record {
  row = s;
  member = inl refl;
  position_is = (bytes_eq-Decides s.position position).0 e;
  path_is = ap (λ c. cond c s.path (path_at position ss)) e;
  item_is = ap (λ c. cond c (Some s.item) (item_at position ss)) e;
}
at_cases false position s ss e h r = let a = r h in record {
  row = a.row;
  member = inr a.member;
  position_is = a.position_is;
  path_is = ap (λ c. cond c s.path (path_at position ss)) e ∙ a.path_is;
  item_is = ap (λ c. cond c (Some s.item) (item_at position ss)) e ∙ a.item_is;
}

pub at_position : (position : List ℕ) (rows : List Row) → IsPosition rows position → AtPosition position rows
at_position position [] h = absurd h
at_position position (s ∷ ss) h = at_cases (bytes_eq s.position position) position s ss refl h (at_position position ss)

-- a position leads as its path does

pub agree : (rows : List Row) → PositionsArePaths rows → (r s : Row) → IsIn r rows → IsIn s rows → leads_to r.position s.position ≡ is_under r.path s.path
agree rows a r s m n = each_of (λ t. leads_to r.position t.position ≡ is_under r.path t.path) rows (each_of (λ t. All (λ u. leads_to t.position u.position ≡ is_under t.path u.path) rows) rows a r m) s n

pub same_row : (rows : List Row) → PositionsArePaths rows → (r s : Row) → IsIn r rows → IsIn s rows → bytes_eq r.position s.position ≡ bytes_eq r.path s.path
same_row rows a r s m n = same_position r.position s.position ∙ ap (λ c. c && leads_to s.position r.position) (agree rows a r s m n) ∙ ap (λ c. is_under r.path s.path && c) (agree rows a s r n m) ∙ sym (same_path r.path s.path)

pub changed_rows : (above at : Queue → Queue) (position : List ℕ) (rows : List Row) → PositionsArePaths rows → IsPosition rows position → map (change_along above at position) rows ≡ map (changed_at above at (path_at position rows)) rows
changed_rows above at position rows a h =
    let t = at_position position rows h in
    map_same (change_along above at position) (changed_at above at (path_at position rows)) rows (λ r m.
    let same : bytes_eq r.position position ≡ bytes_eq r.path (path_at position rows) = ap (bytes_eq r.position) (sym t.position_is) ∙ same_row rows a r t.row m t.member ∙ ap (bytes_eq r.path) (sym t.path_is) in
    let leads : leads_to r.position position ≡ is_under r.path (path_at position rows) = ap (leads_to r.position) (sym t.position_is) ∙ agree rows a r t.row m t.member ∙ ap (is_under r.path) (sym t.path_is) in
    λ i. cond (same i) (record r { item = at r.item }) (cond (leads i) (record r { item = above r.item }) r))

-- the rows on the way to a position are those on the way to its path

pub along_rows : (position : List ℕ) (rows : List Row) → PositionsArePaths rows → IsPosition rows position → along position rows ≡ rows_to (path_at position rows) rows
along_rows position rows a h =
    let t = at_position position rows h in
    filter_same (λ r. leads_to r.position position) (λ r. is_under r.path (path_at position rows)) rows
    (λ r m. ap (leads_to r.position) (sym t.position_is) ∙ agree rows a r t.row m t.member ∙ ap (is_under r.path) (sym t.path_is))

-- all on the way pass a test where none fails to

all_pass : (test : Queue → Bool) (ss : List Row) → not (is_some (first_failing test ss)) ≡ list_all test (map (λ r. r.item) ss)
all_pass test [] = refl
all_pass test (s ∷ ss) = ap (λ o. not (is_some o)) (failing-cons test s ss) ∙ by (test s.item) (first_failing test ss) (all_pass test ss)
  where
    by : (b : Bool) (o : Option ℕ) → not (is_some o) ≡ list_all test (map (λ r. r.item) ss) → not (is_some (level_from test b o)) ≡ b && list_all test (map (λ r. r.item) ss)
    by true None e = e
    by true (Some n) e = e
    by false o e = refl

pub none_fails : (test : Queue → Bool) (position : List ℕ) (rows : List Row) → PositionsArePaths rows → IsPosition rows position →
    not (is_some (first_failing test (along position rows))) ≡ list_all test (items_to (path_at position rows) rows)
none_fails test position rows a h = ap (λ ss. not (is_some (first_failing test ss))) (along_rows position rows a h) ∙ all_pass test (rows_to (path_at position rows) rows)

running_settings : (path : List ℕ) (ss : List Row) → list_all (λ q. q.running) (items_to path ss) ≡ is_running ss path
running_settings path [] = refl
running_settings path (s ∷ ss) = by (is_under s.path path) (running_settings path ss)
  where
    by : (b : Bool) → list_all (λ q. q.running) (items_to path ss) ≡ is_running ss path →
        list_all (λ (q : Queue). q.running) (map (λ r. r.item) (cond b (s ∷ rows_to path ss) (rows_to path ss)))
        ≡ list_all (λ (q : QueueRow). q.running) (cond b (settings_of_row s ∷ filter (λ q. is_under q.path path) (queues_of ss)) (filter (λ q. is_under q.path path) (queues_of ss)))
    by true e = ap (λ x. s.item.running && x) e
    by false e = e

pub running_rows : (position : List ℕ) (rows : List Row) → PositionsArePaths rows → IsPosition rows position → not (is_some (first_failing (λ (q : Queue). q.running) (along position rows))) ≡ is_running rows (path_at position rows)
running_rows position rows a h = none_fails (λ q. q.running) position rows a h ∙ running_settings (path_at position rows) rows

-- a change keeps positions and paths

pub position_kept : {T : Type 0} (above at : T → T) (position : List ℕ) (r : Spot T) → (change_along above at position r).position ≡ r.position
position_kept above at position r = by (bytes_eq r.position position) (leads_to r.position position)
  where
    by : (b c : Bool) → (cond b (record r { item = at r.item }) (cond c (record r { item = above r.item }) r)).position ≡ r.position
    by true c = refl
    by false true = refl
    by false false = refl

pub path_kept : {T : Type 0} (above at : T → T) (position : List ℕ) (r : Spot T) → (change_along above at position r).path ≡ r.path
path_kept above at position r = by (bytes_eq r.position position) (leads_to r.position position)
  where
    by : (b c : Bool) → (cond b (record r { item = at r.item }) (cond c (record r { item = above r.item }) r)).path ≡ r.path
    by true c = refl
    by false true = refl
    by false false = refl

pub short_kept : (above at : Queue → Queue) (position : List ℕ) (rows : List Row) (n : ℕ) → All (λ r. length r.position ≤ n) rows → All (λ r. length r.position ≤ n) (map (change_along above at position) rows)
short_kept above at position rows n a =
    of_each (λ r. length r.position ≤ n) (map (change_along above at position) rows) (λ r m.
    let w = of_map (change_along above at position) rows r m in
    let e : (w.0).position ≡ r.position = sym (position_kept above at position (w.0)) ∙ ap (λ (x : Row). x.position) (w.2) in
    subst (λ p. length p ≤ n) e (each_of (λ r. length r.position ≤ n) rows a (w.0) (w.1)))

pub paths_kept : (above at : Queue → Queue) (position : List ℕ) (rows : List Row) → PositionsArePaths rows → PositionsArePaths (map (change_along above at position) rows)
paths_kept above at position rows a =
    of_each (λ r. All (λ s. leads_to r.position s.position ≡ is_under r.path s.path) (map (change_along above at position) rows)) (map (change_along above at position) rows) (λ r m.
    of_each (λ s. leads_to r.position s.position ≡ is_under r.path s.path) (map (change_along above at position) rows) (λ s n.
    let w = of_map (change_along above at position) rows r m in
    let v = of_map (change_along above at position) rows s n in
    let rp : r.position ≡ (w.0).position = ap (λ (x : Row). x.position) (sym (w.2)) ∙ position_kept above at position (w.0) in
    let rq : r.path ≡ (w.0).path = ap (λ (x : Row). x.path) (sym (w.2)) ∙ path_kept above at position (w.0) in
    let sp : s.position ≡ (v.0).position = ap (λ (x : Row). x.position) (sym (v.2)) ∙ position_kept above at position (v.0) in
    let sq : s.path ≡ (v.0).path = ap (λ (x : Row). x.path) (sym (v.2)) ∙ path_kept above at position (v.0) in
    (λ i. leads_to (rp i) (sp i)) ∙ agree rows a (w.0) (v.0) (w.1) (v.1) ∙ sym (λ i. is_under (rq i) (sq i))))

item_named : (above at : Queue → Queue) → ((q : Queue) → (above q).name ≡ q.name) → ((q : Queue) → (at q).name ≡ q.name) → (position : List ℕ) (r : Row) → (change_along above at position r).item.name ≡ r.item.name
item_named above at na nt position r = by (bytes_eq r.position position) (leads_to r.position position)
  where
    by : (b c : Bool) → (cond b (record r { item = at r.item }) (cond c (record r { item = above r.item }) r)).item.name ≡ r.item.name
    by true c = nt r.item
    by false true = na r.item
    by false false = refl

-- and names, where it keeps a queue's name
pub names_kept : (above at : Queue → Queue) → ((q : Queue) → (above q).name ≡ q.name) → ((q : Queue) → (at q).name ≡ q.name) → (position : List ℕ) (rows : List Row) → All HasLastName rows → All HasLastName (map (change_along above at position) rows)
names_kept above at na nt position rows a =
    of_each HasLastName (map (change_along above at position) rows) (λ r m.
    let w = of_map (change_along above at position) rows r m in
    subst HasLastName (w.2) (item_named above at na nt position (w.0) ∙ each_of HasLastName rows a (w.0) (w.1) ∙ ap name_of (sym (path_kept above at position (w.0)))))
