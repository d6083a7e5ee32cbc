-- One more queue, under the one that its path names.
use Rattle.cap_tree.proofs.Prelude.{◌≡◌, ℕ, suc, ◌+◌, ◌-◌, ◌≤◌, ◌<◌, Bool, true, false, cond, ◌&&◌, List, [], ◌∷◌, ◌++◌, length, take, drop, get_or, Some, refl, sym, ◌∙◌, ap, subst, arith, inl, inr, ◌⊎◌, bytes_eq, ◌==◌, ◌||◌, find, is_some, All, list_any, nat_tests, drop-cons, append_assoc, length-append, length-map, length-take, map-append, take_more, take_all, sum_by-cons, sum_by-append, bytes_eq-Decides, false_from_ne_true, QueueRow, is_under, name_of, root_path, HasDistinctPaths, has_path, depth, IsListed, IsListing, depth_max, queues_max, IsIn, in_right, in_either, each_of, of_each, in_map, IsUnder, under_is, is_under_it, name_has_none, dot_in, head_is, tail_is, under_itself, has_dot, same_test, no_levels, leads_to, path_at, last_position, IsAddedAt, IsAdded, amount, amount-zeros, Measure, Queue, HasSettingsOf, IsUnused, of_queue, of_users, of_count, sum_of, sum-no_users, Row, AreRows, PositionsArePaths, HasLastName, settings_of_row, queues_of, IsClosed, IsGrowing}
use Rattle.cap_tree.proofs.RowPaths.{at_position, agree, same_row, leads_itself}
use Rattle.cap_tree.proofs.Adding.{last-append}

-- dots

abbrev one_where : Bool → ℕ
one_where b = cond b 1 0

child_depth : (path name : List ℕ) → has_dot name ≡ false → depth (path ++ 46 ∷ name) ≡ depth path + 1
child_depth path name h =
    let a = sum_by-append (λ (x : ℕ). one_where (x == 46)) path (46 ∷ name) in
    let b = sum_by-cons (λ (x : ℕ). one_where (x == 46)) 46 name in
    let c = no_levels name h in
    omega (arith, a, b, c)

-- what is above a child is above its parent, or is the parent
above_child : (x y name rest : List ℕ) → has_dot name ≡ false → x ++ 46 ∷ name ≡ y ++ 46 ∷ rest → IsUnder y x
above_child [] [] name rest h e = inl refl
above_child [] (b ∷ y) name rest h e = absurd (let t = tail_is 46 b name (y ++ 46 ∷ rest) e in let d = dot_in y rest in let n = ap has_dot t in cc (h, n, d))
above_child (a ∷ x) [] name rest h e = inr (x, ap (λ c. c ∷ x) (head_is a 46 (x ++ 46 ∷ name) rest e))
above_child (a ∷ x) (b ∷ y) name rest h e = by (above_child x y name rest h (tail_is a b (x ++ 46 ∷ name) (y ++ 46 ∷ rest) e)) (head_is a b (x ++ 46 ∷ name) (y ++ 46 ∷ rest) e)
  where
    by : IsUnder y x → a ≡ b → IsUnder (b ∷ y) (a ∷ x)
    by (inl s) t = inl (λ i. t i ∷ s i)
    by (inr (more, s)) t = inr (more, λ i. t i ∷ s i)

under_child : (x y name : List ℕ) → IsUnder y x → IsUnder y (x ++ 46 ∷ name)
under_child x y name (inl e) = inr (name, ap (λ p. p ++ 46 ∷ name) e)
under_child x y name (inr (rest, e)) = inr (rest ++ 46 ∷ name, ap (λ p. p ++ 46 ∷ name) e ∙ append_assoc y (46 ∷ rest) (46 ∷ name))

-- positions

leads_take : (x y : List ℕ) → leads_to x y ≡ true → take (length x) y ≡ x
leads_take [] y h = refl
leads_take (a ∷ x) [] h = absurd (cc h)
leads_take (a ∷ x) (b ∷ y) h = by (a == b) refl h (leads_take x y)
  where
    by : (c : Bool) → (a == b) ≡ c → c && leads_to x y ≡ true → (leads_to x y ≡ true → take (length x) y ≡ x) → b ∷ take (length x) y ≡ a ∷ x
    by true e g r = let s : b ≡ a = grind (arith, nat_tests, e) in λ i. s i ∷ r g i
    by false e g r = absurd (cc g)

-- what leads to a child of a position and is not the child leads to the position
leads_above : (x y : List ℕ) (n : ℕ) → leads_to (y ++ n ∷ []) x ≡ false → leads_to x (y ++ n ∷ []) ≡ leads_to x y
leads_above [] y n h = refl
leads_above (a ∷ []) [] n h = by (a == n) refl
  where
    by : (c : Bool) → (a == n) ≡ c → (a == n) && true ≡ false
    by true e = absurd (let s : (n == a) ≡ true = grind (arith, nat_tests, e) in let g : (n == a) && true ≡ false = h in grind (arith, nat_tests, s, g))
    by false e = ap (λ c. c && true) e
leads_above (a ∷ b ∷ x) [] n h = none (a == n)
  where
    none : (c : Bool) → c && false ≡ false
    none true = refl
    none false = refl
leads_above (a ∷ x) (b ∷ y) n h = by (a == b) refl (leads_above x y n)
  where
    by : (c : Bool) → (a == b) ≡ c → (leads_to (y ++ n ∷ []) x ≡ false → leads_to x (y ++ n ∷ []) ≡ leads_to x y) → (a == b) && leads_to x (y ++ n ∷ []) ≡ (a == b) && leads_to x y
    by true e r =
        let s : (b == a) ≡ true = grind (arith, nat_tests, e) in
        let g : leads_to (y ++ n ∷ []) x ≡ false = sym (ap (λ c. c && leads_to (y ++ n ∷ []) x) s) ∙ h in
        ap (λ c. (a == b) && c) (r g)
    by false e r = ap (λ c. c && leads_to x (y ++ n ∷ [])) e ∙ sym (ap (λ c. c && leads_to x y) e)

-- the row of a path

pub record HasRow (path : List ℕ) (rows : List Row) : Type 0 where
  pub row : Row
  pub member : IsIn row rows
  pub path_is : row.path ≡ path

has_row_cases : (c : Bool) (path : List ℕ) (s : Row) (ss : List Row) → bytes_eq s.path path ≡ c → is_some (cond c (Some (settings_of_row s)) (find (λ r. bytes_eq r.path path) (queues_of ss))) ≡ true →
    (has_path (queues_of ss) path ≡ true → HasRow path ss) → HasRow path (s ∷ ss)
has_row_cases true path s ss e h r = record { row = s; member = inl refl; path_is = (bytes_eq-Decides s.path path).0 e }
has_row_cases false path s ss e h r = let a = r h in record { row = a.row; member = inr a.member; path_is = a.path_is }

has_row : (path : List ℕ) (rows : List Row) → has_path (queues_of rows) path ≡ true → HasRow path rows
has_row path [] h = absurd (cc h)
has_row path (s ∷ ss) h = has_row_cases (bytes_eq s.path path) path s ss refl h (has_row path ss)

pub path_of_row : (rows : List Row) (r : Row) → IsIn r rows → has_path (queues_of rows) r.path ≡ true
path_of_row [] r m = absurd m
path_of_row (s ∷ ss) r m = by (bytes_eq s.path r.path) refl m (path_of_row ss r)
  where
    by : (c : Bool) → bytes_eq s.path r.path ≡ c → (s ≡ r) ⊎ IsIn r ss → (IsIn r ss → has_path (queues_of ss) r.path ≡ true) → is_some (cond c (Some (settings_of_row s)) (find (λ q. bytes_eq q.path r.path) (queues_of ss))) ≡ true
    by true e n f = refl
    by false e (inl n) f = absurd (let t = (bytes_eq-Decides s.path r.path).1 (ap (λ (x : Row). x.path) n) in cc (t, e))
    by false e (inr n) f = f n

path_more : (qs more : List QueueRow) (path : List ℕ) → has_path qs path ≡ true → has_path (qs ++ more) path ≡ true
path_more [] more path h = absurd (cc h)
path_more (q ∷ qs) more path h = by (bytes_eq q.path path) h (path_more qs more path)
  where
    by : (c : Bool) → is_some (cond c (Some q) (find (λ r. bytes_eq r.path path) qs)) ≡ true → (has_path qs path ≡ true → has_path (qs ++ more) path ≡ true) → is_some (cond c (Some q) (find (λ r. bytes_eq r.path path) (qs ++ more))) ≡ true
    by true g f = refl
    by false g f = f g

-- no path stands twice
other_path : (rows : List Row) (q : QueueRow) (todo : List QueueRow) (r : Row) → HasDistinctPaths (queues_of rows ++ q ∷ todo) → IsIn r rows → (r.path ≡ q.path → ⊥)
other_path [] q todo r d m e = absurd m
other_path (s ∷ ss) q todo r d (inl n) e = absurd (let t = among (queues_of ss) d.0 in let u : bytes_eq q.path s.path ≡ true = (bytes_eq-Decides q.path s.path).1 (sym e ∙ sym (ap (λ (x : Row). x.path) n)) in cc (t, u))
  where
    among : (qs : List QueueRow) → list_any (λ (x : QueueRow). bytes_eq x.path s.path) (qs ++ q ∷ todo) ≡ false → bytes_eq q.path s.path ≡ false
    among [] h = first (bytes_eq q.path s.path) (list_any (λ (x : QueueRow). bytes_eq x.path s.path) todo) h
      where
        first : (a b : Bool) → a || b ≡ false → a ≡ false
        first true b g = g
        first false b g = refl
    among (x ∷ qs) h = among qs (rest (bytes_eq x.path s.path) (list_any (λ (y : QueueRow). bytes_eq y.path s.path) (qs ++ q ∷ todo)) h)
      where
        rest : (a b : Bool) → a || b ≡ false → b ≡ false
        rest true b g = absurd (cc g)
        rest false b g = g
other_path (s ∷ ss) q todo r d (inr n) e = other_path ss q todo r d.1 n e

none_of : (t : Row → Bool) (ss : List Row) (r : Row) → list_any t ss ≡ false → IsIn r ss → t r ≡ false
none_of t [] r h m = absurd m
none_of t (s ∷ ss) r h m = by (t s) refl h m (none_of t ss r)
  where
    by : (c : Bool) → t s ≡ c → c || list_any t ss ≡ false → (s ≡ r) ⊎ IsIn r ss → (list_any t ss ≡ false → IsIn r ss → t r ≡ false) → t r ≡ false
    by true e g n f = absurd (cc g)
    by false e g (inl n) f = ap t (sym n) ∙ e
    by false e g (inr n) f = f g n

paths_more : (rows : List Row) (t : Row) → PositionsArePaths rows → ((r : Row) → IsIn r rows → leads_to r.position t.position ≡ is_under r.path t.path) → ((r : Row) → IsIn r rows → leads_to t.position r.position ≡ is_under t.path r.path) → PositionsArePaths (rows ++ t ∷ [])
paths_more rows t a onto away =
    of_each (λ r. All (λ s. leads_to r.position s.position ≡ is_under r.path s.path) (rows ++ t ∷ [])) (rows ++ t ∷ []) (λ r m.
    of_each (λ s. leads_to r.position s.position ≡ is_under r.path s.path) (rows ++ t ∷ []) (λ s n. pair r s (in_either r rows (t ∷ []) m) (in_either s rows (t ∷ []) n)))
  where
    pair : (r s : Row) → IsIn r rows ⊎ IsIn r (t ∷ []) → IsIn s rows ⊎ IsIn s (t ∷ []) → leads_to r.position s.position ≡ is_under r.path s.path
    pair r s (inl m) (inl n) = agree rows a r s m n
    pair r s (inl m) (inr (inl e)) = subst (λ (x : Row). leads_to r.position x.position ≡ is_under r.path x.path) e (onto r m)
    pair r s (inr (inl d)) (inl n) = subst (λ (x : Row). leads_to x.position s.position ≡ is_under x.path s.path) d (away s n)
    pair r s (inr (inl d)) (inr (inl e)) = subst (λ (x : Row). leads_to x.position s.position ≡ is_under x.path s.path) d (subst (λ (x : Row). leads_to t.position x.position ≡ is_under t.path x.path) e (leads_itself t.position ∙ sym (under_itself t.path)))
    pair r s (inl m) (inr (inr e)) = absurd e
    pair r s (inr (inr d)) n = absurd d
    pair r s (inr (inl d)) (inr (inr e)) = absurd e

all_more : (P : Row → Type 0) (rows : List Row) (t : Row) → All P rows → P t → All P (rows ++ t ∷ [])
all_more P rows t a h = of_each P (rows ++ t ∷ []) (λ r m. by r (in_either r rows (t ∷ []) m))
  where
    by : (r : Row) → IsIn r rows ⊎ IsIn r (t ∷ []) → P r
    by r (inl m) = each_of P rows a r m
    by r (inr (inl e)) = subst P e h
    by r (inr (inr e)) = absurd e

closed_more : (qs : List QueueRow) (q : QueueRow) → IsClosed qs → ((front rest : List ℕ) → q.path ≡ front ++ 46 ∷ rest → has_path qs front ≡ true) → IsClosed (qs ++ q ∷ [])
closed_more qs q a h =
    of_each (λ x. (front rest : List ℕ) → x.path ≡ front ++ 46 ∷ rest → has_path (qs ++ q ∷ []) front ≡ true) (qs ++ q ∷ [])
    (λ x m front rest e. path_more qs (q ∷ []) front (by x (in_either x qs (q ∷ []) m) front rest e))
  where
    by : (x : QueueRow) → IsIn x qs ⊎ IsIn x (q ∷ []) → (front rest : List ℕ) → x.path ≡ front ++ 46 ∷ rest → has_path qs front ≡ true
    by x (inl m) front rest e = each_of (λ y. (f r : List ℕ) → y.path ≡ f ++ 46 ∷ r → has_path qs f ≡ true) qs a x m front rest e
    by x (inr (inl d)) front rest e = h front rest (ap (λ (y : QueueRow). y.path) d ∙ e)
    by x (inr (inr d)) front rest e = absurd d

parent_row : (rows : List Row) (last : Row) (path : List ℕ) → IsIn last rows → IsClosed (queues_of rows) → IsUnder path last.path → HasRow path rows
parent_row rows last path m c (inl e) = record { row = last; member = m; path_is = e }
parent_row rows last path m c (inr (rest, e)) = has_row path rows (each_of (λ y. (f r : List ℕ) → y.path ≡ f ++ 46 ∷ r → has_path (queues_of rows) f ≡ true) (queues_of rows) c (settings_of_row last) (in_map settings_of_row rows last m) path rest e)

parent_row_of : (rows : List Row) (last : Row) (path : List ℕ) → IsIn last rows → IsClosed (queues_of rows) → IsUnder path last.path → HasRow path rows
parent_row_of rows last path m c u = parent_row rows last path m c u

child_under : (x y name : List ℕ) → has_dot name ≡ false → IsUnder y (x ++ 46 ∷ name) → (y ≡ x ++ 46 ∷ name → ⊥) → IsUnder y x
child_under x y name h (inl e) f = absurd (f (sym e))
child_under x y name h (inr (rest, e)) f = above_child x y name rest h e

front_there : (rows : List Row) (path front rest name : List ℕ) → IsClosed (queues_of rows) → HasRow path rows → has_dot name ≡ false → path ++ 46 ∷ name ≡ front ++ 46 ∷ rest → has_path (queues_of rows) front ≡ true
front_there rows path front rest name c p h e = by (above_child path front name rest h e)
  where
    by : IsUnder front path → has_path (queues_of rows) front ≡ true
    by (inl s) = subst (λ x. has_path (queues_of rows) x ≡ true) (p.path_is ∙ s) (path_of_row rows p.row p.member)
    by (inr (more, s)) = each_of (λ y. (f r : List ℕ) → y.path ≡ f ++ 46 ∷ r → has_path (queues_of rows) f ≡ true) (queues_of rows) c (settings_of_row p.row) (in_map settings_of_row rows p.row p.member) front more (p.path_is ∙ s)

shown : (q : QueueRow) (item : Queue) (position : List ℕ) → HasSettingsOf q item → settings_of_row (record { position = position; path = q.path; item = item }) ≡ q
shown q item position h = λ i. record { path = q.path; guaranteed = h.guaranteed i; maximum = h.maximum i; factor = h.factor i; running = h.running i }

pub record IsGrown (K : ℕ) (rows rows' : List Row) (q : QueueRow) (todo : List QueueRow) : Type 0 where
  pub growing : IsGrowing K rows' todo
  pub queues : queues_of rows' ≡ queues_of rows ++ q ∷ []

pub grow : (K : ℕ) (rows rows' : List Row) (q : QueueRow) (todo : List QueueRow) (levels : ℕ) (item : Queue) → IsGrowing K rows (q ∷ todo) → levels ≡ depth q.path - 1 → HasSettingsOf q item → IsUnused K item →
    IsAdded levels item.name item rows rows' → IsGrown K rows rows' q todo
grow K rows rows' q todo levels item w lv sh un a =
    let f = w.listed.0 in
    let path = f.parent in
    let name = name_of q.path in
    let none = name_has_none q.path in
    let is : q.path ≡ path ++ 46 ∷ name = (bytes_eq-Decides q.path (path ++ 46 ∷ name)).0 f.child in
    let p : HasRow path rows = parent_row rows w.last path w.member w.closed (under_is path w.last.path f.above) in
    let position = p.row.position in
    let leads : leads_to position w.last.position ≡ true = agree rows w.paths p.row w.last p.member w.member ∙ ap (λ x. is_under x w.last.path) p.path_is ∙ f.above in
    let d : length position ≡ depth path = each_of (λ r. length r.position ≡ depth r.path) rows w.depths p.row p.member ∙ ap depth p.path_is in
    let dq : depth q.path ≡ depth path + 1 = ap depth is ∙ child_depth path name none in
    let n : levels ≡ length position = omega (arith, lv, d, dq) in
    let way : take levels (last_position rows) ≡ position = ap (λ k. take k (last_position rows)) n ∙ ap (take (length position)) w.last_is ∙ leads_take position w.last.position leads in
    let b : IsAddedAt position item.name item rows rows' = subst (λ x. IsAddedAt x item.name item rows rows') way a in
    let at = at_position position rows b.parent in
    let e : bytes_eq at.row.position position ≡ true = (bytes_eq-Decides at.row.position position).1 at.position_is in
    let here : path_at position rows ≡ path = at.path_is ∙ (bytes_eq-Decides at.row.path p.row.path).0 (sym (same_row rows w.paths at.row p.row at.member p.member) ∙ e) ∙ p.path_is in
    let spot : Row = record { position = position ++ b.child ∷ []; path = q.path; item = item } in
    let whole : path_at position rows ++ 46 ∷ item.name ≡ q.path = ap (λ x. x ++ 46 ∷ item.name) here ∙ ap (λ x. path ++ 46 ∷ x) sh.name ∙ sym is in
    let new : rows' ≡ rows ++ spot ∷ [] = b.is ∙ ap (λ x. rows ++ record { position = position ++ b.child ∷ []; path = x; item = item } ∷ []) whole in
    let row_is : settings_of_row spot ≡ q = shown q item (position ++ b.child ∷ []) sh in
    let fresh : (r : Row) → IsIn r rows → leads_to spot.position r.position ≡ false = λ r m. none_of (λ s. leads_to spot.position s.position) rows r b.fresh m in
    let other : (r : Row) → IsIn r rows → (r.path ≡ q.path → ⊥) = λ r m. other_path rows q todo r w.distinct m in
    let not_above : (r : Row) → IsIn r rows → is_under q.path r.path ≡ false = λ r m. false_from_ne_true (is_under q.path r.path) (λ u.
    (let h = parent_row_of rows r q.path m w.closed (under_is q.path r.path u) in other h.row h.member h.path_is)) in
    let onto : (r : Row) → IsIn r rows → leads_to r.position spot.position ≡ is_under r.path q.path = λ r m.
    leads_above r.position position b.child (fresh r m) ∙ agree rows w.paths r p.row m p.member ∙ ap (is_under r.path) p.path_is
    ∙ same_test (is_under r.path path) (is_under r.path q.path)
    (λ u. is_under_it r.path q.path (subst (IsUnder r.path) (sym is) (under_child path r.path name (under_is r.path path u))))
    (λ u. is_under_it r.path path (child_under path r.path name none (subst (IsUnder r.path) is (under_is r.path q.path u)) (λ s. other r m (s ∙ sym is)))) in
    let queues : queues_of (rows ++ spot ∷ []) ≡ queues_of rows ++ q ∷ [] = map-append settings_of_row rows (spot ∷ []) ∙ ap (λ x. queues_of rows ++ x ∷ []) row_is in
    let grown : IsGrowing K (rows ++ spot ∷ []) todo = record {
      last = spot;
      member = in_right spot rows (spot ∷ []) (inl refl);
      last_is = last-append rows (spot ∷ []) (omega arith);
      listed = w.listed.1;
      distinct = subst HasDistinctPaths (sym (ap (λ x. x ++ todo) queues ∙ append_assoc (queues_of rows) (q ∷ []) todo)) w.distinct;
      closed = subst IsClosed (sym queues) (closed_more (queues_of rows) q w.closed (λ front rest g. front_there rows path front rest name w.closed p none (sym is ∙ g)));
      paths = paths_more rows spot w.paths onto (λ r m. fresh r m ∙ sym (not_above r m));
      depths = all_more (λ r. length r.position ≡ depth r.path) rows spot w.depths (let l = length-append position (b.child ∷ []) in omega (arith, l, d, dq));
      unused = all_more (λ r. IsUnused K r.item) rows spot w.unused un;
      names = all_more HasLastName rows spot w.names sh.name;
    } in
    record { growing = subst (λ x. IsGrowing K x todo) (sym new) grown; queues = ap queues_of new ∙ queues }

-- an unused queue counts nothing

pub unused_stored : (K : ℕ) (q : Queue) (m : Measure) → IsUnused K q → of_queue q m ≡ 0
unused_stored K q (Measure.uses k) u = ap (λ v. amount v k) u.used ∙ amount-zeros K k
unused_stored K q Measure.active u = u.active
unused_stored K q Measure.waiting u = u.waits

pub unused_own : (K : ℕ) (q : Queue) (m : Measure) → IsUnused K q → of_users q m ≡ 0
unused_own K q (Measure.uses k) u = ap (sum_of (λ c. of_count c (Measure.uses k))) u.users ∙ sum-no_users (λ c. of_count c (Measure.uses k))
unused_own K q Measure.active u = ap (sum_of (λ c. of_count c Measure.active)) u.users ∙ sum-no_users (λ c. of_count c Measure.active)
unused_own K q Measure.waiting u = ap length u.waiting

-- so many levels down there is a dot
pub has_level : (before : List ℕ) (q : QueueRow) (todo : List QueueRow) → IsListed before (q ∷ todo) → 1 ≤ depth q.path
has_level before q todo l =
    let f = l.0 in
    let d = ap depth ((bytes_eq-Decides q.path (f.parent ++ 46 ∷ name_of q.path)).0 f.child) in
    let e = child_depth f.parent (name_of q.path) (name_has_none q.path) in
    omega (arith, d, e)

-- the next of the rows

pub grow_next : (K : ℕ) (rows rows' start : List Row) (qs : List QueueRow) (i levels : ℕ) (q : QueueRow) (item : Queue) → i < length qs → q ≡ get_or qs i q → IsGrowing K rows (drop i qs) → queues_of rows ≡ queues_of start ++ take i qs →
    levels ≡ depth q.path - 1 → HasSettingsOf q item → IsUnused K item → IsAdded levels item.name item rows rows' → IsGrown K rows rows' q (drop (i + 1) qs) × (queues_of rows' ≡ queues_of start ++ take (i + 1) qs)
grow_next K rows rows' start qs i levels q item h e w s lv sh un a =
    let d : drop i qs ≡ q ∷ drop (i + 1) qs = drop-cons qs i q h ∙ (let z : suc i ≡ i + 1 = omega arith in ap (λ n. get_or qs i q ∷ drop n qs) z) ∙ ap (λ x. x ∷ drop (i + 1) qs) (sym e) in
    let g = grow K rows rows' q (drop (i + 1) qs) levels item (subst (IsGrowing K rows) d w) lv sh un a in
    (g, g.queues ∙ ap (λ x. x ++ q ∷ []) s ∙ append_assoc (queues_of start) (take i qs) (q ∷ []) ∙ ap (λ x. queues_of start ++ x) (ap (λ x. take i qs ++ x ∷ []) e ∙ sym (take_more qs i q h)))

pub grown_few : (rows start : List Row) (qs : List QueueRow) (i : ℕ) → queues_of rows ≡ queues_of start ++ take i qs → length start + length qs ≤ queues_max → length rows ≤ queues_max
grown_few rows start qs i is few =
    let whole = ap length is in
    let t = length-take i qs in
    omega (arith, whole, length-append (queues_of start) (take i qs), length-map rows settings_of_row, length-map start settings_of_row, t, few)

pub next_level : (K : ℕ) (rows : List Row) (qs : List QueueRow) (i : ℕ) (q : QueueRow) → i < length qs → q ≡ get_or qs i q → IsGrowing K rows (drop i qs) → 1 ≤ depth q.path
next_level K rows qs i q h e w =
    let d : drop i qs ≡ q ∷ drop (i + 1) qs = drop-cons qs i q h ∙ (let z : suc i ≡ i + 1 = omega arith in ap (λ n. get_or qs i q ∷ drop n qs) z) ∙ ap (λ x. x ∷ drop (i + 1) qs) (sym e) in
    has_level w.last.path q (drop (i + 1) qs) (subst (λ x. IsListed w.last.path x) d w.listed)

-- the root alone

pub start : (K : ℕ) (qs others : List QueueRow) (first : QueueRow) (item : Queue) → qs ≡ first ∷ others → IsListing qs → HasSettingsOf first item → IsUnused K item →
    IsGrown K [] (record { position = []; path = item.name; item = item } ∷ []) first others
start K qs others first item e l sh un =
    let k = subst IsListing e l in
    let root : first.path ≡ root_path = k.listed.0 in
    let name : item.name ≡ first.path = sh.name ∙ ap name_of root ∙ sym root in
    let spot : Row = record { position = []; path = item.name; item = item } in
    let same : settings_of_row spot ≡ first = λ i. record { path = name i; guaranteed = sh.guaranteed i; maximum = sh.maximum i; factor = sh.factor i; running = sh.running i } in
    let depth_is : depth item.name ≡ 0 = ap depth (name ∙ root) in
    let paths : PositionsArePaths (spot ∷ []) = of_each (λ r. All (λ s. leads_to r.position s.position ≡ is_under r.path s.path) (spot ∷ [])) (spot ∷ []) (λ r m. of_each (λ s. leads_to r.position s.position ≡ is_under r.path s.path) (spot ∷ []) (λ s n. pair r s m n)) in
    record {
      growing = record {
        last = spot;
        member = inl refl;
        last_is = refl;
        listed = subst (λ p. IsListed p others) (sym (name ∙ root)) k.listed.1;
        distinct = subst (λ q. HasDistinctPaths (q ∷ others)) (sym same) k.tree.distinct;
        closed = of_each (λ q. (front rest : List ℕ) → q.path ≡ front ++ 46 ∷ rest → has_path (queues_of (spot ∷ [])) front ≡ true) (queues_of (spot ∷ [])) (λ q m front rest d. absurd (no_front q front rest m d));
        paths = paths;
        depths = of_each (λ r. length r.position ≡ depth r.path) (spot ∷ []) (λ r m. one r m (sym depth_is));
        unused = of_each (λ r. IsUnused K r.item) (spot ∷ []) (λ r m. unused_one r m);
        names = of_each HasLastName (spot ∷ []) (λ r m. named_one r m (sh.name ∙ ap name_of (sym name)));
      };
      queues = ap (λ x. x ∷ []) same;
    }
  where
    pair : (r s : Row) → IsIn r (record { position = []; path = item.name; item = item } ∷ []) → IsIn s (record { position = []; path = item.name; item = item } ∷ []) → leads_to r.position s.position ≡ is_under r.path s.path
    pair r s (inl d) (inl c) = subst (λ (x : Row). leads_to x.position s.position ≡ is_under x.path s.path) d (subst (λ (x : Row). true ≡ is_under item.name x.path) c (sym (under_itself item.name)))
    pair r s (inr d) n = absurd d
    pair r s (inl d) (inr c) = absurd c

    one : (r : Row) → IsIn r (record { position = []; path = item.name; item = item } ∷ []) → 0 ≡ depth item.name → length r.position ≡ depth r.path
    one r (inl d) z = subst (λ (x : Row). length x.position ≡ depth x.path) d z
    one r (inr d) z = absurd d

    unused_one : (r : Row) → IsIn r (record { position = []; path = item.name; item = item } ∷ []) → IsUnused K r.item
    unused_one r (inl d) = subst (λ (x : Row). IsUnused K x.item) d un
    unused_one r (inr d) = absurd d

    named_one : (r : Row) → IsIn r (record { position = []; path = item.name; item = item } ∷ []) → item.name ≡ name_of item.name → HasLastName r
    named_one r (inl d) z = subst HasLastName d z
    named_one r (inr d) z = absurd d

    no_front : (q : QueueRow) (front rest : List ℕ) → IsIn q (queues_of (record { position = []; path = item.name; item = item } ∷ [])) → q.path ≡ front ++ 46 ∷ rest → ⊥
    no_front q front rest (inl d) c =
        let k = subst IsListing e l in
        let root : first.path ≡ root_path = k.listed.0 in
        let name : item.name ≡ root_path = sh.name ∙ ap name_of root in
        let p : root_path ≡ front ++ 46 ∷ rest = sym name ∙ ap (λ (x : QueueRow). x.path) d ∙ c in
        let n = ap has_dot p in
        let t = dot_in front rest in
        cc (n, t)
    no_front q front rest (inr d) c = absurd d

-- the whole tree

pub finished : (K : ℕ) (rows : List Row) (qs : List QueueRow) → IsGrowing K rows [] → queues_of rows ≡ qs → IsListing qs → AreRows rows
finished K rows qs w e l = record {
  listing = subst IsListing (sym e) l;
  paths = w.paths;
  short = of_each (λ r. length r.position ≤ 15) rows (λ r m.
      let d = each_of (λ r. length r.position ≡ depth r.path) rows w.depths r m in
      let k = each_of (λ q. depth q.path ≤ depth_max) qs l.levels (settings_of_row r) (subst (IsIn (settings_of_row r)) e (in_map settings_of_row rows r m)) in
      omega (arith, d, k));
  names = w.names;
}

pub none_listed : (qs : List QueueRow) → length qs < 1 → IsListing qs → ⊥
none_listed [] h l = l.listed
none_listed (q ∷ qs) h l = absurd (omega arith)

pub split_list : (qs : List QueueRow) (first : QueueRow) → 1 ≤ length qs → first ≡ get_or qs 0 first → qs ≡ first ∷ take (length qs - 1) (drop 1 qs)
split_list [] first h e = absurd (omega arith)
split_list (q ∷ qs) first h e =
    let n : length (q ∷ qs) - 1 ≡ length qs = omega arith in
    λ i. sym e i ∷ sym (ap (λ k. take k qs) n ∙ take_all (length qs) qs (omega arith)) i
