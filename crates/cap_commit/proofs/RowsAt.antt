-- The row of a queue, by its path and by its position.
use Rattle.cap_commit.proofs.Prelude.{◌≡◌, ℕ, ◌≤◌, Bool, true, false, cond, List, [], ◌∷◌, Some, map, refl, sym, ◌∙◌, ap, subst, inl, inr, arith, bytes_eq, find, is_some, ◌||◌, list_any, bytes_eq-Decides, count_by-le-length, QueueRow, applications_max, App, is_under, HasDistinctPaths, IsIn, each_of, in_map, bytes_itself, HoldsOfItem, IsPosition, item_at, path_at, Row, AreRows, IsAt, queues_of, settings_of_row, active_in, at_position, Parts, AreConsistent, IsRowOf, flat_of}

-- neither holds where one or the other does not
pub or_no : (a b : Bool) → a || b ≡ false → (a ≡ false) × (b ≡ false)
or_no true b h = absurd (cc h)
or_no false b h = (refl, h)

not_among : (qs : List QueueRow) (path : List ℕ) (q : QueueRow) → list_any (λ (r : QueueRow). bytes_eq r.path path) qs ≡ false → IsIn q qs → bytes_eq q.path path ≡ false
not_among [] path q h m = absurd m
not_among (x ∷ qs) path q h (inl e) = subst (λ y. bytes_eq y.path path ≡ false) e (or_no (bytes_eq x.path path) (list_any (λ (r : QueueRow). bytes_eq r.path path) qs) h).0
not_among (x ∷ qs) path q h (inr m) = not_among qs path q (or_no (bytes_eq x.path path) (list_any (λ (r : QueueRow). bytes_eq r.path path) qs) h).1 m

-- of paths that are all others, each is found
pub found_by_path : (qs : List QueueRow) → HasDistinctPaths qs → (q : QueueRow) → IsIn q qs → find (λ r. bytes_eq r.path q.path) qs ≡ Some q
found_by_path [] d q m = absurd m
found_by_path (x ∷ qs) d q (inl e) = subst (λ y. find (λ (r : QueueRow). bytes_eq r.path y.path) (x ∷ qs) ≡ Some y) e (ap (λ b. cond b (Some x) (find (λ (r : QueueRow). bytes_eq r.path x.path) qs)) (bytes_itself x.path))
found_by_path (x ∷ qs) d q (inr m) = other (bytes_eq x.path q.path) refl (found_by_path qs d.1 q m)
  where
    other : (b : Bool) → bytes_eq x.path q.path ≡ b → find (λ r. bytes_eq r.path q.path) qs ≡ Some q → cond (bytes_eq x.path q.path) (Some x) (find (λ (r : QueueRow). bytes_eq r.path q.path) qs) ≡ Some q
    other true e f =
        let same = (bytes_eq-Decides x.path q.path).0 e in
        absurd (let no = not_among qs x.path q d.0 m in let yes : bytes_eq q.path x.path ≡ true = (bytes_eq-Decides q.path x.path).1 (sym same) in cc (no, yes))
    other false e f = ap (λ b. cond b (Some x) (find (λ (r : QueueRow). bytes_eq r.path q.path) qs)) e ∙ f

-- the row of a path and a position
pub record IsRowAt (rows : List Row) (path position : List ℕ) : Type 0 where
  pub row : Row
  pub member : IsIn row rows
  pub path_is : row.path ≡ path
  pub item_is : item_at position rows ≡ Some row.item

pub row_at : (rows : List Row) (path position : List ℕ) → IsAt rows path position → IsRowAt rows path position
row_at rows path position h =
    let t = at_position position rows h.present in
    record { row = t.row; member = t.member; path_is = sym t.path_is ∙ h.path_is; item_is = t.item_is }

-- its settings are those of the path
pub found_row : (rows : List Row) (path position : List ℕ) → AreRows rows → (r : IsRowAt rows path position) → find (λ q. bytes_eq q.path path) (queues_of rows) ≡ Some (settings_of_row r.row)
found_row rows path position a r =
    ap (λ p. find (λ (q : QueueRow). bytes_eq q.path p) (queues_of rows)) (sym r.path_is) ∙ found_by_path (queues_of rows) a.listing.tree.distinct (settings_of_row r.row) (in_map settings_of_row rows r.row r.member)

-- a queue that is at a position is there
pub is_found : (rows : List Row) (path position : List ℕ) → IsAt rows path position → is_some (find (λ q. bytes_eq q.path path) (queues_of rows)) ≡ true
is_found rows path position h =
    let r = row_at rows path position h in
    by rows r.row r.member r.path_is
  where
    by : (rs : List Row) (r : Row) → IsIn r rs → r.path ≡ path → is_some (find (λ q. bytes_eq q.path path) (queues_of rs)) ≡ true
    by [] r m e = absurd m
    by (x ∷ rs) r (inl same) e = ap (λ b. is_some (cond b (Some (settings_of_row x)) (find (λ q. bytes_eq q.path path) (queues_of rs)))) ((bytes_eq-Decides x.path path).1 (ap (λ (y : Row). y.path) same ∙ e))
    by (x ∷ rs) r (inr m) e = either (bytes_eq x.path path) (by rs r m e)
      where
        either : (b : Bool) → is_some (find (λ q. bytes_eq q.path path) (queues_of rs)) ≡ true → is_some (cond b (Some (settings_of_row x)) (find (λ q. bytes_eq q.path path) (queues_of rs))) ≡ true
        either true f = refl
        either false f = f

-- no queue has more applications than are allowed
pub active_few : {K : ℕ} (p : Parts K) → AreConsistent p → (r : Row) → IsIn r p.rows → r.item.active ≤ applications_max
active_few p h r m =
    let t = (each_of (IsRowOf (flat_of p)) p.rows h.tied r m).active in
    let few = h.few in
    omega (arith, t, few, count_by-le-length (λ (app : App). is_under r.path app.leaf) p.apps.table.active)

pub all_few : {K : ℕ} (p : Parts K) → AreConsistent p → active_in p.rows ≤ applications_max
all_few p h = by p.rows (λ r m. active_few p h r m)
  where
    by : (rows : List Row) → ((r : Row) → IsIn r rows → r.item.active ≤ applications_max) → active_in rows ≤ applications_max
    by [] f = omega arith
    by (r ∷ rows) f = f r (inl refl)

-- a change of rows that keeps positions and paths leaves each queue where it is
module _ (g : Row → Row) (positions : (r : Row) → (g r).position ≡ r.position) (paths : (r : Row) → (g r).path ≡ r.path) where
  position_kept : (position : List ℕ) (rows : List Row) → IsPosition rows position → IsPosition (map g rows) position
  position_kept position [] h = absurd h
  position_kept position (r ∷ rows) h = rw (positions r) (by (bytes_eq r.position position) h (position_kept position rows))
    where
      by : (b : Bool) → HoldsOfItem (λ _. Unit {0}) (cond b (Some r.item) (item_at position rows)) → (IsPosition rows position → IsPosition (map g rows) position) → HoldsOfItem (λ _. Unit {0}) (cond b (Some (g r).item) (item_at position (map g rows)))
      by true x f = tt
      by false x f = f x

  path_kept : (position : List ℕ) (rows : List Row) → path_at position (map g rows) ≡ path_at position rows
  path_kept position [] = refl
  path_kept position (r ∷ rows) = rw (positions r) (by (bytes_eq r.position position) (path_kept position rows))
    where
      by : (b : Bool) → path_at position (map g rows) ≡ path_at position rows → cond b (g r).path (path_at position (map g rows)) ≡ cond b r.path (path_at position rows)
      by true e = paths r
      by false e = e

  pub still_at : (rows : List Row) (path position : List ℕ) → IsAt rows path position → IsAt (map g rows) path position
  still_at rows path position h = record { present = position_kept position rows h.present; path_is = path_kept position rows ∙ h.path_is }
