-- A listing of queues stays one where paths and factors stay.
use Rattle.cap_tree.proofs.Prelude.{◌≡◌, ℕ, ◌≤◌, Bool, true, false, cond, List, [], ◌∷◌, ◌++◌, map, Option, Some, refl, sym, ◌∙◌, ap, subst, bytes_eq, find, is_some, ◌||◌, if◌then◌else◌, All, list_any, QueueRow, is_under, HasDistinctPaths, has_path, depth, MayFollow, IsListed, IsListedFromRoot, IsListing, depth_max, factor_max, each_of, of_each, of_map, change_along, leads_to, Queue, with_running, with_settings, Row, AreRows, queues_of, settings_of_row, changed_at, with_row, with_state}
use Rattle.cap_tree.proofs.RowPaths.{names_kept, short_kept, paths_kept}

-- where paths stay, what they say of each other stays
module _ (f : QueueRow → QueueRow) (p : (q : QueueRow) → (f q).path ≡ q.path) where
  pub any_kept : (t : List ℕ → Bool) (qs : List QueueRow) → list_any (λ (r : QueueRow). t r.path) (map f qs) ≡ list_any (λ (r : QueueRow). t r.path) qs
  any_kept t [] = refl
  any_kept t (q ∷ qs) = ap (λ x. t x || list_any (λ (r : QueueRow). t r.path) (map f qs)) (p q) ∙ ap (λ b. t q.path || b) (any_kept t qs)

  some_cases : (b : Bool) (q r : QueueRow) (o u : Option QueueRow) → is_some o ≡ is_some u → is_some (cond b (Some q) o) ≡ is_some (cond b (Some r) u)
  some_cases true q r o u e = refl
  some_cases false q r o u e = e

  pub path_kept : (path : List ℕ) (qs : List QueueRow) → has_path (map f qs) path ≡ has_path qs path
  path_kept path [] = refl
  path_kept path (q ∷ qs) =
      ap (λ x. is_some (cond (bytes_eq x path) (Some (f q)) (find (λ (r : QueueRow). bytes_eq r.path path) (map f qs)))) (p q)
      ∙ some_cases (bytes_eq q.path path) (f q) q (find (λ (r : QueueRow). bytes_eq r.path path) (map f qs)) (find (λ (r : QueueRow). bytes_eq r.path path) qs) (path_kept path qs)

module _ (f : QueueRow → QueueRow) (p : (q : QueueRow) → (f q).path ≡ q.path) (k : (q : QueueRow) → q.factor ≤ factor_max → (f q).factor ≤ factor_max) where
  distinct_kept : (qs : List QueueRow) → HasDistinctPaths qs → HasDistinctPaths (map f qs)
  distinct_kept [] d = tt
  distinct_kept (q ∷ qs) d = (ap (λ x. list_any (λ (r : QueueRow). bytes_eq r.path x) (map f qs)) (p q) ∙ any_kept f p (λ x. bytes_eq x q.path) qs ∙ d.0, distinct_kept qs d.1)

  all_kept : (P : QueueRow → Type 0) (qs : List QueueRow) → ((q : QueueRow) → P q → P (f q)) → All P qs → All P (map f qs)
  all_kept P qs g a = of_each P (map f qs) (λ r m. let w = of_map f qs r m in subst P (w.2) (g (w.0) (each_of P qs a (w.0) (w.1))))

  listed_kept : (before : List ℕ) (qs : List QueueRow) → IsListed before qs → IsListed before (map f qs)
  listed_kept before [] l = tt
  listed_kept before (q ∷ qs) l = (subst (MayFollow before) (sym (p q)) l.0, subst (λ x. IsListed x (map f qs)) (sym (p q)) (listed_kept q.path qs l.1))

  from_root_kept : (qs : List QueueRow) → IsListedFromRoot qs → IsListedFromRoot (map f qs)
  from_root_kept [] l = l
  from_root_kept (q ∷ qs) l = (p q ∙ l.0, listed_kept _ qs l.1)

  pub listing_kept : (qs : List QueueRow) → IsListing qs → IsListing (map f qs)
  listing_kept qs l = record {
    tree = record {
      distinct = distinct_kept qs l.tree.distinct;
      above = all_kept (λ q. (front rest : List ℕ) → q.path ≡ front ++ 46 ∷ rest → has_path (map f qs) front ≡ true) qs (λ q h front rest e. h front rest (sym (p q) ∙ e))
          (of_each (λ q. (front rest : List ℕ) → q.path ≡ front ++ 46 ∷ rest → has_path (map f qs) front ≡ true) qs
          (λ q m front rest e. path_kept f p front qs ∙ each_of (λ q. (front rest : List ℕ) → q.path ≡ front ++ 46 ∷ rest → has_path qs front ≡ true) qs l.tree.above q m front rest e));
    };
    listed = from_root_kept qs l.listed;
    levels = all_kept (λ q. depth q.path ≤ depth_max) qs (λ q h. subst (λ x. depth x ≤ depth_max) (sym (p q)) h) l.levels;
    factors = all_kept (λ q. q.factor ≤ factor_max) qs k l.factors;
  }

-- a change that keeps the settings

module _ (above at : Queue → Queue) (ka : (r : Row) → settings_of_row (record r { item = above r.item }) ≡ settings_of_row r) (kt : (r : Row) → settings_of_row (record r { item = at r.item }) ≡ settings_of_row r) where
  row_cases : (b c : Bool) (r : Row) → settings_of_row (cond b (record r { item = at r.item }) (cond c (record r { item = above r.item }) r)) ≡ settings_of_row r
  row_cases true c r = kt r
  row_cases false true r = ka r
  row_cases false false r = refl

  -- by the path, and by the position
  pub settings_stay : (path : List ℕ) (rows : List Row) → queues_of (map (changed_at above at path) rows) ≡ queues_of rows
  settings_stay path [] = refl
  settings_stay path (r ∷ rows) = λ i. row_cases (bytes_eq r.path path) (is_under r.path path) r i ∷ settings_stay path rows i

  settings_kept : (position : List ℕ) (rows : List Row) → queues_of (map (change_along above at position) rows) ≡ queues_of rows
  settings_kept position [] = refl
  settings_kept position (r ∷ rows) = λ i. row_cases (bytes_eq r.position position) (leads_to r.position position) r i ∷ settings_kept position rows i

  pub rows_kept : ((q : Queue) → (above q).name ≡ q.name) → ((q : Queue) → (at q).name ≡ q.name) → (position : List ℕ) (rows : List Row) → AreRows rows → AreRows (map (change_along above at position) rows)
  rows_kept na nt position rows a = record {
    listing = subst IsListing (sym (settings_kept position rows)) a.listing;
    paths = paths_kept above at position rows a.paths;
    short = short_kept above at position rows 15 a.short;
    names = names_kept above at na nt position rows a.names;
  }

-- a change of a queue's own state

abbrev pub set_running : List ℕ → Bool → QueueRow → QueueRow
set_running path running q = if bytes_eq q.path path then record q { running = running } else q

pub same_path : (path : List ℕ) (running : Bool) (q : QueueRow) → (set_running path running q).path ≡ q.path
same_path path running q = by (bytes_eq q.path path)
  where
    by : (b : Bool) → (if b then record q { running = running } else q).path ≡ q.path
    by true = refl
    by false = refl

same_factor : (path : List ℕ) (running : Bool) (q : QueueRow) → (set_running path running q).factor ≡ q.factor
same_factor path running q = by (bytes_eq q.path path)
  where
    by : (b : Bool) → (if b then record q { running = running } else q).factor ≡ q.factor
    by true = refl
    by false = refl

state_cases : (b : Bool) (running : Bool) (r : Row) → settings_of_row (if b then record r { item = with_running running r.item } else r) ≡ (if b then record (settings_of_row r) { running = running } else settings_of_row r)
state_cases true running r = refl
state_cases false running r = refl

-- the settings with the state, as the rows show them
pub state_in_settings : (path : List ℕ) (running : Bool) (rows : List Row) → queues_of (map (with_state path running) rows) ≡ map (set_running path running) (queues_of rows)
state_in_settings path running [] = refl
state_in_settings path running (r ∷ rows) = λ i. state_cases (bytes_eq r.path path) running r i ∷ state_in_settings path running rows i

state_is_change : (path : List ℕ) (running : Bool) (rows : List Row) → map (changed_at (λ x. x) (with_running running) path) rows ≡ map (with_state path running) rows
state_is_change path running [] = refl
state_is_change path running (r ∷ rows) = λ i. by (bytes_eq r.path path) (is_under r.path path) i ∷ state_is_change path running rows i
  where
    by : (b c : Bool) → (if b then record r { item = with_running running r.item } else (if c then record r { item = r.item } else r)) ≡ (if b then record r { item = with_running running r.item } else r)
    by true c = refl
    by false true = refl
    by false false = refl

pub state_rows : (running : Bool) (position path : List ℕ) (rows : List Row) → map (change_along (λ x. x) (with_running running) position) rows ≡ map (changed_at (λ x. x) (with_running running) path) rows →
    map (change_along (λ x. x) (with_running running) position) rows ≡ map (with_state path running) rows
state_rows running position path rows e = e ∙ state_is_change path running rows

pub state_kept : (running : Bool) (position path : List ℕ) (rows : List Row) → map (change_along (λ x. x) (with_running running) position) rows ≡ map (with_state path running) rows → AreRows rows →
    AreRows (map (change_along (λ x. x) (with_running running) position) rows)
state_kept running position path rows e a = record {
  listing = subst IsListing (sym (ap queues_of e ∙ state_in_settings path running rows)) (listing_kept (set_running path running) (same_path path running) (λ q h. subst (λ x. x ≤ factor_max) (sym (same_factor path running q)) h) (queues_of rows) a.listing);
  paths = paths_kept (λ x. x) (with_running running) position rows a.paths;
  short = short_kept (λ x. x) (with_running running) position rows 15 a.short;
  names = names_kept (λ x. x) (with_running running) (λ q. refl) (λ q. refl) position rows a.names;
}

-- a change of a queue's settings

abbrev pub set_settings : QueueRow → QueueRow → QueueRow
set_settings row q = if bytes_eq q.path row.path then record q { guaranteed = row.guaranteed; maximum = row.maximum; factor = row.factor; running = row.running } else q

same_path_of : (row q : QueueRow) → (set_settings row q).path ≡ q.path
same_path_of row q = by (bytes_eq q.path row.path)
  where
    by : (b : Bool) → (if b then record q { guaranteed = row.guaranteed; maximum = row.maximum; factor = row.factor; running = row.running } else q).path ≡ q.path
    by true = refl
    by false = refl

low_factor : (row q : QueueRow) → row.factor ≤ factor_max → q.factor ≤ factor_max → (set_settings row q).factor ≤ factor_max
low_factor row q g h = by (bytes_eq q.path row.path)
  where
    by : (b : Bool) → (if b then record q { guaranteed = row.guaranteed; maximum = row.maximum; factor = row.factor; running = row.running } else q).factor ≤ factor_max
    by true = g
    by false = h

settings_cases : (b : Bool) (row : QueueRow) (r : Row) →
    settings_of_row (if b then record r { item = with_settings row r.item } else r)
    ≡ (if b then record (settings_of_row r) { guaranteed = row.guaranteed; maximum = row.maximum; factor = row.factor; running = row.running } else settings_of_row r)
settings_cases true row r = refl
settings_cases false row r = refl

pub row_in_settings : (row : QueueRow) (rows : List Row) → queues_of (map (with_row row) rows) ≡ map (set_settings row) (queues_of rows)
row_in_settings row [] = refl
row_in_settings row (r ∷ rows) = λ i. settings_cases (bytes_eq r.path row.path) row r i ∷ row_in_settings row rows i

row_is_change : (row : QueueRow) (rows : List Row) → map (changed_at (λ x. x) (with_settings row) row.path) rows ≡ map (with_row row) rows
row_is_change row [] = refl
row_is_change row (r ∷ rows) = λ i. by (bytes_eq r.path row.path) (is_under r.path row.path) i ∷ row_is_change row rows i
  where
    by : (b c : Bool) → (if b then record r { item = with_settings row r.item } else (if c then record r { item = r.item } else r)) ≡ (if b then record r { item = with_settings row r.item } else r)
    by true c = refl
    by false true = refl
    by false false = refl

pub row_rows : (row : QueueRow) (position path : List ℕ) (rows : List Row) → path ≡ row.path →
    map (change_along (λ x. x) (with_settings row) position) rows ≡ map (changed_at (λ x. x) (with_settings row) path) rows → map (change_along (λ x. x) (with_settings row) position) rows ≡ map (with_row row) rows
row_rows row position path rows at e = e ∙ ap (λ p. map (changed_at (λ x. x) (with_settings row) p) rows) at ∙ row_is_change row rows

pub row_kept : (row : QueueRow) (position : List ℕ) (rows : List Row) → row.factor ≤ factor_max → map (change_along (λ x. x) (with_settings row) position) rows ≡ map (with_row row) rows → AreRows rows →
    AreRows (map (change_along (λ x. x) (with_settings row) position) rows)
row_kept row position rows f e a = record {
  listing = subst IsListing (sym (ap queues_of e ∙ row_in_settings row rows)) (listing_kept (set_settings row) (same_path_of row) (λ q. low_factor row q f) (queues_of rows) a.listing);
  paths = paths_kept (λ x. x) (with_settings row) position rows a.paths;
  short = short_kept (λ x. x) (with_settings row) position rows 15 a.short;
  names = names_kept (λ x. x) (with_settings row) (λ q. refl) (λ q. refl) position rows a.names;
}
