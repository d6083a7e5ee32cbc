-- The rows are a tree.
use Rattle.cap_config.proofs.Prelude.{◌≡◌, ℕ, zero, suc, ◌+◌, ◌<◌, ◌≤◌, List, [], ◌∷◌, ◌++◌, length, Bool, true, false, cond, Option, Some, None, Result, Ok, Err, refl, sym, ap, ◌∙◌, arith, subst, ◌||◌, is_some, find, slice_index_or, list_any, bytes_eq, lines, sum_by-cons, same_Some, QueueRow, Settings, IsTree, HasDistinctPaths, has_path, bytes_itself, Entry, ConfigFault, root, last_dot, is_dot, contains_bytes, is_queue, child, read_lines, whole_fault, settings_of, rows_under, are_bounded, settings_in, settings_after, unless_fault}
use Rattle.cap_config.proofs.Children.{dotless_cons}
use Rattle.cap_config.proofs.Least.{of_queues}
use Rattle.cap_config.proofs.RowPaths.{paths_of, first_of_two, second_of_two, queue_rows}
use Rattle.cap_config.proofs.RowCounts.{rows_for, rows_at_most}

-- where the settings of a text come from
pub record IsMadeOf (text : List ℕ) (settings : Settings) : Type 0 where
  pub entries : List Entry
  pub read : read_lines (lines text) ≡ Ok entries
  pub whole : whole_fault entries ≡ None
  pub made : settings_of entries ≡ settings

made_unless : (text : List ℕ) (settings : Settings) (entries : List Entry) (fault : Option ConfigFault) → read_lines (lines text) ≡ Ok entries → whole_fault entries ≡ fault →
    unless_fault fault (settings_of entries) ≡ Some settings → IsMadeOf text settings
made_unless text settings entries (Some fault) is found h = absurd (cc h)
made_unless text settings entries None is found h = record { entries = entries; read = is; whole = found; made = same_Some (settings_of entries) settings h }

made_after : (text : List ℕ) (settings : Settings) (r : Result (List Entry) ConfigFault) → read_lines (lines text) ≡ r → settings_after r ≡ Some settings → IsMadeOf text settings
made_after text settings (Ok entries) is h = made_unless text settings entries (whole_fault entries) is refl h
made_after text settings (Err fault) is h = absurd (cc h)

pub made_of : (text : List ℕ) (settings : Settings) → settings_in text ≡ Some settings → IsMadeOf text settings
unfolding settings_in
made_of text settings h = made_after text settings (read_lines (lines text)) refl h

-- a path with no row is not among the rows
none_there_by : (b : Bool) (n : ℕ) (among : Bool) → cond b 1 0 + n ≡ 0 → (n ≡ 0 → among ≡ false) → (b || among) ≡ false
none_there_by true n among h later = absurd (omega (arith, h))
none_there_by false n among h later = later (omega (arith, h))

none_there : (rows : List QueueRow) (path : List ℕ) → rows_for rows path ≡ 0 → list_any (λ r. bytes_eq r.path path) rows ≡ false
none_there [] path h = refl
none_there (row ∷ rows) path h =
    none_there_by (bytes_eq row.path path) (rows_for rows path) (list_any (λ r. bytes_eq r.path path) rows)
    (sym (sum_by-cons (λ (r : QueueRow). cond (bytes_eq r.path path) 1 0) row rows) ∙ h) (none_there rows path)

no_second : (b : Bool) (n : ℕ) → b ≡ true → cond b 1 0 + n ≤ 1 → n ≡ 0
no_second true n h most = omega (arith, most)
no_second false n h most = absurd (cc h)

less_by : (b : Bool) (n : ℕ) → cond b 1 0 + n ≤ 1 → n ≤ 1
less_by true n most = omega (arith, most)
less_by false n most = omega (arith, most)

count_first : (row : QueueRow) (rows : List QueueRow) (path : List ℕ) → rows_for (row ∷ rows) path ≤ 1 → cond (bytes_eq row.path path) 1 0 + rows_for rows path ≤ 1
count_first row rows path most = subst (λ n. n ≤ 1) (sum_by-cons (λ (r : QueueRow). cond (bytes_eq r.path path) 1 0) row rows) most

-- rows of which each path has one at most
distinct_rows : (rows : List QueueRow) → ((path : List ℕ) → rows_for rows path ≤ 1) → HasDistinctPaths rows
distinct_rows [] most = tt
distinct_rows (row ∷ rows) most = (
  none_there rows row.path (no_second (bytes_eq row.path row.path) (rows_for rows row.path) (bytes_itself row.path) (count_first row rows row.path (most row.path))),
  distinct_rows rows (λ path. less_by (bytes_eq row.path path) (rows_for rows path) (count_first row rows path (most path))),
)

-- a path among those of the rows has a row
is_there_by : (b : Bool) (row : QueueRow) (r : Option QueueRow) (among : Bool) → (b || among) ≡ true → (among ≡ true → is_some r ≡ true) → is_some (cond b (Some row) r) ≡ true
is_there_by true row r among h later = refl
is_there_by false row r among h later = later h

is_there : (rows : List QueueRow) (path : List ℕ) → contains_bytes (paths_of rows) path ≡ true → has_path rows path ≡ true
is_there [] path h = absurd (cc h)
is_there (row ∷ rows) path h = is_there_by (bytes_eq row.path path) row (find (λ r. bytes_eq r.path path) rows) (contains_bytes (paths_of rows) path) h (is_there rows path)

-- the path of each row is among those of the rows
pub own_path : (rows : List QueueRow) (k : ℕ) (d : QueueRow) → k < length rows → contains_bytes (paths_of rows) (slice_index_or rows k d).path ≡ true
own_path [] k d h = absurd (omega arith)
own_path (row ∷ rows) zero d h = first_of_two (bytes_eq row.path row.path) (contains_bytes (paths_of rows) row.path) (bytes_itself row.path)
own_path (row ∷ rows) (suc k) d h =
    second_of_two (bytes_eq row.path (slice_index_or rows k d).path) (contains_bytes (paths_of rows) (slice_index_or rows k d).path) (own_path rows k d (omega (arith, h)))

-- bytes without a dot have no beginning before one
no_front : (front rest : List ℕ) → last_dot (front ++ 46 ∷ rest) ≡ None → ⊥
no_front [] rest h = absurd (cc (dotless_cons true (last_dot rest) h).0)
no_front (b ∷ front) rest h = no_front front rest (dotless_cons (is_dot b) (last_dot (front ++ 46 ∷ rest)) h).1

-- the beginnings before a dot of a path below another are the other and those of the other
front_of_child : (C : List ℕ → Type 0) (p name front rest : List ℕ) → last_dot name ≡ None → child p name ≡ front ++ 46 ∷ rest → C p →
    ((front rest : List ℕ) → p ≡ front ++ 46 ∷ rest → C front) → C front
front_of_child C [] name [] rest none e own above = own
front_of_child C [] name (x ∷ front) rest none e own above =
    absurd (no_front front rest (subst (λ (bytes : List ℕ). last_dot bytes ≡ None) (let t : name ≡ front ++ 46 ∷ rest = cc e in t) none))
front_of_child C (b ∷ p) name [] rest none e own above = above [] p (let h : b ≡ 46 = cc e in ap (λ x. x ∷ p) h)
front_of_child C (b ∷ p) name (x ∷ front) rest none e own above =
    let first : b ≡ x = cc e in
    let later : child p name ≡ front ++ 46 ∷ rest = cc e in
    front_of_child (λ bytes. C (x ∷ bytes)) p name front rest none later (subst (λ n. C (n ∷ p)) first own) (λ f r is. above (x ∷ f) r (ap (λ n. n ∷ p) first ∙ ap (λ bytes. x ∷ bytes) is))

root_dotless : last_dot root ≡ None
unfolding root
root_dotless = refl

-- each beginning of a queue's path before a dot is a queue
fronts_are : (entries : List Entry) (path : List ℕ) → is_queue entries path ≡ true → (front rest : List ℕ) → path ≡ front ++ 46 ∷ rest → is_queue entries front ≡ true
fronts_are entries path h =
    of_queues entries (λ p. (front rest : List ℕ) → p ≡ front ++ 46 ∷ rest → is_queue entries front ≡ true)
    (λ front rest e. absurd (no_front front rest (sym (ap last_dot e) ∙ root_dotless)))
    (λ p name q in_list cut above front rest e. front_of_child (λ bytes. is_queue entries bytes ≡ true) p name front rest cut.dotless e q above)
    path h

-- the rows from the root on are a tree
pub rows_tree : (entries : List Entry) → are_bounded entries ≡ true → whole_fault entries ≡ None → IsTree (rows_under 16 entries root)
rows_tree entries all none =
    let rows = rows_under 16 entries root in
    record {
      distinct = distinct_rows rows (λ path. rows_at_most entries all 16 root path);
      above = λ k d h front rest e.
          let path = (slice_index_or rows k d).path in
          let here : is_queue entries path ≡ true = sym (queue_rows entries all none path) ∙ own_path rows k d h in
          is_there rows front (queue_rows entries all none front ∙ fronts_are entries path here front rest e);
    }
