-- The paths of the rows are those of the queues.
use Rattle.cap_config.proofs.Prelude.{◌≡◌, ℕ, zero, suc, ◌+◌, ◌≤◌, List, [], ◌∷◌, ◌++◌, Bool, true, false, Option, None, Ok, refl, sym, ap, ◌∙◌, arith, subst, ◌||◌, map, flat_map, bytes_eq, lines, QueueRow, same_test, bytes_itself, Entry, ConfigFault, ConfigFaultKind, root, contains_bytes, is_queue, names_below, child, BadValue, NoChild, NoSuchQueue, TooDeep, TooManyQueues, GuaranteeOverMaximum, allocation_line, no_child_line, no_such_queue_line, too_deep_line, too_many_line, over_maximum_line, level, whole_fault, shape_fault, or_else, or_fault, read_lines, rows_under, row_of, settings_of, are_bounded}
use Rattle.cap_config.proofs.FaultLines.{lines_kept}
use Rattle.cap_config.proofs.Found.{same_bytes}
use Rattle.cap_config.proofs.Children.{level_below}
use Rattle.cap_config.proofs.Least.{of_queues, root_is, listed_is, level_small}

abbrev pub paths_of : List QueueRow → List (List ℕ)
paths_of rows = map (λ row. row.path) rows

-- in one of two lists
pub either : (C : Type 0) (a b : Bool) → (a || b) ≡ true → (a ≡ true → C) → (b ≡ true → C) → C
either C true b h left right = left refl
either C false b h left right = right h

pub first_of_two : (a b : Bool) → a ≡ true → (a || b) ≡ true
first_of_two true b h = refl
first_of_two false b h = absurd (cc h)

pub second_of_two : (a b : Bool) → b ≡ true → (a || b) ≡ true
second_of_two true b h = refl
second_of_two false b h = h

or_assoc : (a b c : Bool) → (a || (b || c)) ≡ ((a || b) || c)
or_assoc true b c = refl
or_assoc false b c = refl

paths_append : (xs ys : List QueueRow) (path : List ℕ) → contains_bytes (paths_of (xs ++ ys)) path ≡ (contains_bytes (paths_of xs) path || contains_bytes (paths_of ys) path)
paths_append [] ys path = refl
paths_append (x ∷ xs) ys path = ap (λ b. bytes_eq x.path path || b) (paths_append xs ys path) ∙ or_assoc (bytes_eq x.path path) (contains_bytes (paths_of xs) path) (contains_bytes (paths_of ys) path)

-- a path in the rows of many lists is in one of them
pub in_some : (C : Type 0) (f : List ℕ → List QueueRow) (names : List (List ℕ)) (path : List ℕ) → contains_bytes (paths_of (flat_map f names)) path ≡ true →
    ((name : List ℕ) → contains_bytes names name ≡ true → contains_bytes (paths_of (f name)) path ≡ true → C) → C
in_some C f [] path h found = absurd (cc h)
in_some C f (n ∷ names) path h found =
    either C (contains_bytes (paths_of (f n)) path) (contains_bytes (paths_of (flat_map f names)) path) (sym (paths_append (f n) (flat_map f names) path) ∙ h)
    (λ here. found n (first_of_two (bytes_eq n n) (contains_bytes names n) (bytes_itself n)) here)
    (λ later. in_some C f names path later (λ name in_list here. found name (second_of_two (bytes_eq n name) (contains_bytes names name) in_list) here))

in_all : (f : List ℕ → List QueueRow) (names : List (List ℕ)) (name path : List ℕ) → contains_bytes names name ≡ true → contains_bytes (paths_of (f name)) path ≡ true → contains_bytes (paths_of (flat_map f names)) path ≡ true
in_all f [] name path in_list here = absurd (cc in_list)
in_all f (n ∷ names) name path in_list here =
    paths_append (f n) (flat_map f names) path
    ∙ either ((contains_bytes (paths_of (f n)) path || contains_bytes (paths_of (flat_map f names)) path) ≡ true) (bytes_eq n name) (contains_bytes names name) in_list
    (λ same. first_of_two (contains_bytes (paths_of (f n)) path) (contains_bytes (paths_of (flat_map f names)) path) (subst (λ (x : List ℕ). contains_bytes (paths_of (f x)) path ≡ true) (sym (same_bytes n name same)) here))
    (λ later. second_of_two (contains_bytes (paths_of (f n)) path) (contains_bytes (paths_of (flat_map f names)) path) (in_all f names name path later here))

pub paths_more : (n : ℕ) (entries : List Entry) (p path : List ℕ) →
    contains_bytes (paths_of (rows_under (suc n) entries p)) path ≡ (bytes_eq p path || contains_bytes (paths_of (flat_map (λ name. rows_under n entries (child p name)) (names_below entries p))) path)
unfolding rows_under row_of
paths_more n entries p path = refl

pub none_under : (C : Type 0) (entries : List Entry) (p path : List ℕ) → contains_bytes (paths_of (rows_under zero entries p)) path ≡ true → C
unfolding rows_under
none_under C entries p path h = absurd (cc h)

-- a path in the rows under a queue is a queue
pub row_is : (entries : List Entry) → are_bounded entries ≡ true → (n : ℕ) (p path : List ℕ) → is_queue entries p ≡ true → contains_bytes (paths_of (rows_under n entries p)) path ≡ true → is_queue entries path ≡ true
row_is entries all zero p path q h = none_under (is_queue entries path ≡ true) entries p path h
row_is entries all (suc n) p path q h =
    either (is_queue entries path ≡ true) (bytes_eq p path) (contains_bytes (paths_of (flat_map (λ name. rows_under n entries (child p name)) (names_below entries p))) path) (sym (paths_more n entries p path) ∙ h)
    (λ same. subst (λ (x : List ℕ). is_queue entries x ≡ true) (same_bytes p path same) q)
    (λ later. in_some (is_queue entries path ≡ true) (λ name. rows_under n entries (child p name)) (names_below entries p) path later
    (λ name in_list here. row_is entries all n (child p name) path (listed_is entries p name all q in_list) here))

first_row : (n : ℕ) (entries : List Entry) (p : List ℕ) → contains_bytes (paths_of (rows_under (suc n) entries p)) p ≡ true
first_row n entries p = paths_more n entries p p ∙ first_of_two (bytes_eq p p) _ (bytes_itself p)

-- a level more has a row for each name that a queue of a row lists
row_below : (entries : List Entry) (n : ℕ) (p q name : List ℕ) → contains_bytes (names_below entries q) name ≡ true → contains_bytes (paths_of (rows_under n entries p)) q ≡ true →
    contains_bytes (paths_of (rows_under (suc n) entries p)) (child q name) ≡ true
row_below entries zero p q name in_list h = none_under (contains_bytes (paths_of (rows_under (suc zero) entries p)) (child q name) ≡ true) entries p q h
row_below entries (suc n) p q name in_list h =
    let C = contains_bytes (paths_of (rows_under (suc (suc n)) entries p)) (child q name) ≡ true in
    let rest = contains_bytes (paths_of (flat_map (λ m. rows_under (suc n) entries (child p m)) (names_below entries p))) (child q name) in
    either C (bytes_eq p q) (contains_bytes (paths_of (flat_map (λ m. rows_under n entries (child p m)) (names_below entries p))) q) (sym (paths_more n entries p q) ∙ h)
    (λ same.
    paths_more (suc n) entries p (child q name)
    ∙ second_of_two (bytes_eq p (child q name)) rest
    (in_all (λ m. rows_under (suc n) entries (child p m)) (names_below entries p) name (child q name)
    (subst (λ (x : List ℕ). contains_bytes (names_below entries x) name ≡ true) (sym (same_bytes p q same)) in_list)
    (subst (λ (x : List ℕ). contains_bytes (paths_of (rows_under (suc n) entries (child x name))) (child q name) ≡ true) (sym (same_bytes p q same)) (first_row n entries (child q name)))))
    (λ later. in_some C (λ m. rows_under n entries (child p m)) (names_below entries p) q later
    (λ m listed here.
    paths_more (suc n) entries p (child q name)
    ∙ second_of_two (bytes_eq p (child q name)) rest (in_all (λ k. rows_under (suc n) entries (child p k)) (names_below entries p) m (child q name) listed (row_below entries n (child p m) q name in_list here))))

first_at : (entries : List Entry) (n : ℕ) → level root ≤ n → contains_bytes (paths_of (rows_under n entries root)) root ≡ true
unfolding root
first_at entries zero h = absurd (omega arith)
first_at entries (suc n) h = first_row n entries root

below_at : (entries : List Entry) (p name : List ℕ) (l m : ℕ) → l ≡ m + 1 → contains_bytes (names_below entries p) name ≡ true →
    ((n : ℕ) → m ≤ n → contains_bytes (paths_of (rows_under n entries root)) p ≡ true) → (n : ℕ) → l ≤ n → contains_bytes (paths_of (rows_under n entries root)) (child p name) ≡ true
below_at entries p name l m e in_list above zero h = absurd (omega arith)
below_at entries p name l m e in_list above (suc n) h = row_below entries n root p name in_list (above n (omega arith))

-- a queue has a row under `root` where there are levels enough
pub row_of_queue : (entries : List Entry) (path : List ℕ) → is_queue entries path ≡ true → (n : ℕ) → level path ≤ n → contains_bytes (paths_of (rows_under n entries root)) path ≡ true
row_of_queue entries path h =
    of_queues entries (λ p. (n : ℕ) → level p ≤ n → contains_bytes (paths_of (rows_under n entries root)) p ≡ true) (first_at entries)
    (λ p name q in_list cut above. below_at entries p name (level (child p name)) (level p) (level_below (child p name) p name cut) in_list above)
    path h

pub no_other : (line : Option ℕ) (kind : ConfigFaultKind) (other : Option ConfigFault) → or_else line kind other ≡ None → (line ≡ None) × (other ≡ None)
no_other None kind other h = (refl, h)
no_other line kind other h = absurd (cc h)

no_shape : (a b : Option ConfigFault) → or_fault a b ≡ None → a ≡ None
no_shape None b h = refl
no_shape a b h = absurd (cc h)

shape_is_none : (entries : List Entry) → whole_fault entries ≡ None → shape_fault entries ≡ None
unfolding whole_fault
shape_is_none entries h = no_shape (shape_fault entries) _ h

-- the tests of the shape that laws speak of
pub record HasShape (entries : List Entry) : Type 0 where
  pub deep : too_deep_line entries ≡ None
  pub many : too_many_line entries ≡ None
  pub over : over_maximum_line entries ≡ None

pub shape_of : (entries : List Entry) → whole_fault entries ≡ None → HasShape entries
unfolding shape_fault
shape_of entries none =
    let over = or_else (over_maximum_line entries) GuaranteeOverMaximum None in
    let many = or_else (too_many_line entries) TooManyQueues over in
    let deep = or_else (too_deep_line entries) TooDeep many in
    let astray = or_else (no_such_queue_line entries) NoSuchQueue deep in
    let childless = or_else (no_child_line entries) NoChild astray in
    let after_bounds = (no_other (allocation_line entries) BadValue childless (shape_is_none entries none)).1 in
    let after_children = (no_other (no_child_line entries) NoChild astray after_bounds).1 in
    let after_queues = (no_other (no_such_queue_line entries) NoSuchQueue deep after_children).1 in
    let at_levels = no_other (too_deep_line entries) TooDeep many after_queues in
    let at_counts = no_other (too_many_line entries) TooManyQueues over at_levels.1 in
    record { deep = at_levels.0; many = at_counts.0; over = (no_other (over_maximum_line entries) GuaranteeOverMaximum None at_counts.1).0 }

pub queue_level : (entries : List Entry) → whole_fault entries ≡ None → (path : List ℕ) → is_queue entries path ≡ true → level path ≤ 16
queue_level entries none path h = level_small entries (shape_of entries none).deep path h

pub levels_are_few : (text : List ℕ) (entries : List Entry) → read_lines (lines text) ≡ Ok entries → whole_fault entries ≡ None → (path : List ℕ) → is_queue entries path ≡ true → level path ≤ 16
levels_are_few text entries is none path h = queue_level entries none path h

pub rows_of_settings : (entries : List Entry) → (settings_of entries).queues ≡ rows_under 16 entries root
unfolding settings_of
rows_of_settings entries = refl

-- the rows from the root on are those of the queues
pub queue_rows : (entries : List Entry) → are_bounded entries ≡ true → whole_fault entries ≡ None → (path : List ℕ) → contains_bytes (paths_of (rows_under 16 entries root)) path ≡ is_queue entries path
queue_rows entries all none path =
    same_test (contains_bytes (paths_of (rows_under 16 entries root)) path) (is_queue entries path)
    (λ h. row_is entries all 16 root path (root_is entries) h)
    (λ h. row_of_queue entries path h 16 (queue_level entries none path h))

pub rows_are_queues : (text : List ℕ) (entries : List Entry) → read_lines (lines text) ≡ Ok entries → whole_fault entries ≡ None → (path : List ℕ) →
    contains_bytes (map (λ row. row.path) (settings_of entries).queues) path ≡ is_queue entries path
rows_are_queues text entries is none path =
    ap (λ (rows : List QueueRow). contains_bytes (paths_of rows) path) (rows_of_settings entries) ∙ queue_rows entries (lines_kept (lines text) entries is) none path
