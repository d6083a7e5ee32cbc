-- One row for each queue.
use Rattle.cap_config.proofs.Prelude.{◌≡◌, ℕ, zero, suc, ◌+◌, ◌≤◌, List, [], ◌∷◌, ◌++◌, length, length-append, drop, Bool, true, false, cond, not, None, Ok, refl, sym, ap, ◌∙◌, inl, inr, arith, subst, ◌||◌, count_by, flat_map, list_all, sum_by, bytes_eq, lines, append_cancel_left, sum_by-cons, sum_by-append, list_any-append, bytes_eq-Decides, or_parts, false_from_ne_true, not-true, QueueRow, IsUnder, before_dot, child_to, only_child, Entry, root, last_dot, contains_bytes, are_new, is_name_under, is_queue, names_below, child, whole_fault, read_lines, rows_under, row_of, settings_of, are_bounded}
use Rattle.cap_config.proofs.FaultLines.{lines_kept}
use Rattle.cap_config.proofs.Found.{both, same_bytes, names_once, under_path}
use Rattle.cap_config.proofs.Children.{name_no_dot, child_is, child_rest, count_no, under_child}
use Rattle.cap_config.proofs.RowPaths.{paths_of, either, first_of_two, second_of_two, in_some, paths_more, none_under, rows_are_queues, rows_of_settings}

-- how many rows a path has
abbrev pub rows_for : List QueueRow → List ℕ → ℕ
rows_for rows path = count_by (λ row. bytes_eq row.path path) rows

-- the paths of the rows under a queue are its own and those below it
pub row_below_is : (entries : List Entry) (n : ℕ) (p path : List ℕ) → contains_bytes (paths_of (rows_under n entries p)) path ≡ true → IsUnder p path
row_below_is entries zero p path h = none_under (IsUnder p path) entries p path h
row_below_is entries (suc n) p path h =
    either (IsUnder p path) (bytes_eq p path) (contains_bytes (paths_of (flat_map (λ name. rows_under n entries (child p name)) (names_below entries p))) path) (sym (paths_more n entries p path) ∙ h)
    (λ same. inl (sym (same_bytes p path same)))
    (λ later. in_some (IsUnder p path) (λ name. rows_under n entries (child p name)) (names_below entries p) path later
    (λ name in_list here. inr (under_child p name path (row_below_is entries n (child p name) path here))))

-- which of the names a path below goes on with
pub which : (p name path : List ℕ) → last_dot name ≡ None → IsUnder (child p name) path → before_dot (drop (length p + 1) path) ≡ name
which p name path none under =
    let below = under_child p name path under in
    let only : child p name ≡ child_to p below.0 = only_child p (child p name) below.0 (child_is p name none) (subst (IsUnder (child p name)) below.1 under) in
    let first : name ≡ before_dot below.0 = cc (append_cancel_left p (46 ∷ name) (46 ∷ before_dot below.0) only) in
    ap (λ (x : List ℕ). before_dot (drop (length p + 1) x)) below.1 ∙ ap before_dot (child_rest p below.0) ∙ sym first

longer : (p name path : List ℕ) → IsUnder (child p name) path → p ≡ path → ⊥
longer p name path under e =
    let below = under_child p name path under in
    let l : length path ≡ length p + suc (length below.0) = ap length below.1 ∙ length-append p (46 ∷ below.0) in
    let m : length p ≡ length path = ap length e in
    omega (arith, l, m)

-- a path among none of the rows has none, and one among them has some
none_for : (rows : List QueueRow) (path : List ℕ) → contains_bytes (paths_of rows) path ≡ false → rows_for rows path ≡ 0
none_for [] path h = refl
none_for (row ∷ rows) path h =
    let parts = or_parts (bytes_eq row.path path) (contains_bytes (paths_of rows) path) h in
    sum_by-cons _ row rows ∙ count_no (bytes_eq row.path path) (rows_for rows path) parts.0 ∙ none_for rows path parts.1

some_by : (b : Bool) (n : ℕ) (among : Bool) → (b || among) ≡ true → (among ≡ true → 1 ≤ n) → 1 ≤ cond b 1 0 + n
some_by true n among h later = omega arith
some_by false n among h later = let l = later h in omega (arith, l)

some_for : (rows : List QueueRow) (path : List ℕ) → contains_bytes (paths_of rows) path ≡ true → 1 ≤ rows_for rows path
some_for [] path h = absurd (cc h)
some_for (row ∷ rows) path h =
    let l = some_by (bytes_eq row.path path) (rows_for rows path) (contains_bytes (paths_of rows) path) h (some_for rows path) in
    rw (sum_by-cons (λ (r : QueueRow). cond (bytes_eq r.path path) 1 0) row rows) l

-- the rows of many lists, list by list
rows_of_all : (f : List ℕ → List QueueRow) (names : List (List ℕ)) (path : List ℕ) → rows_for (flat_map f names) path ≡ sum_by (λ name. rows_for (f name) path) names
rows_of_all f [] path = refl
rows_of_all f (name ∷ names) path =
    sum_by-append _ (f name) (flat_map f names) ∙ ap (λ n. rows_for (f name) path + n) (rows_of_all f names path) ∙ sym (sum_by-cons (λ (m : List ℕ). rows_for (f m) path) name names)

-- a sum, name by name, that is at most how often one name stands
sum_at_most : (f : List ℕ → ℕ) (p : List ℕ → Bool) (x : List ℕ) (names : List (List ℕ)) → list_all p names ≡ true → ((name : List ℕ) → p name ≡ true → f name ≤ cond (bytes_eq name x) 1 0) →
    sum_by f names ≤ count_by (λ name. bytes_eq name x) names
sum_at_most f p x [] all each = omega arith
sum_at_most f p x (name ∷ names) all each =
    let parts = both (p name) (list_all p names) all in
    let here = each name parts.0 in
    let later = sum_at_most f p x names parts.1 each in
    rw (sum_by-cons f name names, sum_by-cons (λ (m : List ℕ). cond (bytes_eq m x) 1 0) name names) (omega (arith, here, later))

pub other_name : (b : Bool) (before : List (List ℕ)) (name x : List ℕ) → bytes_eq name x ≡ b → contains_bytes before name ≡ false → contains_bytes before x ≡ true → b ≡ false
other_name true before name x is out within = absurd (cc (sym out ∙ ap (contains_bytes before) (same_bytes name x is) ∙ within))
other_name false before name x is out within = refl

pub still_among : (before : List (List ℕ)) (name x : List ℕ) → contains_bytes before x ≡ true → contains_bytes (before ++ name ∷ []) x ≡ true
still_among before name x h = list_any-append _ before (name ∷ []) ∙ first_of_two (contains_bytes before x) _ h

pub last_among : (before : List (List ℕ)) (name x : List ℕ) → bytes_eq name x ≡ true → contains_bytes (before ++ name ∷ []) x ≡ true
last_among before name x h = list_any-append _ before (name ∷ []) ∙ second_of_two (contains_bytes before x) _ (first_of_two (bytes_eq name x) false h)

-- no name stands twice
not_before : (before : List (List ℕ)) (x : List ℕ) (names : List (List ℕ)) → are_new before names ≡ true → contains_bytes before x ≡ true → count_by (λ name. bytes_eq name x) names ≡ 0
not_before before x [] new h = refl
not_before before x (name ∷ names) new h =
    let parts = both (not (contains_bytes before name)) (are_new (before ++ name ∷ []) names) new in
    let other : bytes_eq name x ≡ false = other_name (bytes_eq name x) before name x refl (not-true (contains_bytes before name) parts.0) h in
    sum_by-cons _ name names ∙ count_no (bytes_eq name x) _ other ∙ not_before (before ++ name ∷ []) x names parts.1 (still_among before name x h)

once_by : (b : Bool) (n : ℕ) → (b ≡ true → n ≡ 0) → n ≤ 1 → cond b 1 0 + n ≤ 1
once_by true n none most = let e = none refl in omega (arith, e)
once_by false n none most = omega (arith, most)

names_stand_once : (before : List (List ℕ)) (x : List ℕ) (names : List (List ℕ)) → are_new before names ≡ true → count_by (λ name. bytes_eq name x) names ≤ 1
names_stand_once before x [] new = omega arith
names_stand_once before x (name ∷ names) new =
    let parts = both (not (contains_bytes before name)) (are_new (before ++ name ∷ []) names) new in
    let l = once_by (bytes_eq name x) (count_by (λ m. bytes_eq m x) names) (λ same. not_before (before ++ name ∷ []) x names parts.1 (last_among before name x same)) (names_stand_once (before ++ name ∷ []) x names parts.1) in
    rw (sum_by-cons (λ (m : List ℕ). cond (bytes_eq m x) 1 0) name names) l

-- where the path is the queue's own, none of the queues below it has it
below_by : (b : Bool) (m : ℕ) → (b ≡ true → m ≡ 0) → (b ≡ false → m ≤ 1) → cond b 1 0 + m ≤ 1
below_by true m own other = let e = own refl in omega (arith, e)
below_by false m own other = let l = other refl in omega (arith, l)

sum_of_none : (f : List ℕ → ℕ) (names : List (List ℕ)) → ((name : List ℕ) → f name ≡ 0) → sum_by f names ≡ 0
sum_of_none f [] each = refl
sum_of_none f (name ∷ names) each = sum_by-cons f name names ∙ (let a = each name in let b = sum_of_none f names each in let e : f name + sum_by f names ≡ 0 = omega (arith, a, b) in e)

among_or : (C : Type 0) (b : Bool) → (b ≡ true → C) → (b ≡ false → C) → C
among_or C true there not_there = there refl
among_or C false there not_there = not_there refl

no_rows : (entries : List Entry) (p path : List ℕ) → rows_for (rows_under zero entries p) path ≤ 1
unfolding rows_under
no_rows entries p path = omega arith

rows_first : (n : ℕ) (entries : List Entry) (p path : List ℕ) →
    rows_for (rows_under (suc n) entries p) path ≡ cond (bytes_eq p path) 1 0 + rows_for (flat_map (λ name. rows_under n entries (child p name)) (names_below entries p)) path
unfolding rows_under row_of
rows_first n entries p path = sum_by-cons _ (row_of entries p) (flat_map (λ name. rows_under n entries (child p name)) (names_below entries p))

one_of : (b : Bool) (n : ℕ) → b ≡ true → n ≤ 1 → n ≤ cond b 1 0
one_of true n h most = most
one_of false n h most = absurd (cc h)

zero_of : (b : Bool) (n : ℕ) → n ≡ 0 → n ≤ cond b 1 0
zero_of true n h = omega (arith, h)
zero_of false n h = omega (arith, h)

under_one : {a b : ℕ} → a ≤ b → b ≤ 1 → a ≤ 1
under_one h k = omega (arith, h, k)

pub rows_at_most : (entries : List Entry) → are_bounded entries ≡ true → (n : ℕ) (p path : List ℕ) → rows_for (rows_under n entries p) path ≤ 1
rows_at_most entries all zero p path = no_rows entries p path
rows_at_most entries all (suc n) p path =
    let f = λ (name : List ℕ). rows_under n entries (child p name) in
    let names = names_below entries p in
    let x = before_dot (drop (length p + 1) path) in
    let each : (name : List ℕ) → is_name_under p name ≡ true → rows_for (f name) path ≤ cond (bytes_eq name x) 1 0 =
    λ name under. among_or (rows_for (f name) path ≤ cond (bytes_eq name x) 1 0) (contains_bytes (paths_of (f name)) path)
    (λ there. one_of (bytes_eq name x) (rows_for (f name) path) ((bytes_eq-Decides name x).1 (sym (which p name path (name_no_dot p name under) (row_below_is entries n (child p name) path there)))) (rows_at_most entries all n (child p name) path))
    (λ not_there. zero_of (bytes_eq name x) (rows_for (f name) path) (none_for (f name) path not_there)) in
    let below : sum_by (λ name. rows_for (f name) path) names ≤ 1 =
    under_one (sum_at_most (λ name. rows_for (f name) path) (is_name_under p) x names (under_path entries p all) each) (names_stand_once [] x names (names_once entries p all)) in
    let own : bytes_eq p path ≡ true → sum_by (λ name. rows_for (f name) path) names ≡ 0 =
    λ same. sum_of_none (λ name. rows_for (f name) path) names
    (λ name. none_for (f name) path (false_from_ne_true (contains_bytes (paths_of (f name)) path) (λ there. longer p name path (row_below_is entries n (child p name) path there) (same_bytes p path same)))) in
    rw (rows_first n entries p path, rows_of_all f names path) (below_by (bytes_eq p path) (sum_by (λ name. rows_for (f name) path) names) own (λ _. below))

exactly_one : (b : Bool) (n : ℕ) → n ≤ 1 → (b ≡ true → 1 ≤ n) → (b ≡ false → n ≡ 0) → n ≡ cond b 1 0
exactly_one true n most some none = let l = some refl in omega (arith, l, most)
exactly_one false n most some none = none refl

-- each queue has one row, and no other path has one
pub one_row_each : (text : List ℕ) (entries : List Entry) → read_lines (lines text) ≡ Ok entries → whole_fault entries ≡ None → (path : List ℕ) →
    count_by (λ row. bytes_eq row.path path) (settings_of entries).queues ≡ cond (is_queue entries path) 1 0
one_row_each text entries is none path =
    let rows = (settings_of entries).queues in
    let most : rows_for rows path ≤ 1 = subst (λ (rs : List QueueRow). rows_for rs path ≤ 1) (sym (rows_of_settings entries)) (rows_at_most entries (lines_kept (lines text) entries is) 16 root path) in
    let there : contains_bytes (paths_of rows) path ≡ is_queue entries path = rows_are_queues text entries is none path in
    exactly_one (is_queue entries path) (rows_for rows path) most (λ q. some_for rows path (there ∙ q)) (λ q. none_for rows path (there ∙ q))
