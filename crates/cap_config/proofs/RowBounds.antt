-- There are at most 1,024 rows.
use Rattle.cap_config.proofs.Prelude.{◌≡◌, ℕ, zero, suc, ◌+◌, ◌≤◌, List, [], ◌∷◌, length, length-append, Bool, true, false, cond, ltb, Option, Some, None, Ok, refl, sym, ◌∙◌, arith, subst, find, flat_map, sum_by, bytes_eq, lines, nat_tests, sum_by-cons, sum_by-append, QueueRow, sum_of_two, bytes_turned, Entry, Value, Names, Amounts, Number, Running, Queues, root, entry_for, is_entry_for, is_path_at, same_setting, names_below, names_or_none, names_in_value, child, listed_by, line_past, whole_fault, read_lines, are_bounded, rows_under, row_of, settings_of}
use Rattle.cap_config.proofs.FaultLines.{lines_kept}
use Rattle.cap_config.proofs.RowPaths.{shape_of, rows_of_settings}
use Rattle.cap_config.proofs.RowCounts.{rows_for, rows_at_most}

-- how many names all entries list
abbrev listed_in : List Entry → ℕ
listed_in entries = sum_by (λ e. listed_by e.value) entries

past_by : (over : Bool) (line : ℕ) (later : Option ℕ) → cond over (Some line) later ≡ None → (over ≡ false) × (later ≡ None)
past_by true line later h = absurd (cc h)
past_by false line later h = (refl, h)

not_past : (n : ℕ) → ltb 1024 n ≡ false → n ≤ 1024
not_past n h = grind (arith, nat_tests)

few_listed : (count : ℕ) (entries : List Entry) → count ≤ 1024 → line_past count entries ≡ None → count + listed_in entries ≤ 1024
unfolding line_past
few_listed count [] few h = omega (arith, few)
few_listed count (e ∷ entries) few h =
    let parts = past_by (ltb 1024 (count + listed_by e.value)) e.line (line_past (count + listed_by e.value) entries) h in
    let within : count + listed_by e.value ≤ 1024 = not_past (count + listed_by e.value) parts.0 in
    let l = few_listed (count + listed_by e.value) entries within parts.1 in
    rw (sum_by-cons (λ (x : Entry). listed_by x.value) e entries) (omega (arith, l))

-- what an entry lists for the queue of a path
abbrev listed_for : List ℕ → Entry → ℕ
listed_for q e = cond (is_path_at e.queue q) (listed_by e.value) 0

names_listed : (value : Value) → length (names_in_value value) ≡ listed_by value
names_listed (Names names) = refl
names_listed (Amounts amounts) = refl
names_listed (Number n) = refl
names_listed (Running running) = refl

found_here : (here : Bool) (e : Entry) (l m : ℕ) (later : Option Entry) → length (names_in_value e.value) ≡ l → length (names_or_none later) ≤ m →
    length (names_or_none (cond here (Some e) later)) ≤ cond here l 0 + m
found_here true e l m later is h = omega (arith, is)
found_here false e l m later is h = omega (arith, h)

found_none : (q : Bool) (l m n : ℕ) → n ≤ m → n ≤ cond q l 0 + m
found_none true l m n h = omega (arith, h)
found_none false l m n h = omega (arith, h)

found_by : (same : Bool) (queue : Option (List ℕ)) (q : List ℕ) (e : Entry) (l m : ℕ) (later : Option Entry) → length (names_in_value e.value) ≡ l → length (names_or_none later) ≤ m →
    length (names_or_none (cond (is_path_at (cond same queue None) q) (Some e) later)) ≤ cond (is_path_at queue q) l 0 + m
found_by true (Some p) q e l m later is h = found_here (bytes_eq p q) e l m later is h
found_by true None q e l m later is h = omega (arith, h)
found_by false queue q e l m later is h = found_none (is_path_at queue q) l m (length (names_or_none later)) h

names_within : (q : List ℕ) (entries : List Entry) → length (names_or_none (find (is_entry_for Queues q) entries)) ≤ sum_by (listed_for q) entries
names_within q [] = omega arith
names_within q (e ∷ entries) =
    let l = found_by (same_setting e.setting Queues) e.queue q e (listed_by e.value) (sum_by (listed_for q) entries) (find (is_entry_for Queues q) entries) (names_listed e.value) (names_within q entries) in
    rw (sum_by-cons (listed_for q) e entries) l

below_within : (entries : List Entry) (q : List ℕ) → length (names_below entries q) ≤ sum_by (listed_for q) entries
unfolding entry_for
below_within entries q = names_within q entries

-- the names that the queues of rows list
abbrev names_of_rows : List Entry → List QueueRow → ℕ
names_of_rows entries rows = sum_by (λ row. length (names_below entries row.path)) rows

sum_le : {X : Type 0} (f g : X → ℕ) (xs : List X) → ((x : X) → f x ≤ g x) → sum_by f xs ≤ sum_by g xs
sum_le f g [] each = omega arith
sum_le f g (x ∷ xs) each = let a = each x in let b = sum_le f g xs each in rw (sum_by-cons f x xs, sum_by-cons g x xs) (omega (arith, a, b))

same_zero : {X : Type 0} (xs : List X) → sum_by (λ x. 0) xs ≡ 0
same_zero [] = refl
same_zero (x ∷ xs) = sum_by-cons (λ y. 0) x xs ∙ (let e = same_zero xs in let z : 0 + sum_by (λ y. 0) xs ≡ 0 = omega (arith, e) in z)

weigh_none : (here : Bool) (n : ℕ) → cond here 1 0 + n ≡ 0 → (here ≡ false) × (n ≡ 0)
weigh_none true n h = absurd (omega (arith, h))
weigh_none false n h = (refl, omega (arith, h))

plus_none : {n : ℕ} → n ≡ 0 → 0 + n ≡ 0
plus_none h = omega (arith, h)

weigh_one : (here : Bool) (k n rest : ℕ) → cond here 1 0 + k ≤ 1 → (k ≡ 0 → rest ≡ 0) → (k ≤ 1 → rest ≤ n) → cond here n 0 + rest ≤ n
weigh_one true k n rest h zero_is some = let e = zero_is (omega (arith, h)) in omega (arith, e)
weigh_one false k n rest h zero_is some = let l = some (omega (arith, h)) in omega (arith, l)

equal_le : {a b : ℕ} → a ≡ b → a ≤ b
equal_le h = omega (arith, h)

-- a weight on the rows of one path, which has at most one
none_weigh : (n : ℕ) (q : List ℕ) (rows : List QueueRow) → rows_for rows q ≡ 0 → sum_by (λ row. cond (bytes_eq q row.path) n 0) rows ≡ 0
none_weigh n q [] h = refl
none_weigh n q (row ∷ rows) h =
    let both : cond (bytes_eq row.path q) 1 0 + rows_for rows q ≡ 0 = sym (sum_by-cons (λ (r : QueueRow). cond (bytes_eq r.path q) 1 0) row rows) ∙ h in
    let parts = weigh_none (bytes_eq row.path q) (rows_for rows q) both in
    sum_by-cons _ row rows ∙ rw (bytes_turned q row.path ∙ parts.0) (plus_none (none_weigh n q rows parts.1))

one_weighs : (n : ℕ) (q : List ℕ) (rows : List QueueRow) → rows_for rows q ≤ 1 → sum_by (λ row. cond (bytes_eq q row.path) n 0) rows ≤ n
one_weighs n q [] h = omega arith
one_weighs n q (row ∷ rows) h =
    let both : cond (bytes_eq row.path q) 1 0 + rows_for rows q ≤ 1 = rw (← sum_by-cons (λ (r : QueueRow). cond (bytes_eq r.path q) 1 0) row rows) h in
    rw (sum_by-cons (λ (r : QueueRow). cond (bytes_eq q r.path) n 0) row rows, bytes_turned q row.path)
    (weigh_one (bytes_eq row.path q) (rows_for rows q) n (sum_by (λ r. cond (bytes_eq q r.path) n 0) rows) both (none_weigh n q rows) (one_weighs n q rows))

entry_weighs : (queue : Option (List ℕ)) (n : ℕ) (rows : List QueueRow) → ((q : List ℕ) → rows_for rows q ≤ 1) → sum_by (λ row. cond (is_path_at queue row.path) n 0) rows ≤ n
entry_weighs (Some q) n rows once = one_weighs n q rows (once q)
entry_weighs None n rows once = let e = same_zero rows in omega (arith, e)

rows_weigh : (entries : List Entry) (rows : List QueueRow) → ((q : List ℕ) → rows_for rows q ≤ 1) → sum_by (λ row. sum_by (listed_for row.path) entries) rows ≤ listed_in entries
rows_weigh [] rows once = let e = same_zero rows in omega (arith, e)
rows_weigh (e ∷ entries) rows once =
    let split : (row : QueueRow) → sum_by (listed_for row.path) (e ∷ entries) ≤ listed_for row.path e + sum_by (listed_for row.path) entries = λ row. equal_le (sum_by-cons (listed_for row.path) e entries) in
    let a = sum_le (λ row. sum_by (listed_for row.path) (e ∷ entries)) (λ row. listed_for row.path e + sum_by (listed_for row.path) entries) rows split in
    let b = sum_of_two (λ (row : QueueRow). listed_for row.path e) (λ row. sum_by (listed_for row.path) entries) rows in
    let c = entry_weighs e.queue (listed_by e.value) rows once in
    let d = rows_weigh entries rows once in
    rw (sum_by-cons (λ (x : Entry). listed_by x.value) e entries) (omega (arith, a, b, c, d))

-- the rows under a queue are at most one more than the names that their queues list
first_counts : (n : ℕ) (entries : List Entry) (p : List ℕ) → length (rows_under (suc n) entries p) ≡ suc (length (flat_map (λ name. rows_under n entries (child p name)) (names_below entries p)))
unfolding rows_under
first_counts n entries p = refl

first_names : (n : ℕ) (entries : List Entry) (p : List ℕ) →
    names_of_rows entries (rows_under (suc n) entries p) ≡ length (names_below entries p) + names_of_rows entries (flat_map (λ name. rows_under n entries (child p name)) (names_below entries p))
unfolding rows_under row_of
first_names n entries p =
    sum_by-cons (λ (row : QueueRow). length (names_below entries row.path)) (row_of entries p) (flat_map (λ name. rows_under n entries (child p name)) (names_below entries p))

no_row : (entries : List Entry) (p : List ℕ) → length (rows_under zero entries p) ≤ 1 + names_of_rows entries (rows_under zero entries p)
unfolding rows_under
no_row entries p = omega arith

each_counts : (entries : List Entry) (f : List ℕ → List QueueRow) (names : List (List ℕ)) → ((name : List ℕ) → length (f name) ≤ 1 + names_of_rows entries (f name)) →
    length (flat_map f names) ≤ length names + names_of_rows entries (flat_map f names)
each_counts entries f [] each = omega arith
each_counts entries f (name ∷ names) each =
    let a = each name in
    let b = each_counts entries f names each in
    let e = length-append (f name) (flat_map f names) in
    let g = sum_by-append (λ (row : QueueRow). length (names_below entries row.path)) (f name) (flat_map f names) in
    omega (arith, a, b, e, g)

rows_count : (entries : List Entry) (n : ℕ) (p : List ℕ) → length (rows_under n entries p) ≤ 1 + names_of_rows entries (rows_under n entries p)
rows_count entries zero p = no_row entries p
rows_count entries (suc n) p =
    let l = each_counts entries (λ name. rows_under n entries (child p name)) (names_below entries p) (λ name. rows_count entries n (child p name)) in
    let e = first_counts n entries p in
    let g = first_names n entries p in
    omega (arith, l, e, g)

-- the settings have at most 1,024 rows
pub few_rows : (entries : List Entry) → are_bounded entries ≡ true → whole_fault entries ≡ None → length (rows_under 16 entries root) ≤ 1024
few_rows entries all none =
    let rows = rows_under 16 entries root in
    let a = rows_count entries 16 root in
    let b = sum_le (λ (row : QueueRow). length (names_below entries row.path)) (λ row. sum_by (listed_for row.path) entries) rows (λ row. below_within entries row.path) in
    let c = rows_weigh entries rows (λ q. rows_at_most entries all 16 root q) in
    let d = few_listed 1 entries (omega arith) ((shape_of entries none).many) in
    omega (arith, a, b, c, d)

pub rows_are_few : (text : List ℕ) (entries : List Entry) → read_lines (lines text) ≡ Ok entries → whole_fault entries ≡ None → length (settings_of entries).queues ≤ 1024
rows_are_few text entries is none =
    let few = few_rows entries (lines_kept (lines text) entries is) none in
    subst (λ (rs : List QueueRow). length rs ≤ 1024) (sym (rows_of_settings entries)) few
