-- The rows are listed from the root, each queue before those under it.
use Rattle.cap_config.proofs.Prelude.{◌≡◌, ℕ, zero, suc, ◌≤◌, List, [], ◌∷◌, ◌++◌, append_assoc, true, None, refl, sym, ◌∙◌, arith, subst, inr, slice_index_or, All, flat_map, list_all, append-nil, All-append, All-nil, All-cons, length-slice_split, lines, QueueRow, Settings, is_under, root_path, depth, under_is, is_under_it, under_itself, MayFollow, IsListed, IsListedFromRoot, IsListing, factor_max, Entry, root, is_dot, is_name_under, names_below, child, whole_fault, level, rows_under, row_of, settings_of, are_bounded, SettingsAreListed}
use Rattle.cap_config.proofs.FaultLines.{lines_kept}
use Rattle.cap_config.proofs.Found.{both, under_path, factor_small}
use Rattle.cap_config.proofs.Children.{name_no_dot, child_is, under_child}
use Rattle.cap_config.proofs.RowPaths.{queue_level, queue_rows, rows_of_settings}
use Rattle.cap_config.proofs.RowTrees.{rows_tree, own_path, made_of}

-- what is under a child of a queue is under the queue
of_child : (p name queue : List ℕ) → is_under (child p name) queue ≡ true → is_under p queue ≡ true
of_child p name queue h = is_under_it p queue (inr (under_child p name queue (under_is (child p name) queue h)))

-- the rows of names, one name after another, and rows after them
all_listed : (f : List ℕ → List QueueRow) (p : List ℕ) →
    ((name before : List ℕ) (rest : List QueueRow) → is_name_under p name ≡ true → is_under p before ≡ true → ((last : List ℕ) → is_under p last ≡ true → IsListed last rest) → IsListed before (f name ++ rest)) →
    (names : List (List ℕ)) → list_all (is_name_under p) names ≡ true → (before : List ℕ) (rest : List QueueRow) → is_under p before ≡ true →
    ((last : List ℕ) → is_under p last ≡ true → IsListed last rest) → IsListed before (flat_map f names ++ rest)
all_listed f p each [] all before rest under after = after before under
all_listed f p each (name ∷ names) all before rest under after =
    let has = both (is_name_under p name) (list_all (is_name_under p) names) all in
    subst (IsListed before) (sym (append_assoc (f name) (flat_map f names) rest))
    (each name before (flat_map f names ++ rest) has.0 under (λ last below. all_listed f p each names has.1 last rest below after))

rows_none : (entries : List Entry) (p before : List ℕ) (rest : List QueueRow) → IsListed before rest → IsListed before (rows_under zero entries p ++ rest)
unfolding rows_under
rows_none entries p before rest h = h

rows_first : (entries : List Entry) (n : ℕ) (p before : List ℕ) (rest : List QueueRow) → MayFollow before p →
    IsListed p (flat_map (λ name. rows_under n entries (child p name)) (names_below entries p) ++ rest) → IsListed before (rows_under (suc n) entries p ++ rest)
unfolding rows_under row_of
rows_first entries n p before rest may later = (may, later)

-- the rows of a child of a queue, and rows after them
rows_listed : (entries : List Entry) → are_bounded entries ≡ true → (n : ℕ) (p name before : List ℕ) (rest : List QueueRow) → is_name_under p name ≡ true → is_under p before ≡ true →
    ((last : List ℕ) → is_under p last ≡ true → IsListed last rest) → IsListed before (rows_under n entries (child p name) ++ rest)
rows_listed entries all zero p name before rest named under after = rows_none entries (child p name) before rest (after before under)
rows_listed entries all (suc n) p name before rest named under after =
    let q = child p name in
    rows_first entries n q before rest (record { parent = p; child = child_is p name (name_no_dot p name named); above = under })
    (all_listed (λ m. rows_under n entries (child q m)) q (λ m. rows_listed entries all n q m) (names_below entries q) (under_path entries q all) q rest (under_itself q)
    (λ last below. after last (of_child p name last below)))

root_is_path : root ≡ root_path
unfolding root
root_is_path = refl

from_root : (entries : List Entry) (n : ℕ) (p : List ℕ) → p ≡ root_path → IsListed p (flat_map (λ name. rows_under n entries (child p name)) (names_below entries p)) → IsListedFromRoot (rows_under (suc n) entries p)
unfolding rows_under row_of
from_root entries n p is later = (is, subst (λ (path : List ℕ). IsListed path (flat_map (λ name. rows_under n entries (child p name)) (names_below entries p))) is later)

listed_from_root : (entries : List Entry) → are_bounded entries ≡ true → IsListedFromRoot (rows_under 16 entries root)
listed_from_root entries all =
    let rows = flat_map (λ name. rows_under 15 entries (child root name)) (names_below entries root) in
    from_root entries 15 root root_is_path
    (subst (IsListed root) (append-nil rows)
    (all_listed (λ m. rows_under 15 entries (child root m)) root (λ m. rows_listed entries all 15 root m) (names_below entries root) (under_path entries root all) root [] (under_itself root) (λ last below. tt)))

-- the levels of the rows
few_dots : (path : List ℕ) → level path ≤ 16 → depth path ≤ 15
few_dots path few = let e = length-slice_split is_dot path in omega (arith, e, few)

levels_few : (entries : List Entry) → are_bounded entries ≡ true → whole_fault entries ≡ None → All (λ q. depth q.path ≤ 15) (rows_under 16 entries root)
levels_few entries all none = λ k d h.
    let path = (slice_index_or (rows_under 16 entries root) k d).path in
    few_dots path (queue_level entries none path (sym (queue_rows entries all none path) ∙ own_path (rows_under 16 entries root) k d h))

-- their factors
pub all_small : (P : QueueRow → Type 0) (f : List ℕ → List QueueRow) → ((name : List ℕ) → All P (f name)) → (names : List (List ℕ)) → All P (flat_map f names)
all_small P f each [] = All-nil P
all_small P f each (name ∷ names) = All-append P (f name) (flat_map f names) (each name) (all_small P f each names)

no_factors : (entries : List Entry) (p : List ℕ) → All (λ q. q.factor ≤ factor_max) (rows_under zero entries p)
unfolding rows_under
no_factors entries p = All-nil (λ (q : QueueRow). q.factor ≤ factor_max)

first_factor : (entries : List Entry) (n : ℕ) (p : List ℕ) → are_bounded entries ≡ true → All (λ q. q.factor ≤ factor_max) (flat_map (λ name. rows_under n entries (child p name)) (names_below entries p)) →
    All (λ q. q.factor ≤ factor_max) (rows_under (suc n) entries p)
unfolding rows_under row_of
first_factor entries n p all later = All-cons (λ (q : QueueRow). q.factor ≤ factor_max) (row_of entries p) (flat_map (λ name. rows_under n entries (child p name)) (names_below entries p)) (factor_small entries p all) later

factors_small : (entries : List Entry) → are_bounded entries ≡ true → (n : ℕ) (p : List ℕ) → All (λ q. q.factor ≤ factor_max) (rows_under n entries p)
factors_small entries all zero p = no_factors entries p
factors_small entries all (suc n) p =
    first_factor entries n p all (all_small (λ (q : QueueRow). q.factor ≤ factor_max) (λ name. rows_under n entries (child p name)) (λ name. factors_small entries all n (child p name)) (names_below entries p))

-- the rows from the root on
pub rows_are_listing : (entries : List Entry) → are_bounded entries ≡ true → whole_fault entries ≡ None → IsListing (rows_under 16 entries root)
rows_are_listing entries all none = record {
  tree = rows_tree entries all none;
  listed = listed_from_root entries all;
  levels = levels_few entries all none;
  factors = factors_small entries all 16 root;
}

-- the queues of the settings of a text
pub settings_listed : SettingsAreListed
settings_listed text settings h =
    let of = made_of text settings h in
    let rows : IsListing (settings_of of.entries).queues = subst IsListing (sym (rows_of_settings of.entries)) (rows_are_listing of.entries (lines_kept (lines text) of.entries of.read) of.whole) in
    subst (λ (s : Settings). IsListing s.queues) of.made rows
