-- Settings are set row by row: each queue takes those of the row of its path.
use Rattle.cap_tree.proofs.Prelude.{◌≡◌, ℕ, suc, zero, ◌+◌, ◌≤◌, ◌<◌, Bool, true, false, cond, List, [], ◌∷◌, ◌++◌, length, map, take, drop, get_or, Option, Some, None, refl, sym, ◌∙◌, ap, subst, arith, inl, bytes_eq, ◌||◌, find, is_some, if◌then◌else◌, option_map_or, list_all, list_any, and_parts, take_all, take_more, bytes_eq-Decides, QueueRow, factor_max, IsListing, HasDistinctPaths, has_path, has_same_paths, map_same, map_twice, in_right, none_in, all_in, each_of, or_left, or_right, bytes_turned, with_settings, Row, queues_of, settings_of_row, with_row, with_row_of_path}
use Rattle.cap_tree.proofs.SamePaths.{member}

-- one more row, of a path that none before it has
one_row : (qs : List QueueRow) (q : QueueRow) (r : Row) → list_any (λ x. bytes_eq x.path q.path) qs ≡ false → with_row q (with_row_of_path qs r) ≡ with_row_of_path (qs ++ q ∷ []) r
one_row [] q r n = by (bytes_eq r.path q.path) (bytes_eq q.path r.path) (bytes_turned r.path q.path)
  where
    by : (b c : Bool) → b ≡ c → (if b then record r { item = with_settings q r.item } else r) ≡ option_map_or (λ (x : QueueRow). record r { item = with_settings x r.item }) (cond c (Some q) None) r
    by true true e = refl
    by true false e = absurd (cc e)
    by false true e = absurd (cc e)
    by false false e = refl
one_row (x ∷ qs) q r n = by (bytes_eq x.path r.path) refl (one_row qs q r (or_right (bytes_eq x.path q.path) (list_any (λ y. bytes_eq y.path q.path) qs) n))
  where
    by : (b : Bool) → bytes_eq x.path r.path ≡ b → with_row q (with_row_of_path qs r) ≡ with_row_of_path (qs ++ q ∷ []) r →
        with_row q (option_map_or (λ (y : QueueRow). record r { item = with_settings y r.item }) (cond b (Some x) (find (λ y. bytes_eq y.path r.path) qs)) r)
        ≡ option_map_or (λ (y : QueueRow). record r { item = with_settings y r.item }) (cond b (Some x) (find (λ y. bytes_eq y.path r.path) (qs ++ q ∷ []))) r
    by true e f =
        let other : bytes_eq r.path q.path ≡ false = ap (λ p. bytes_eq p q.path) (sym ((bytes_eq-Decides x.path r.path).0 e)) ∙ or_left (bytes_eq x.path q.path) (list_any (λ y. bytes_eq y.path q.path) qs) n in
        ap (λ b. if b then record r { item = with_settings q (with_settings x r.item) } else record r { item = with_settings x r.item }) other
    by false e f = f

none_before : (qs : List QueueRow) (q : QueueRow) (rest : List QueueRow) → HasDistinctPaths (qs ++ q ∷ rest) → list_any (λ x. bytes_eq x.path q.path) qs ≡ false
none_before [] q rest d = refl
none_before (x ∷ qs) q rest d =
    let other : bytes_eq x.path q.path ≡ false = bytes_turned x.path q.path ∙ none_in (λ (r : QueueRow). bytes_eq r.path x.path) (qs ++ q ∷ rest) q d.0 (in_right q qs (q ∷ rest) (inl refl)) in
    ap (λ b. b || list_any (λ y. bytes_eq y.path q.path) qs) other ∙ none_before qs q rest d.1

split : (qs : List QueueRow) (i : ℕ) (q : QueueRow) → i < length qs → q ≡ get_or qs i q → qs ≡ take i qs ++ q ∷ drop (suc i) qs
split [] i q w e = absurd (omega (arith, w))
split (x ∷ qs) zero q w e = ap (λ y. y ∷ qs) (sym e)
split (x ∷ qs) (suc i) q w e = ap (λ t. x ∷ t) (split qs i q (omega (arith, w)) e)

-- no row yet
pub no_row : (old : List Row) → old ≡ map (with_row_of_path []) old
no_row [] = refl
no_row (r ∷ old) = ap (λ t. r ∷ t) (no_row old)

-- the rows of a listing, of which the first i are set
module _ (qs : List QueueRow) (old rows : List Row) (i : ℕ) (is : rows ≡ map (with_row_of_path (take i qs)) old) where
  pub next_row : (q : QueueRow) → IsListing qs → i < length qs → q ≡ get_or qs i q → map (with_row q) rows ≡ map (with_row_of_path (take (i + 1) qs)) old
  next_row q l w e =
      let none = none_before (take i qs) q (drop (suc i) qs) (subst HasDistinctPaths (split qs i q w e) l.tree.distinct) in
      let more : take i qs ++ q ∷ [] ≡ take (i + 1) qs = sym (take_more qs i q w ∙ ap (λ x. take i qs ++ x ∷ []) (sym e)) in
      ap (map (with_row q)) is ∙ map_twice (with_row q) (with_row_of_path (take i qs)) old
      ∙ map_same (λ r. with_row q (with_row_of_path (take i qs) r)) (with_row_of_path (take (i + 1) qs)) old (λ r m. one_row (take i qs) q r none ∙ ap (λ xs. with_row_of_path xs r) more)

  pub all_rows : length qs ≤ i → rows ≡ map (with_row_of_path qs) old
  all_rows w = is ∙ ap (λ xs. map (with_row_of_path xs) old) (take_all i qs w)

-- paths stay
path_stays : (qs : List QueueRow) (r : Row) → (with_row_of_path qs r).path ≡ r.path
path_stays qs r = by (find (λ q. bytes_eq q.path r.path) qs)
  where
    by : (o : Option QueueRow) → (option_map_or (λ (q : QueueRow). record r { item = with_settings q r.item }) o r).path ≡ r.path
    by None = refl
    by (Some q) = refl

has_still : (qs : List QueueRow) (path : List ℕ) (old : List Row) → has_path (queues_of (map (with_row_of_path qs) old)) path ≡ has_path (queues_of old) path
has_still qs path [] = refl
has_still qs path (r ∷ old) =
    ap (λ x. is_some (cond (bytes_eq x path) (Some (settings_of_row (with_row_of_path qs r))) (find (λ q. bytes_eq q.path path) (queues_of (map (with_row_of_path qs) old))))) (path_stays qs r)
    ∙ by (bytes_eq r.path path) (has_still qs path old)
  where
    by : (b : Bool) → has_path (queues_of (map (with_row_of_path qs) old)) path ≡ has_path (queues_of old) path →
        is_some (cond b (Some (settings_of_row (with_row_of_path qs r))) (find (λ q. bytes_eq q.path path) (queues_of (map (with_row_of_path qs) old))))
        ≡ is_some (cond b (Some (settings_of_row r)) (find (λ q. bytes_eq q.path path) (queues_of old)))
    by true e = refl
    by false e = e

-- so the path of each row is found
pub never_missing : (qs : List QueueRow) (old rows : List Row) (i : ℕ) (q : QueueRow) → rows ≡ map (with_row_of_path (take i qs)) old → has_same_paths qs (queues_of old) ≡ true → i < length qs → q ≡ get_or qs i q → find (λ r. bytes_eq r.path q.path) (queues_of rows) ≡ None → ⊥
never_missing qs old rows i q is same w e n =
    let both = and_parts (list_all (λ r. has_path (queues_of old) r.path) qs) (list_all (λ r. has_path qs r.path) (queues_of old)) same in
    let there : has_path (queues_of old) q.path ≡ true = all_in (λ r. has_path (queues_of old) r.path) qs q (both.0) (member qs i q w e) in
    let none : has_path (queues_of old) q.path ≡ false = sym (has_still (take i qs) q.path old) ∙ ap (λ rs. has_path (queues_of rs) q.path) (sym is) ∙ ap is_some n in
    cc (there, none)

-- and its factor is small
pub row_factor : (qs : List QueueRow) (i : ℕ) (q : QueueRow) → IsListing qs → i < length qs → q ≡ get_or qs i q → q.factor ≤ factor_max
row_factor qs i q l w e = each_of (λ (r : QueueRow). r.factor ≤ factor_max) qs l.factors q (member qs i q w e)
