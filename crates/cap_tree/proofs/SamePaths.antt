-- Two lists without repeats have the same paths where each path of the one is in the other and they are as long.
use Rattle.cap_tree.proofs.Prelude.{◌≡◌, ℕ, suc, ◌+◌, ◌≤◌, ◌<◌, Bool, true, false, cond, List, [], ◌∷◌, ◌++◌, length, take, get_or, zero, Some, None, refl, sym, ◌∙◌, ap, subst, arith, inl, inr, bytes_eq, ◌||◌, filter, find, is_some, not, list_all, list_any, and_parts, and_from, take_more, bytes_eq-Decides, QueueRow, HasDistinctPaths, has_path, has_same_paths, length-kept, IsIn, all_in, or_left, or_right, same_test, Found, Leaf, Parent, Missing, Row, FindsQueue, IsAt, queues_of}
use Rattle.cap_tree.proofs.Growing.{path_of_row}
use Rattle.cap_tree.proofs.RowPaths.{at_position}

-- the queues of other paths
abbrev others : List ℕ → List QueueRow → List QueueRow
others path qs = filter (λ q. not (bytes_eq q.path path)) qs

-- are fewer where a queue has the path
fewer : (path : List ℕ) (qs : List QueueRow) → has_path qs path ≡ true → length (others path qs) + 1 ≤ length qs
fewer path [] h = absurd (cc h)
fewer path (q ∷ qs) h = by (bytes_eq q.path path) h (fewer path qs)
  where
    by : (b : Bool) → is_some (cond b (Some q) (find (λ r. bytes_eq r.path path) qs)) ≡ true → (has_path qs path ≡ true → length (others path qs) + 1 ≤ length qs) →
        length (cond (not b) (q ∷ others path qs) (others path qs)) + 1 ≤ suc (length qs)
    by true g f = let m = length-kept (λ (r : QueueRow). not (bytes_eq r.path path)) qs in omega (arith, m)
    by false g f = let m = f g in omega (arith, m)

-- and still have any other path
still : (path other : List ℕ) (qs : List QueueRow) → bytes_eq other path ≡ false → has_path qs other ≡ true → has_path (others path qs) other ≡ true
still path other [] n h = absurd (cc h)
still path other (q ∷ qs) n h = by (bytes_eq q.path path) (bytes_eq q.path other) refl refl h (still path other qs n)
  where
    by : (b c : Bool) → bytes_eq q.path path ≡ b → bytes_eq q.path other ≡ c → is_some (cond c (Some q) (find (λ r. bytes_eq r.path other) qs)) ≡ true → (has_path qs other ≡ true → has_path (others path qs) other ≡ true) →
        has_path (cond (not b) (q ∷ others path qs) (others path qs)) other ≡ true
    by true true e f g r = absurd (let t = (bytes_eq-Decides other path).1 (sym ((bytes_eq-Decides q.path other).0 f) ∙ (bytes_eq-Decides q.path path).0 e) in cc (t, n))
    by true false e f g r = r g
    by false true e f g r = ap (λ d. is_some (cond d (Some q) (find (λ x. bytes_eq x.path other) (others path qs)))) f
    by false false e f g r = ap (λ d. is_some (cond d (Some q) (find (λ x. bytes_eq x.path other) (others path qs)))) f ∙ r g

all_still : (path : List ℕ) (ps qs : List QueueRow) → list_any (λ p. bytes_eq p.path path) ps ≡ false → list_all (λ p. has_path qs p.path) ps ≡ true → list_all (λ p. has_path (others path qs) p.path) ps ≡ true
all_still path [] qs n h = refl
all_still path (p ∷ ps) qs n h =
    let both = and_parts (has_path qs p.path) (list_all (λ r. has_path qs r.path) ps) h in
    and_from (has_path (others path qs) p.path) (list_all (λ r. has_path (others path qs) r.path) ps)
    (still path p.path qs (or_left (bytes_eq p.path path) (list_any (λ r. bytes_eq r.path path) ps) n) (both.0))
    (all_still path ps qs (or_right (bytes_eq p.path path) (list_any (λ r. bytes_eq r.path path) ps) n) (both.1))

-- so distinct paths that stand in a list are no more than its queues
no_more : (ps qs : List QueueRow) → HasDistinctPaths ps → list_all (λ p. has_path qs p.path) ps ≡ true → length ps ≤ length qs
no_more [] qs d h = omega arith
no_more (p ∷ ps) qs d h =
    let both = and_parts (has_path qs p.path) (list_all (λ r. has_path qs r.path) ps) h in
    let rest = no_more ps (others p.path qs) d.1 (all_still p.path ps qs d.0 (both.1)) in
    let one = fewer p.path qs (both.0) in
    omega (arith, rest, one)

none_of : (path : List ℕ) (ps : List QueueRow) → has_path ps path ≡ false → list_any (λ p. bytes_eq p.path path) ps ≡ false
none_of path [] h = refl
none_of path (p ∷ ps) h = by (bytes_eq p.path path) h (none_of path ps)
  where
    by : (b : Bool) → is_some (cond b (Some p) (find (λ r. bytes_eq r.path path) ps)) ≡ false → (has_path ps path ≡ false → list_any (λ r. bytes_eq r.path path) ps ≡ false) → b || list_any (λ r. bytes_eq r.path path) ps ≡ false
    by true g f = absurd (cc g)
    by false g f = f g

-- and where they are as many, each queue has one of them
module _ (ps qs : List QueueRow) (d : HasDistinctPaths ps) (h : list_all (λ p. has_path qs p.path) ps ≡ true) (l : length qs ≤ length ps) where
  each_back : (path : List ℕ) → has_path qs path ≡ true → has_path ps path ≡ true
  each_back path g = by (has_path ps path) refl
    where
      by : (b : Bool) → has_path ps path ≡ b → b ≡ true
      by true e = refl
      by false e =
          absurd (let few = no_more ps (others path qs) d (all_still path ps qs (none_of path ps e) h) in
          let one = fewer path qs g in
          omega (arith, few, one, l))

  all_back : (rs : List QueueRow) → list_all (λ r. has_path qs r.path) rs ≡ true → list_all (λ r. has_path ps r.path) rs ≡ true
  all_back [] g = refl
  all_back (r ∷ rs) g =
      let both = and_parts (has_path qs r.path) (list_all (λ x. has_path qs x.path) rs) g in
      and_from (has_path ps r.path) (list_all (λ x. has_path ps x.path) rs) (each_back r.path (both.0)) (all_back rs (both.1))

here_too : (q : QueueRow) (rs qs : List QueueRow) → list_all (λ r. has_path qs r.path) rs ≡ true → list_all (λ r. has_path (q ∷ qs) r.path) rs ≡ true
here_too q [] qs h = refl
here_too q (r ∷ rs) qs h =
    let both = and_parts (has_path qs r.path) (list_all (λ x. has_path qs x.path) rs) h in
    and_from (has_path (q ∷ qs) r.path) (list_all (λ x. has_path (q ∷ qs) x.path) rs) (by (bytes_eq q.path r.path) (both.0)) (here_too q rs qs (both.1))
  where
    by : (b : Bool) → has_path qs r.path ≡ true → is_some (cond b (Some q) (find (λ x. bytes_eq x.path r.path) qs)) ≡ true
    by true e = refl
    by false e = e

-- each queue of a list is there
all_there : (qs : List QueueRow) → list_all (λ q. has_path qs q.path) qs ≡ true
all_there [] = refl
all_there (q ∷ qs) =
    and_from (has_path (q ∷ qs) q.path) (list_all (λ r. has_path (q ∷ qs) r.path) qs)
    (ap (λ b. is_some (cond b (Some q) (find (λ r. bytes_eq r.path q.path) qs))) ((bytes_eq-Decides q.path q.path).1 refl)) (here_too q qs qs (all_there qs))

-- the paths are the same exactly where each of the first is there and they are as many
pub same_count : (ps qs : List QueueRow) → HasDistinctPaths ps → HasDistinctPaths qs → list_all (λ p. has_path qs p.path) ps ≡ true → (b : Bool) → (b ≡ true → length ps ≡ length qs) → (length ps ≡ length qs → b ≡ true) → b ≡ has_same_paths ps qs
same_count ps qs d e h b f g =
    same_test b (has_same_paths ps qs)
    (λ t. let l = f t in and_from (list_all (λ p. has_path qs p.path) ps) (list_all (λ q. has_path ps q.path) qs) h (all_back ps qs d h (omega (arith, l)) qs (all_there qs)))
    (λ t.
    let both = and_parts (list_all (λ p. has_path qs p.path) ps) (list_all (λ q. has_path ps q.path) qs) t in
    let one = no_more ps qs d (both.0) in
    let two = no_more qs ps e (both.1) in
    g (omega (arith, one, two)))

pub member : (rs : List QueueRow) (k : ℕ) (r : QueueRow) → k < length rs → r ≡ get_or rs k r → IsIn r rs
member [] k r v m = absurd (omega (arith, v))
member (x ∷ rs) zero r v m = inl (sym m)
member (x ∷ rs) (suc k) r v m = inr (member rs k r (omega (arith, v)) m)

-- where one is missing they are not
pub one_missing : (ps qs : List QueueRow) (i : ℕ) (p : QueueRow) → i < length ps → p ≡ get_or ps i p → find (λ q. bytes_eq q.path p.path) qs ≡ None → false ≡ has_same_paths ps qs
one_missing ps qs i p w e n = by (has_same_paths ps qs) refl
  where
    by : (b : Bool) → has_same_paths ps qs ≡ b → false ≡ b
    by false t = refl
    by true t =
        absurd (let both = and_parts (list_all (λ r. has_path qs r.path) ps) (list_all (λ q. has_path ps q.path) qs) t in
        let there : has_path qs p.path ≡ true = all_in (λ r. has_path qs r.path) ps p (both.0) (member ps i p w e) in
        let none : has_path qs p.path ≡ false = ap is_some n in
        cc (there, none))

-- so far, and one more
pub one_more : (ps qs : List QueueRow) (i : ℕ) (p : QueueRow) → i < length ps → p ≡ get_or ps i p → list_all (λ r. has_path qs r.path) (take i ps) ≡ true → has_path qs p.path ≡ true → list_all (λ r. has_path qs r.path) (take (i + 1) ps) ≡ true
one_more ps qs i p w e h n = ap (list_all (λ r. has_path qs r.path)) (take_more ps i p w ∙ ap (λ x. take i ps ++ x ∷ []) (sym e)) ∙ at (take i ps) h
  where
    at : (rs : List QueueRow) → list_all (λ r. has_path qs r.path) rs ≡ true → list_all (λ r. has_path qs r.path) (rs ++ p ∷ []) ≡ true
    at [] g = and_from (has_path qs p.path) true n refl
    at (r ∷ rs) g =
        let both = and_parts (has_path qs r.path) (list_all (λ x. has_path qs x.path) rs) g in
        and_from (has_path qs r.path) (list_all (λ x. has_path qs x.path) (rs ++ p ∷ [])) (both.0) (at rs (both.1))

-- what is found has the path
has_path_at : (path position : List ℕ) (rows : List Row) → IsAt rows path position → has_path (queues_of rows) path ≡ true
has_path_at path position rows at =
    let t = at_position position rows at.present in
    subst (λ p. has_path (queues_of rows) p ≡ true) (sym t.path_is ∙ at.path_is) (path_of_row rows t.row t.member)

pub found_path : {A : Type 0} (path : List ℕ) (rows : List Row) (f : Found A) → FindsQueue path rows f → (f ≡ Missing → ⊥) → has_path (queues_of rows) path ≡ true
found_path path rows (Leaf position) at n = has_path_at path position.items rows at.0
found_path path rows (Parent position) at n = has_path_at path position.items rows at.0
found_path path rows Missing at n = absurd (n refl)
