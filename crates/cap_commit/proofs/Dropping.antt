-- Reservations that are dropped one after the other.
use Rattle.cap_commit.proofs.Prelude.{◌≡◌, ℕ, zero, suc, ◌-◌, ◌≤◌, Bool, true, false, cond, List, [], ◌∷◌, length, Some, None, inl, inr, refl, sym, ◌∙◌, ap, subst, arith, not, filter, find, ◌==◌, ◌&&◌, if◌then◌else◌, list_any, slice_get, nat_tests, keep_first, AreApart, Flat, Reservation, with_reserved, IsIn, found, none_in, of_filter, length-kept, made_after, is_elsewhere, others_elsewhere, ClusterState}

-- none of those that pass stay: the others do
pub keep_none : {A : Type 0} (t : A → Bool) (xs : List A) → keep_first t 0 xs ≡ filter (λ x. not (t x)) xs
keep_none t [] = refl
keep_none t (x ∷ xs) = by (t x) (keep_none t xs)
  where
    by : (b : Bool) → keep_first t 0 xs ≡ filter (λ y. not (t y)) xs → (let rest = keep_first t (if b then 0 - 1 else 0) xs in if b && 0 == 0 then rest else x ∷ rest) ≡ cond (not b) (x ∷ filter (λ y. not (t y)) xs) (filter (λ y. not (t y)) xs)
    by true e = e
    by false e = ap (λ ys. x ∷ ys) e

-- without those that pass, none passes
pub none_stay : {A : Type 0} (t : A → Bool) (xs : List A) → filter t (filter (λ x. not (t x)) xs) ≡ []
none_stay t [] = refl
none_stay t (x ∷ xs) = by (t x) refl (none_stay t xs)
  where
    by : (b : Bool) → t x ≡ b → filter t (filter (λ y. not (t y)) xs) ≡ [] → filter t (cond (not b) (x ∷ filter (λ y. not (t y)) xs) (filter (λ y. not (t y)) xs)) ≡ []
    by true e h = h
    by false e h = ap (λ b. cond b (x ∷ filter t (filter (λ y. not (t y)) xs)) (filter t (filter (λ y. not (t y)) xs))) e ∙ h

-- the first that passes is the one that none passes before
pub first_passes : {A : Type 0} (t : A → Bool) (xs : List A) → find t xs ≡ slice_get (filter t xs) 0
first_passes t [] = refl
first_passes t (x ∷ xs) = by (t x) (first_passes t xs)
  where
    by : (b : Bool) → find t xs ≡ slice_get (filter t xs) 0 → cond b (Some x) (find t xs) ≡ slice_get (cond b (x ∷ filter t xs) (filter t xs)) 0
    by true h = refl
    by false h = h

-- an item at an index is a member
pub read_in : {A : Type 0} (xs : List A) (n : ℕ) (x : A) → slice_get xs n ≡ Some x → IsIn x xs
read_in [] n x e = absurd (cc e)
read_in (y ∷ ys) zero x e = inl (cc e)
read_in (y ∷ ys) (suc n) x e = inr (read_in ys n x e)

-- fewer are left without one that is there
pub fewer : {A : Type 0} (t : A → Bool) (xs : List A) (x : A) → find t xs ≡ Some x → suc (length (filter (λ y. not (t y)) xs)) ≤ length xs
fewer t [] x e = absurd (cc e)
fewer t (y ∷ ys) x e = by (t y) e (fewer t ys x)
  where
    rest : length (filter (λ z. not (t z)) ys) ≤ length ys
    rest = length-kept (λ z. not (t z)) ys

    by : (b : Bool) → cond b (Some y) (find t ys) ≡ Some x → (find t ys ≡ Some x → suc (length (filter (λ z. not (t z)) ys)) ≤ length ys) →
        suc (length (cond (not b) (y ∷ filter (λ z. not (t z)) ys) (filter (λ z. not (t z)) ys))) ≤ length (y ∷ ys)
    by true h more = omega (arith, rest)
    by false h more = omega (arith, more h)

-- where reservations are on different nodes, one of them is found by its node
other_node : (r : Reservation) (rs : List Reservation) (x : Reservation) → list_any (λ (s : Reservation). r.node == s.node) rs ≡ false → IsIn x rs → r.node == x.node ≡ false
other_node r rs x a m = none_in (λ (s : Reservation). r.node == s.node) rs x a m

found_apart : (rs : List Reservation) (x : Reservation) → AreApart rs → IsIn x rs → find (λ r. r.node == x.node) rs ≡ Some x
found_apart [] x a m = absurd m
found_apart (r ∷ rs) x a (inl e) =
    let same : r.node == x.node ≡ true = rw e (let own : x.node == x.node ≡ true = grind (arith, nat_tests) in own) in
    rw same (ap Some e)
found_apart (r ∷ rs) x a (inr m) = rw (other_node r rs x a.0 m) (found_apart rs x a.1 m)

-- of those that pass a test, the first so many stay
module _ (t : Reservation → Bool) where
  one_kept : (m : ℕ) (r : Reservation) (rs : List Reservation) → t r ≡ true → keep_first t (suc m) (r ∷ rs) ≡ r ∷ keep_first t m rs
  one_kept m r rs h =
      let some : suc m == 0 ≡ false = grind (arith, nat_tests) in
      let less : suc m - 1 ≡ m = omega arith in
      ap (λ b. let rest = keep_first t (if b then suc m - 1 else suc m) rs in if b && suc m == 0 then rest else r ∷ rest) h
      ∙ ap (λ b. if b then keep_first t (suc m - 1) rs else r ∷ keep_first t (suc m - 1) rs) some
      ∙ ap (λ k. r ∷ keep_first t k rs) less

  -- all stay where there are no more
  pub all_stay : (n : ℕ) (rs : List Reservation) → slice_get (filter t rs) n ≡ None → keep_first t n rs ≡ rs
  all_stay n [] e = refl
  all_stay zero (r ∷ rs) e = by (t r) e (all_stay zero rs)
    where
      by : (b : Bool) → slice_get (cond b (r ∷ filter t rs) (filter t rs)) 0 ≡ None → (slice_get (filter t rs) 0 ≡ None → keep_first t 0 rs ≡ rs) →
          (let rest = keep_first t (if b then 0 - 1 else 0) rs in if b && 0 == 0 then rest else r ∷ rest) ≡ r ∷ rs
      by true h more = absurd (cc h)
      by false h more = ap (λ xs. r ∷ xs) (more h)
  all_stay (suc n) (r ∷ rs) e = by (t r) refl e (λ k. all_stay k rs)
    where
      by : (b : Bool) → t r ≡ b → slice_get (cond b (r ∷ filter t rs) (filter t rs)) (suc n) ≡ None → ((k : ℕ) → slice_get (filter t rs) k ≡ None → keep_first t k rs ≡ rs) →
          keep_first t (suc n) (r ∷ rs) ≡ r ∷ rs
      by true h k more = one_kept n r rs h ∙ ap (λ xs. r ∷ xs) (more n k)
      by false h k more = rw h (ap (λ xs. r ∷ xs) (more (suc n) k))

  -- the one that so many come before doesn't, and is found by its node
  pub passes_found : (n : ℕ) (rs : List Reservation) (x : Reservation) → AreApart rs → slice_get (filter t rs) n ≡ Some x → find (λ r. r.node == x.node) rs ≡ Some x
  passes_found n rs x a e = found_apart rs x a (of_filter t rs x (read_in (filter t rs) n x e)).1

  pub one_drops : (n : ℕ) (rs : List Reservation) (x : Reservation) → AreApart rs → slice_get (filter t rs) n ≡ Some x → keep_first t n (filter (is_elsewhere x.node) rs) ≡ keep_first t n rs
  one_drops n [] x a e = absurd (cc e)
  one_drops n (r ∷ rs) x a e = by (t r) refl n e (λ k. one_drops k rs x a.1)
    where
      stays : IsIn x rs → filter (is_elsewhere x.node) (r ∷ rs) ≡ r ∷ filter (is_elsewhere x.node) rs
      stays m = rw (other_node r rs x a.0 m) refl

      in_rest : (k : ℕ) → slice_get (filter t rs) k ≡ Some x → IsIn x rs
      in_rest k h = (of_filter t rs x (read_in (filter t rs) k x h)).1

      by : (b : Bool) → t r ≡ b → (k : ℕ) → slice_get (cond b (r ∷ filter t rs) (filter t rs)) k ≡ Some x →
          ((m : ℕ) → slice_get (filter t rs) m ≡ Some x → keep_first t m (filter (is_elsewhere x.node) rs) ≡ keep_first t m rs) →
          keep_first t k (filter (is_elsewhere x.node) (r ∷ rs)) ≡ keep_first t k (r ∷ rs)
      by true h zero k more =
          let same : r ≡ x = cc k in
          let own : r.node == x.node ≡ true = rw same (let it : x.node == x.node ≡ true = grind (arith, nat_tests) in it) in
          rw (own, others_elsewhere r.node x.node rs own a.0, h) refl
      by true h (suc m) k more = rw (stays (in_rest m k)) (one_kept m r (filter (is_elsewhere x.node) rs) h ∙ ap (λ xs. r ∷ xs) (more m k) ∙ sym (one_kept m r rs h))
      by false h m k more = rw (stays (in_rest m k), h) (ap (λ xs. r ∷ xs) (more m k))

  -- the next one that passes takes the place of one that goes
  pub takes_place : (n : ℕ) (rs : List Reservation) (x : Reservation) → AreApart rs → slice_get (filter t rs) n ≡ Some x → find t (made_after x.node rs) ≡ slice_get (filter t (filter (is_elsewhere x.node) rs)) n
  takes_place n [] x a e = absurd (cc e)
  takes_place n (r ∷ rs) x a e = by (t r) refl n e (λ k. takes_place k rs x a.1)
    where
      in_rest : (k : ℕ) → slice_get (filter t rs) k ≡ Some x → IsIn x rs
      in_rest k h = (of_filter t rs x (read_in (filter t rs) k x h)).1

      by : (b : Bool) → t r ≡ b → (k : ℕ) → slice_get (cond b (r ∷ filter t rs) (filter t rs)) k ≡ Some x →
          ((m : ℕ) → slice_get (filter t rs) m ≡ Some x → find t (made_after x.node rs) ≡ slice_get (filter t (filter (is_elsewhere x.node) rs)) m) →
          find t (made_after x.node (r ∷ rs)) ≡ slice_get (filter t (filter (is_elsewhere x.node) (r ∷ rs))) k
      by true h zero k more =
          let same : r ≡ x = cc k in
          let own : r.node == x.node ≡ true = rw same (let it : x.node == x.node ≡ true = grind (arith, nat_tests) in it) in
          rw (own, others_elsewhere r.node x.node rs own a.0) (first_passes t rs)
      by true h (suc m) k more = rw (other_node r rs x a.0 (in_rest m k), h) (more m k)
      by false h m k more = rw (other_node r rs x a.0 (in_rest m k), h) (more m k)

-- as far as reservations that do not stay were dropped
pub record IsKeeping {K : ℕ} (test : Reservation → Bool) (most : ℕ) (old now : ClusterState K) : Type 0 where
  pub flat : now.flat ≡ with_reserved now.flat.nodes.reserved old.flat
  pub accounts : now.accounts ≡ old.accounts
  pub stays : keep_first test most now.flat.nodes.reserved ≡ keep_first test most old.flat.nodes.reserved

module _ {K : ℕ} (test : Reservation → Bool) (most : ℕ) (old : ClusterState K) where
  pub none_dropped : IsKeeping test most old old
  none_dropped = record { flat = refl; accounts = refl; stays = refl }

  module _ (now : ClusterState K) (h : IsKeeping test most old now) where
    -- none is left to drop
    pub all_dropped : slice_get (filter test now.flat.nodes.reserved) most ≡ None → now.flat ≡ with_reserved (keep_first test most old.flat.nodes.reserved) old.flat
    all_dropped none = h.flat ∙ ap (λ rs. with_reserved rs old.flat) (sym (all_stay test most now.flat.nodes.reserved none) ∙ h.stays)

    -- one more is dropped
    module _ (x : Reservation) (apart : AreApart now.flat.nodes.reserved) (e : slice_get (filter test now.flat.nodes.reserved) most ≡ Some x) (new : ClusterState K)
        (is : new.flat ≡ with_reserved (filter (is_elsewhere x.node) now.flat.nodes.reserved) now.flat) where
      left : new.flat.nodes.reserved ≡ filter (is_elsewhere x.node) now.flat.nodes.reserved
      left = ap (λ (f : Flat K). f.nodes.reserved) is

      pub one_dropped : new.accounts ≡ now.accounts → IsKeeping test most old new
      one_dropped same = record {
        flat = is ∙ (λ i. with_reserved (sym left i) (h.flat i));
        accounts = same ∙ h.accounts;
        stays = ap (keep_first test most) left ∙ one_drops test most now.flat.nodes.reserved x apart e ∙ h.stays;
      }

      pub fewer_left : suc (length new.flat.nodes.reserved) ≤ length now.flat.nodes.reserved
      fewer_left =
          let less = fewer (λ (r : Reservation). r.node == x.node) now.flat.nodes.reserved x (passes_found test most now.flat.nodes.reserved x apart e) in
          subst (λ (rs : List Reservation). suc (length rs) ≤ length now.flat.nodes.reserved) (sym left) less

-- the reservation that is found on a node is found on its own
pub same_node : (n : ℕ) (rs : List Reservation) (x : Reservation) → find (λ (r : Reservation). r.node == n) rs ≡ Some x → x.node ≡ n
same_node n rs x e = let t = (found (λ (r : Reservation). r.node == n) rs x e).1 in grind (arith, nat_tests, t)

pub found_again : (n : ℕ) (rs : List Reservation) (x : Reservation) → find (λ (r : Reservation). r.node == n) rs ≡ Some x → find (λ (r : Reservation). r.node == x.node) rs ≡ Some x
found_again n rs x e = ap (λ m. find (λ (r : Reservation). r.node == m) rs) (same_node n rs x e) ∙ e
