-- Nodes and what their containers hold, as a container comes and goes.
use Rattle.cap_nodes.proofs.Prelude.{◌≡◌, ℕ, ◌+◌, ◌-◌, ◌≤◌, ◌<◌, Bool, true, false, cond, List, [], ◌∷◌, ◌++◌, length, map, not, sym, ap, ◌∙◌, arith, subst, refl, Option, Some, None, filter, find, count_by, ◌==◌, IsSome, option_map, sum_by, AllByRecursion, same_Some, nat_tests, count_by-le-length, plus, less, Fits, amount-plus, amount-less, live_max, sum_where, IsRising, Container, one_where, Load, IsTied, load_at, change_load, held_more, held_less, CanHold, HasOne}
use Rattle.cap_nodes.proofs.Numbered.{found-change}
use Rattle.cap_nodes.proofs.Sums.{where-push-other, where-push-own, where-less-other, where-less-own, where-had, sum-without, count-push}

-- what holds of each holds of the one that is found
pub is_found : {X : Type 0} (P : X → Type 0) (t : X → Bool) (xs : List X) (x : X) → find t xs ≡ Some x → AllByRecursion P xs → P x × (t x ≡ true)
is_found P t [] x there all = absurd (cc there)
is_found P t (y ∷ xs) x there all = by (t y) refl (λ later. is_found P t xs x later all.1)
  where
    by : (b : Bool) → t y ≡ b → (find t xs ≡ Some x → P x × (t x ≡ true)) → P x × (t x ≡ true)
    by true e more =
        let this : y ≡ x = same_Some y x (subst (λ b. cond b (Some y) (find t xs) ≡ Some x) e there) in
        (subst P this all.0, subst (λ z. t z ≡ true) this e)
    by false e more = more (subst (λ b. cond b (Some y) (find t xs) ≡ Some x) e there)

-- what holds of each load still does after a change of one
all_later : (P Q : Load → Type 0) (n low : ℕ) (change : Load → Load) (loads : List Load) (high : ℕ) → IsRising low (map (λ p. p.node.number) loads) high → n < low →
    ((q : Load) → P q → (q.node.number == n) ≡ false → Q q) → AllByRecursion P loads → AllByRecursion Q (change_load n change loads)
all_later P Q n low change [] high r h other all = tt
all_later P Q n low change (q ∷ loads) high r h other all =
    let no : (q.node.number == n) ≡ false = grind (arith, nat_tests, r.0, h) in
    (subst (λ b. Q (cond b (change q) q)) (sym no) (other q all.0 no), all_later P Q n (q.node.number + 1) change loads high r.1 (omega (arith, r.0, h)) other all.1)

pub all_changed : (P Q : Load → Type 0) (n low : ℕ) (change : Load → Load) (p : Load) (loads : List Load) (high : ℕ) → IsRising low (map (λ q. q.node.number) loads) high →
    load_at loads n ≡ Some p → (P p → Q (change p)) → ((q : Load) → P q → (q.node.number == n) ≡ false → Q q) → AllByRecursion P loads → AllByRecursion Q (change_load n change loads)
all_changed P Q n low change p [] high r there own other all = tt
all_changed P Q n low change p (q ∷ loads) high r there own other all = by (q.node.number == n) refl (λ later. all_changed P Q n (q.node.number + 1) change p loads high r.1 later own other all.1)
  where
    by : (b : Bool) → (q.node.number == n) ≡ b → (load_at loads n ≡ Some p → AllByRecursion Q (change_load n change loads)) → AllByRecursion Q (change_load n change (q ∷ loads))
    by true e more =
        let this : q ≡ p = same_Some q p (subst (λ b. cond b (Some q) (load_at loads n) ≡ Some p) e there) in (
          subst (λ b. Q (cond b (change q) q)) (sym e) (subst (λ (x : Load). Q (change x)) (sym this) (own (subst P this all.0))),
          all_later P Q n (q.node.number + 1) change loads high r.1 (grind (arith, nat_tests, e)) other all.1,
        )
    by false e more = (subst (λ b. Q (cond b (change q) q)) (sym e) (other q all.0 e), more (subst (λ b. cond b (Some q) (load_at loads n) ≡ Some p) e there))

pub all_mapped : (P Q : Load → Type 0) (n : ℕ) (change : Load → Load) (loads : List Load) → ((q : Load) → P q → Q (change q)) → ((q : Load) → P q → Q q) → AllByRecursion P loads →
    AllByRecursion Q (change_load n change loads)
all_mapped P Q n change [] own other all = tt
all_mapped P Q n change (q ∷ loads) own other all = (by (q.node.number == n), all_mapped P Q n change loads own other all.1)
  where
    by : (b : Bool) → Q (cond b (change q) q)
    by true = own q all.0
    by false = other q all.0

pub all_kept : {X : Type 0} (P Q : X → Type 0) (t : X → Bool) (xs : List X) → ((x : X) → P x → t x ≡ true → Q x) → AllByRecursion P xs → AllByRecursion Q (filter t xs)
all_kept P Q t [] each all = tt
all_kept P Q t (x ∷ xs) each all = by (t x) refl (all_kept P Q t xs each all.1)
  where
    by : (b : Bool) → t x ≡ b → AllByRecursion Q (filter t xs) → AllByRecursion Q (cond b (x ∷ filter t xs) (filter t xs))
    by true e more = (each x all.0 e, more)
    by false e more = more

pub all_each : {X : Type 0} (P Q : X → Type 0) (xs : List X) → ((x : X) → P x → Q x) → AllByRecursion P xs → AllByRecursion Q xs
all_each P Q [] each all = tt
all_each P Q (x ∷ xs) each all = (each x all.0, all_each P Q xs each all.1)

pub all_pushed : {X : Type 0} (P : X → Type 0) (xs : List X) (x : X) → AllByRecursion P xs → P x → AllByRecursion P (xs ++ x ∷ [])
all_pushed P [] x all h = (h, tt)
all_pushed P (y ∷ xs) x all h = (all.0, all_pushed P xs x all.1 h)

-- a load that is there is still there
pub still_there : (loads : List Load) (n m : ℕ) (change : Load → Load) → ((p : Load) → (change p).node.number ≡ p.node.number) → IsSome (load_at loads m) → IsSome (load_at (change_load n change loads) m)
still_there loads n m change keeps h = subst IsSome (sym (found-change (λ (p : Load). p.node.number) n change keeps m loads)) (by (load_at loads m) h)
  where
    by : (o : Option Load) → IsSome o → IsSome (option_map (λ (p : Load). cond (p.node.number == n) (change p) p) o)
    by (Some p) k = refl
    by None k = absurd (cc k)

pub there_pushed : (loads : List Load) (p : Load) (m : ℕ) → IsSome (load_at loads m) → IsSome (load_at (loads ++ p ∷ []) m)
there_pushed [] p m there = absurd (cc there)
there_pushed (q ∷ loads) p m there = by (q.node.number == m) there (there_pushed loads p m)
  where
    by : (b : Bool) → IsSome (cond b (Some q) (load_at loads m)) → (IsSome (load_at loads m) → IsSome (load_at (loads ++ p ∷ []) m)) → IsSome (cond b (Some q) (load_at (loads ++ p ∷ []) m))
    by true h more = refl
    by false h more = more h

module _ (K : ℕ) (live : List Container) where
  -- a container that comes
  pub tied_beside : (c : Container) (p : Load) → IsTied K live p → (c.node == p.node.number) ≡ false → IsTied K (live ++ c ∷ []) p
  tied_beside c p tie e =
      let t = λ (x : Container). x.node == p.node.number in
      let z : one_where (t c) ≡ 0 = ap one_where e in
      record {
        held = tie.held ∙ sym (where-push-other K t (λ x. x.resource) live c e);
        count = (let a = count-push t live c in let b = tie.count in let r : p.live ≡ count_by t (live ++ c ∷ []) = omega (arith, a, b, z) in r);
        fits = tie.fits;
        within = tie.within;
      }

  pub tied_with : (c : Container) (p : Load) → IsTied K live p → (c.node == p.node.number) ≡ true → length (plus p.held c.resource) ≡ K → Fits (plus p.held c.resource) p.node.total →
      IsTied K (live ++ c ∷ []) (held_more c.resource p)
  tied_with c p tie e count fits =
      let t = λ (x : Container). x.node == p.node.number in
      let z : one_where (t c) ≡ 1 = ap one_where e in
      let long : length (plus (sum_where K t (λ x. x.resource) live) c.resource) ≡ K = subst (λ (h : List ℕ). length (plus h c.resource) ≡ K) tie.held count in
      record {
        held = ap (λ (h : List ℕ). plus h c.resource) tie.held ∙ sym (where-push-own K t (λ x. x.resource) live c e long);
        count = (let a = count-push t live c in let b = tie.count in let r : p.live + 1 ≡ count_by t (live ++ c ∷ []) = omega (arith, a, b, z) in r);
        fits = fits;
        within = tie.within;
      }

  -- room on a node
  pub room_fits : (r : List ℕ) (p : Load) → IsTied K live p → Fits r (less p.node.total p.held) → Fits (plus p.held r) p.node.total
  room_fits r p tie room k = omega (arith, amount-plus p.held r k, amount-less p.node.total p.held k, room k, tie.fits k)

  pub has_room : (r : List ℕ) (p : Load) → IsTied K live p → Fits r (less p.node.total p.held) → length live < live_max → CanHold r p
  has_room r p tie room few = record {
    within = λ k. omega (arith, room_fits r p tie room k, tie.within k);
    few = omega (arith, tie.count, count_by-le-length (λ (x : Container). x.node == p.node.number) live, few);
  }

  module _ (n : ℕ) (high : ℕ) (rising : IsRising 1 (map (λ c. c.number) live) high) (c : Container) (there : find (λ x. x.number == n) live ≡ Some c) where
    moved : (h : Container → ℕ) → sum_by h live ≡ sum_by h (filter (λ x. not (x.number == n)) live) + h c
    moved h = sum-without (λ (x : Container). x.number) h n 1 live high rising c there

    -- a container that goes
    pub untied_beside : (p : Load) → IsTied K live p → (c.node == p.node.number) ≡ false → IsTied K (filter (λ x. not (x.number == n)) live) p
    untied_beside p tie e =
        let t = λ (x : Container). x.node == p.node.number in
        let left = filter (λ (x : Container). not (x.number == n)) live in
        let z : one_where (t c) ≡ 0 = ap one_where e in
        let m : count_by t live ≡ count_by t left + one_where (t c) = moved (λ x. one_where (t x)) in
        record {
          held = tie.held ∙ sym (where-less-other K t (λ x. x.resource) live left c moved e);
          count = (let b = tie.count in let r : p.live ≡ count_by t left = omega (arith, m, b, z) in r);
          fits = tie.fits;
          within = tie.within;
        }

    pub has_one : (p : Load) → IsTied K live p → (c.node == p.node.number) ≡ true → length c.resource ≤ K → HasOne c.resource p
    has_one p tie e short =
        let t = λ (x : Container). x.node == p.node.number in
        let left = filter (λ (x : Container). not (x.number == n)) live in
        let z : one_where (t c) ≡ 1 = ap one_where e in
        let m : count_by t live ≡ count_by t left + one_where (t c) = moved (λ x. one_where (t x)) in
        record {
          held = subst (λ (h : List ℕ). Fits c.resource h) (sym tie.held) (where-had K t (λ x. x.resource) live left c moved e short);
          some = (let b = tie.count in let r : 0 < p.live = omega (arith, m, b, z) in r);
        }

    pub untied_from : (p : Load) → IsTied K live p → (c.node == p.node.number) ≡ true → IsTied K (filter (λ x. not (x.number == n)) live) (held_less c.resource p)
    untied_from p tie e =
        let t = λ (x : Container). x.node == p.node.number in
        let left = filter (λ (x : Container). not (x.number == n)) live in
        let z : one_where (t c) ≡ 1 = ap one_where e in
        let m : count_by t live ≡ count_by t left + one_where (t c) = moved (λ x. one_where (t x)) in
        record {
          held = ap (λ (h : List ℕ). less h c.resource) tie.held ∙ sym (where-less-own K t (λ x. x.resource) live left c moved e);
          count = (let b = tie.count in let r : p.live - 1 ≡ count_by t left = omega (arith, m, b, z) in r);
          fits = λ k. omega (arith, amount-less p.held c.resource k, tie.fits k);
          within = tie.within;
        }
