-- What a cluster keeps where a container is granted.
use Rattle.cap_commit.proofs.Prelude.{◌≡◌, ℕ, ◌+◌, ◌<◌, ◌≤◌, Bool, true, false, cond, List, [], ◌∷◌, ◌++◌, length, map, Some, None, refl, sym, ◌∙◌, ap, inl, inr, arith, Option, IsSome, is_some, not, ◌==◌, ◌&&◌, find, filter, option_map_or, sum_by, and_parts, cases_lt, nat_tests, get_or_past, sum_by-cons, sum_by_push, Fits, amount, zeros, amount-zeros, fits, Flat, App, Container, Reservation, app_at, node_in, Sight, sight_of, seen_app, NodeProposal, IsAdmissible, NeedsOf, is_grant, reason_of, ProposalKind, AreApart, held_for, rejected_exactly, IsIn, found, of_filter, of_map, none_in, filter_whole, value_of, standing, counts, counted, live_part, reserved_part, same_counts, use_amount, fits_amounts, Test, count_of, length_used, used_by, free_on, Measure, use_alone, count_where, Parts, AreConsistent, flat_of, own_reservation, taken_back}
use Rattle.cap_commit.proofs.Moving.{HasMoved, none_waits, of_test}
use Rattle.cap_commit.proofs.Seen.{free_seen, node_there, own_is, reservation_is_seen}

-- where a member passes, something is found
some_found : {A : Type 0} (t : A → Bool) (xs : List A) (x : A) → IsIn x xs → t x ≡ true → IsSome (find t xs)
some_found t [] x m e = absurd m
some_found t (y ∷ xs) x (inl same) e = ap (λ b. is_some (cond b (Some y) (find t xs))) (ap t same ∙ e)
some_found t (y ∷ xs) x (inr m) e = by (t y) (some_found t xs x m e)
  where
    by : (b : Bool) → IsSome (find t xs) → IsSome (cond b (Some y) (find t xs))
    by true r = refl
    by false r = r

-- what is found of a reservation counts
abbrev taken_by : (Reservation → ℕ) → Option Reservation → ℕ
taken_by f None = 0
taken_by f (Some r) = f r

-- all reservations are those on other nodes and the one on this node
sum_kept : (f : Reservation → ℕ) (n : ℕ) (rs : List Reservation) → AreApart rs → sum_by f rs ≡ sum_by f (filter (λ r. not (r.node == n)) rs) + taken_by f (find (λ r. r.node == n) rs)
sum_kept f n [] a = refl
sum_kept f n (r ∷ rs) a = by (r.node == n) refl (sum_kept f n rs a.1)
  where
    rest : List Reservation
    rest = filter (λ (x : Reservation). not (x.node == n)) rs

    whole : r.node == n ≡ true → rest ≡ rs
    whole e = filter_whole (λ (x : Reservation). not (x.node == n)) rs (λ x i. let no = none_in (λ (s : Reservation). r.node == s.node) rs x a.0 i in let other : x.node == n ≡ false = grind (arith, nat_tests, no, e) in ap not other)

    by : (b : Bool) → r.node == n ≡ b → sum_by f rs ≡ sum_by f rest + taken_by f (find (λ (x : Reservation). x.node == n) rs) →
        sum_by f (r ∷ rs) ≡ sum_by f (cond (not b) (r ∷ rest) rest) + taken_by f (cond b (Some r) (find (λ (x : Reservation). x.node == n) rs))
    by true e g = let w = ap (sum_by f) (whole e) in let s = sum_by-cons f r rs in omega (arith, w, s)
    by false e g = let s = sum_by-cons f r rs in let t = sum_by-cons f r rest in omega (arith, g, s, t)

pub zero_where : (K : ℕ) (b : Bool) (k : ℕ) → count_where b (use_alone (zeros K)) (Measure.uses k) ≡ 0
zero_where K true k = amount-zeros K k
zero_where K false k = refl

pub none_active : (b : Bool) (r : List ℕ) → count_where b (use_alone r) Measure.active ≡ 0
none_active true r = refl
none_active false r = refl

pub past_where : (b : Bool) (r : List ℕ) (k : ℕ) → length r ≤ k → count_where b (use_alone r) (Measure.uses k) ≡ 0
past_where true r k past = get_or_past r k 0 past
past_where false r k past = refl

needs_grant : {K : ℕ} (sight : Sight K) (q : NodeProposal) (k : ProposalKind) → is_grant k ≡ true → NeedsOf sight q k → NeedsOf sight q ProposalKind.Grant
needs_grant sight q ProposalKind.Grant e n = n
needs_grant sight q ProposalKind.Reserve e n = absurd (cc e)

-- the application of a proposal that passes is active
pub its_app : {K : ℕ} (old : Flat K) (q : NodeProposal) → reason_of (sight_of old) q ≡ None → IsSome (app_at old q.app)
its_app {K} old q passes =
    let adm = (rejected_exactly K (sight_of old) q).0 passes in
    let v = value_of (seen_app (sight_of old) q.app) (adm.0).registered in
    let f = found (λ s. s.number == q.app) (map Rattle.cap_model.specs.Sight.app_sight (filter (λ (app : App). app.registered) old.apps.active)) (v.0) (v.1) in
    let m = of_map Rattle.cap_model.specs.Sight.app_sight (filter (λ (app : App). app.registered) old.apps.active) (v.0) (f.0) in
    let g = of_filter (λ (app : App). app.registered) old.apps.active (m.0) (m.1) in
    some_found (λ (x : App). x.number == q.app) old.apps.active (m.0) (g.1) (ap (λ s. s.number == q.app) (m.2) ∙ f.1)

module _ {K : ℕ} (p : Parts K) (h : AreConsistent p) (q : NodeProposal) (passes : reason_of (sight_of (flat_of p)) q ≡ None) (kind : is_grant q.kind ≡ true) where
  abbrev old : Flat K
  old = flat_of p

  abbrev sight : Sight K
  sight = sight_of old

  admissible : IsAdmissible sight q
  admissible = (rejected_exactly K sight q).0 passes

  needs : NeedsOf sight q ProposalKind.Grant
  needs = needs_grant sight q q.kind kind admissible.1

  -- its node is present, and has room for it; and there are numbers left
  pub its_node : IsSome (node_in p.nodes q.node)
  its_node = sym (node_there p h q.node) ∙ (admissible.0).present

  pub its_room : Fits q.resource (free_on K p.nodes q.node)
  its_room =
      let e = sym (ap (λ b. cond b (fits q.resource (free_on K p.nodes q.node)) false) its_node) ∙ sym (free_seen p h q) ∙ needs.0 in
      fits_amounts q.resource (free_on K p.nodes q.node) e

  pub few_live_yet : length p.nodes.live < Rattle.cap_base.specs.Limits.live_max
  few_live_yet = (admissible.0).few_live

  pub numbers_are_left : p.nodes.next_container < Rattle.cap_base.specs.Limits.number_end
  numbers_are_left = (admissible.0).numbers_left

  abbrev kept : List Reservation
  kept = filter (λ (r : Reservation). not (r.node == q.node)) p.nodes.reserved

  module _ (a : App) (owner : find (λ (x : App). x.number == q.app) p.apps.table.active ≡ Some a) where
    -- what is taken back is what counts of the reservation on its node
    taken_is : (test : Test) (k : ℕ) → taken_by (λ r. counted old test k r.app r.resource) (find (λ r. r.node == q.node) p.nodes.reserved) ≡ count_where (test a.leaf a.user) (use_alone (taken_back sight q)) (Measure.uses k)
    taken_is test k = elim needs.1 [
      | inl n ↦
          let none : find (λ (r : Reservation). r.node == q.node) p.nodes.reserved ≡ None = sym (reservation_is_seen p h q) ∙ n.0 in
          let own : own_reservation sight q ≡ None = own_is p h q None none ∙ no_either (is_grant q.kind && false) in
          let back : taken_back sight q ≡ zeros K = ap (λ o. option_map_or (λ (r : Reservation). r.resource) o (zeros K)) own in
          ap (taken_by (λ (r : Reservation). counted old test k r.app r.resource)) none
          ∙ sym (zero_where K (test a.leaf a.user) k)
          ∙ ap (λ v. count_where (test a.leaf a.user) (use_alone v) (Measure.uses k)) (sym back)
      | inr own ↦
          let f = held_for old q own in
          let there : find (λ (r : Reservation). r.node == q.node) p.nodes.reserved ≡ Some f.reservation = sym (reservation_is_seen p h q) ∙ f.held in
          let converts : own_reservation sight q ≡ Some f.reservation = (λ i. cond (kind i && own i) (f.held i) None) in
          let back : taken_back sight q ≡ f.reservation.resource = ap (λ o. option_map_or (λ (r : Reservation). r.resource) o (zeros K)) converts in
          let same : f.reservation.app ≡ q.app = (let t = (and_parts (f.reservation.app == q.app) (Rattle.cap_model.specs.Asks.same_key f.reservation.key q.key) f.for).0 in grind (arith, nat_tests, t)) in
          ap (taken_by (λ (r : Reservation). counted old test k r.app r.resource)) there
          ∙ ap (λ n. counted old test k n f.reservation.resource) same
          ∙ ap (λ o. cond (counts test o) (amount f.reservation.resource k) 0) owner
          ∙ ap (λ v. cond (test a.leaf a.user) (amount v k) 0) (sym back)
          ∙ as_count (test a.leaf a.user)
    ]
      where
        no_either : (b : Bool) → cond b (let o : Option Reservation = None in o) None ≡ None
        no_either true = refl
        no_either false = refl

        as_count : (b : Bool) → cond b (amount (taken_back sight q) k) 0 ≡ count_where b (use_alone (taken_back sight q)) (Measure.uses k)
        as_count true = refl
        as_count false = refl

    -- what is used after it
    module _ (short : length (taken_back sight q) ≤ K) (count : length q.resource ≡ K) (c : Container) (app_is : c.app ≡ q.app) (resource_is : c.resource ≡ q.resource)
        (new : Flat K) (stands : (n : ℕ) → standing (app_at new n) ≡ standing (app_at old n)) (tally : (test : Test) → count_of test new.apps.active ≡ count_of test old.apps.active)
        (live : new.nodes.live ≡ p.nodes.live ++ c ∷ []) (reserved : new.nodes.reserved ≡ kept) where
      launched_is : (test : Test) (k : ℕ) → counted old test k c.app c.resource ≡ count_where (test a.leaf a.user) (use_alone q.resource) (Measure.uses k)
      launched_is test k =
          (λ i. counted old test k (app_is i) (resource_is i)) ∙ ap (λ o. cond (counts test o) (amount q.resource k) 0) owner ∙ as_count (test a.leaf a.user)
        where
          as_count : (b : Bool) → cond b (amount q.resource k) 0 ≡ count_where b (use_alone q.resource) (Measure.uses k)
          as_count true = refl
          as_count false = refl

      used_after : (test : Test) (k : ℕ) → k < K →
          amount (used_by new test) k + count_where (test a.leaf a.user) (use_alone (taken_back sight q)) (Measure.uses k) ≡ amount (used_by old test) k + count_where (test a.leaf a.user) (use_alone q.resource) (Measure.uses k)
      used_after test k b =
          let same : (n : ℕ) → counts test (app_at new n) ≡ counts test (app_at old n) = λ n. same_counts test (app_at new n) (app_at old n) (stands n) in
          let lives : live_part new test k new.nodes.live ≡ live_part old test k (p.nodes.live ++ c ∷ []) =
          (λ i. sum_by (λ (d : Container). cond (same d.app i) (amount d.resource k) 0) (live i)) in
          let holds : reserved_part new test k new.nodes.reserved ≡ reserved_part old test k kept =
          (λ i. sum_by (λ (d : Reservation). cond (same d.app i) (amount d.resource k) 0) (reserved i)) in
          let more = sum_by_push (λ (d : Container). counted old test k d.app d.resource) p.nodes.live c in
          let less = sum_kept (λ (d : Reservation). counted old test k d.app d.resource) q.node p.nodes.reserved h.reservations.apart in
          omega (arith, use_amount old test k b, use_amount new test k b, lives, holds, more, less, taken_is test k, launched_is test k)

      fits_before : (test : Test) (k : ℕ) → k < K → count_where (test a.leaf a.user) (use_alone (taken_back sight q)) (Measure.uses k) ≤ amount (used_by old test) k
      fits_before test k b =
          let less = sum_kept (λ (d : Reservation). counted old test k d.app d.resource) q.node p.nodes.reserved h.reservations.apart in
          omega (arith, use_amount old test k b, less, taken_is test k)

      pub grants : HasMoved old new a.leaf a.user (use_alone (taken_back sight q)) (use_alone q.resource)
      grants = record { counts = counted_so; fits = fitted; short = count }
        where
          past : (cluster : Flat K) (test : Test) (k : ℕ) → K ≤ k → amount (used_by cluster test) k ≡ 0
          past cluster test k g = get_or_past (used_by cluster test) k 0 (let l = length_used cluster test in omega (arith, g, l))

          counted_so : (test : Test) (m : Measure) → of_test new test m + count_where (test a.leaf a.user) (use_alone (taken_back sight q)) m ≡ of_test old test m + count_where (test a.leaf a.user) (use_alone q.resource) m
          counted_so test Measure.waiting = omega (arith, none_waits (test a.leaf a.user) (use_alone (taken_back sight q)), none_waits (test a.leaf a.user) (use_alone q.resource))
          counted_so test Measure.active = omega (arith, tally test, none_active (test a.leaf a.user) (taken_back sight q), none_active (test a.leaf a.user) q.resource)
          counted_so test (Measure.uses k) = elim (cases_lt k K) [
            | inl b ↦ used_after test k b
            | inr g ↦
                let x = past new test k g in
                let y = past old test k g in
                let z = past_where (test a.leaf a.user) (taken_back sight q) k (omega (arith, g, short)) in
                let w = past_where (test a.leaf a.user) q.resource k (omega (arith, g, count)) in
                omega (arith, x, y, z, w)
          ]

          fitted : (test : Test) (m : Measure) → count_where (test a.leaf a.user) (use_alone (taken_back sight q)) m ≤ of_test old test m
          fitted test Measure.waiting = omega (arith, none_waits (test a.leaf a.user) (use_alone (taken_back sight q)))
          fitted test Measure.active = omega (arith, none_active (test a.leaf a.user) (taken_back sight q))
          fitted test (Measure.uses k) = elim (cases_lt k K) [
            | inl b ↦ fits_before test k b
            | inr g ↦ (let z = past_where (test a.leaf a.user) (taken_back sight q) k (omega (arith, g, short)) in omega (arith, z))
          ]
