-- What a cluster keeps where room is reserved on a node.
use Rattle.cap_commit.proofs.Prelude.{◌≡◌, ℕ, ◌+◌, ◌<◌, ◌≤◌, Bool, true, false, cond, List, [], ◌∷◌, ◌++◌, length, map, Some, None, refl, sym, ◌∙◌, ap, subst, inl, inr, arith, IsSome, ◌==◌, find, sum_by, cases_lt, get_or_past, sum_by_push, sum_by-le-sum_by, bytes_eq-Decides, IsWithin, amount, amounts_exchanged, sum_max, zeros, amount-exchanged, Flat, App, Container, NodeTable, Reservation, app_at, Sight, sight_of, NodeProposal, IsAdmissible, NeedsOf, is_grant, reason_of, ProposalKind, add_reservation, after_reserve, rejected_exactly, reserve_apart, IsIn, each_of, of_each, found, in_either, counts, counted, use_amount, Test, count_of, length_used, used_by, if_less, Measure, MayGive, use_alone, Row, applied_row, queues_of, root_use, user_row_at, count_where, position_of, AreReserved, fits_its_node, Parts, AreConsistent, IsInLeaf, IsRowOf, flat_of, of_cluster, count_positive, IsSound}
use Rattle.cap_commit.proofs.Granted.{live_few, reserved_few}
use Rattle.cap_commit.proofs.Granting.{its_app, none_active, past_where, zero_where}
use Rattle.cap_commit.proofs.Holding.{leaf_same, still_placed}
use Rattle.cap_commit.proofs.Moving.{HasMoved, may_give, moved_settings, moved_stays, none_waits, of_test, tied_moved}
use Rattle.cap_commit.proofs.RowsAt.{row_at}
use Rattle.cap_commit.proofs.Seen.{total_seen}
use Rattle.cap_commit.proofs.Ties.{in_queue, of_user_in}

needs_reserve : {K : ℕ} (sight : Sight K) (q : NodeProposal) (k : ProposalKind) → is_grant k ≡ false → NeedsOf sight q k → NeedsOf sight q ProposalKind.Reserve
needs_reserve sight q ProposalKind.Grant e n = absurd (cc e)
needs_reserve sight q ProposalKind.Reserve e n = n

pub reserve_kind : (k : ProposalKind) → is_grant k ≡ false → ProposalKind.Reserve ≡ k
reserve_kind ProposalKind.Grant e = absurd (cc e)
reserve_kind ProposalKind.Reserve e = refl

-- the cluster with one more reservation
pub reserved_is : {K : ℕ} (p : Parts K) (rows' : List Row) (r : Reservation) (nodes' : NodeTable) → queues_of rows' ≡ queues_of p.rows → nodes' ≡ add_reservation r p.nodes → flat_of (record p { rows = rows'; nodes = nodes' }) ≡ after_reserve (flat_of p) r
reserved_is p rows' r nodes' same is = λ i. record { settings = record (flat_of p).settings { queues = same i }; apps = p.apps.table; nodes = is i }

-- the reservation that is made
abbrev pub reserved_of : NodeProposal → Reservation
reserved_of q = record { app = q.app; key = q.key; node = q.node; resource = q.resource }

module _ {K : ℕ} (p : Parts K) (h : AreConsistent p) (q : NodeProposal) (passes : reason_of (sight_of (flat_of p)) q ≡ None) (kind : is_grant q.kind ≡ false)
    (a : App) (owner : find (λ (x : App). x.number == q.app) p.apps.table.active ≡ Some a) (count : length q.resource ≡ K) where
  abbrev old : Flat K
  old = flat_of p

  abbrev sight : Sight K
  sight = sight_of old

  abbrev made : Reservation
  made = reserved_of q

  admissible : IsAdmissible sight q
  admissible = (rejected_exactly K sight q).0 passes

  needs : NeedsOf sight q ProposalKind.Reserve
  needs = needs_reserve sight q q.kind kind admissible.1

  made_is : (test : Test) (k : ℕ) → counted old test k made.app made.resource ≡ count_where (test a.leaf a.user) (use_alone q.resource) (Measure.uses k)
  made_is test k = ap (λ o. cond (counts test o) (amount q.resource k) 0) owner ∙ as_count (test a.leaf a.user)
    where
      as_count : (b : Bool) → cond b (amount q.resource k) 0 ≡ count_where b (use_alone q.resource) (Measure.uses k)
      as_count true = refl
      as_count false = refl

  reserves : (new : Flat K) → new.apps ≡ old.apps → new.nodes ≡ add_reservation made p.nodes → HasMoved old new a.leaf a.user (use_alone (zeros K)) (use_alone q.resource)
  reserves new apps nodes = record { counts = counted_so; fits = fitted; short = count }
    where
      past : (cluster : Flat K) (test : Test) (k : ℕ) → K ≤ k → amount (used_by cluster test) k ≡ 0
      past cluster test k g = get_or_past (used_by cluster test) k 0 (let l = length_used cluster test in omega (arith, g, l))

      counted_so : (test : Test) (m : Measure) → of_test new test m + count_where (test a.leaf a.user) (use_alone (zeros K)) m ≡ of_test old test m + count_where (test a.leaf a.user) (use_alone q.resource) m
      counted_so test Measure.waiting = omega (arith, none_waits (test a.leaf a.user) (use_alone (zeros K)), none_waits (test a.leaf a.user) (use_alone q.resource))
      counted_so test Measure.active =
          let same : count_of test new.apps.active ≡ count_of test old.apps.active = ap (λ (t : Rattle.cap_model.specs.Flat.AppTable). count_of test t.active) apps in
          omega (arith, same, none_active (test a.leaf a.user) (zeros K), none_active (test a.leaf a.user) q.resource)
      counted_so test (Measure.uses k) = elim (cases_lt k K) [
        | inl b ↦
            let after : Flat K = after_reserve old made in
            let same : amount (used_by new test) k ≡ amount (used_by after test) k =
            (λ i. amount (Rattle.cap_base.specs.Amounts.sum_where K (λ (x : Rattle.cap_model.specs.Uses.Holding). counts test (Rattle.cap_model.specs.Flat.app_in (apps i) x.app)) (λ x. x.resource) (map Rattle.cap_model.specs.Uses.of_container (nodes i).live ++ map Rattle.cap_model.specs.Uses.of_reservation (nodes i).reserved)) k) in
            let push = sum_by_push (λ (r : Reservation). counted old test k r.app r.resource) p.nodes.reserved made in
            omega (arith, same, use_amount old test k b, use_amount after test k b, push, made_is test k, zero_where K (test a.leaf a.user) k)
        | inr g ↦
            let x = past new test k g in
            let y = past old test k g in
            let z = zero_where K (test a.leaf a.user) k in
            let w = past_where (test a.leaf a.user) q.resource k (omega (arith, g, count)) in
            omega (arith, x, y, z, w)
      ]

      fitted : (test : Test) (m : Measure) → count_where (test a.leaf a.user) (use_alone (zeros K)) m ≤ of_test old test m
      fitted test Measure.waiting = omega (arith, none_waits (test a.leaf a.user) (use_alone (zeros K)))
      fitted test Measure.active = omega (arith, none_active (test a.leaf a.user) (zeros K))
      fitted test (Measure.uses k) = omega (arith, zero_where K (test a.leaf a.user) k)

  member : IsIn a p.apps.table.active
  member = (found (λ (x : App). x.number == q.app) p.apps.table.active a owner).0

  some_active : 1 ≤ of_cluster old a.leaf a.user Measure.active
  some_active = count_positive (of_user_in a.leaf a.user) p.apps.table.active a member (rw ((bytes_eq-Decides a.leaf a.leaf).1 refl, (bytes_eq-Decides a.user a.user).1 refl) refl)

  placed : IsInLeaf p a
  placed = each_of (IsInLeaf p) p.apps.table.active h.placed a member

  pub may_take_none : MayGive (zeros K) (user_row_at (position_of a.number p.apps.accounts) a.user p.rows)
  may_take_none =
      let at = row_at p.rows a.leaf (position_of a.number p.apps.accounts) placed.position in
      may_give old (after_reserve old made) a.leaf a.user (use_alone (zeros K)) (use_alone q.resource) (reserves (after_reserve old made) refl refl) some_active p.rows h.tied (position_of a.number p.apps.accounts) at.row at.member at.path_is at.item_is

  -- reservations stay on different nodes, each where it fits
  pub still_reserved : AreReserved p.nodes.present (p.nodes.reserved ++ made ∷ [])
  still_reserved = record {
    apart = reserve_apart old made (admissible.0).present needs.1 h.reservations.apart;
    fit = of_each (λ r. fits_its_node p.nodes.present r ≡ true) (p.nodes.reserved ++ made ∷ [])
        (λ r m. elim (in_either r p.nodes.reserved (made ∷ []) m) [
          | inl i ↦ each_of (λ x. fits_its_node p.nodes.present x ≡ true) p.nodes.reserved h.reservations.fit r i
          | inr (inl e) ↦ subst (λ (x : Reservation). fits_its_node p.nodes.present x ≡ true) e (sym (total_seen p h q) ∙ needs.3)
          | inr (inr none) ↦ absurd none
        ]);
  }

  -- the new use of the root is a sum
  pub root_keeps : IsSound K (add_reservation made p.nodes) → IsWithin sum_max (amounts_exchanged (zeros K) q.resource (root_use p.rows))
  root_keeps sound k = elim (cases_lt k K) [
    | inl b ↦ below b
    | inr past ↦
        let e = amount-exchanged (zeros K) q.resource (root_use p.rows) k in
        let r : amount q.resource k ≡ 0 = get_or_past q.resource k 0 (omega (arith, past, count)) in
        let u = past_root past p.rows (λ r m. m) in
        omega (arith, e, r, u)
  ]
    where
      tied_row : (r : Row) → IsIn r p.rows → r.item.used ≡ used_by old (in_queue r.path)
      tied_row r m = (each_of (IsRowOf old) p.rows h.tied r m).used

      past_root : K ≤ k → (rows : List Row) → ((r : Row) → IsIn r rows → IsIn r p.rows) → amount (root_use rows) k ≡ 0
      past_root past [] f = refl
      past_root past (r ∷ rows) f = ap (λ v. amount v k) (tied_row r (f r (inl refl))) ∙ get_or_past (used_by old (in_queue r.path)) k 0 (let l = length_used old (in_queue r.path) in omega (arith, past, l))

      all_live : ℕ
      all_live = sum_by (λ (c : Container). amount c.resource k) p.nodes.live

      all_reserved : ℕ
      all_reserved = sum_by (λ (r : Reservation). amount r.resource k) p.nodes.reserved

      few_at_root : k < K → (rows : List Row) → ((r : Row) → IsIn r rows → IsIn r p.rows) → amount (root_use rows) k ≤ all_live + all_reserved
      few_at_root b [] f = omega arith
      few_at_root b (r ∷ rows) f =
          let e = ap (λ v. amount v k) (tied_row r (f r (inl refl))) in
          let w = use_amount old (in_queue r.path) k b in
          let x = sum_by-le-sum_by (λ (c : Container). counted old (in_queue r.path) k c.app c.resource) (λ c. amount c.resource k) p.nodes.live (λ c. if_less (counts (in_queue r.path) (app_at old c.app)) (amount c.resource k)) in
          let y = sum_by-le-sum_by (λ (c : Reservation). counted old (in_queue r.path) k c.app c.resource) (λ c. amount c.resource k) p.nodes.reserved (λ c. if_less (counts (in_queue r.path) (app_at old c.app)) (amount c.resource k)) in
          omega (arith, e, w, x, y)

      below : k < K → amount (amounts_exchanged (zeros K) q.resource (root_use p.rows)) k ≤ sum_max
      below b =
          let e = amount-exchanged (zeros K) q.resource (root_use p.rows) k in
          let f = few_at_root b p.rows (λ r m. m) in
          let l = live_few K (add_reservation made p.nodes) sound k b in
          let more = sum_by_push (λ (r : Reservation). amount r.resource k) p.nodes.reserved made in
          let r = reserved_few K (add_reservation made p.nodes) sound (p.nodes.reserved ++ made ∷ []) still_reserved k b in
          omega (arith, e, f, l, more, r)

  abbrev after : Parts K
  after = record p { rows = map (applied_row K a.leaf a.user (zeros K) q.resource) p.rows; nodes = add_reservation made p.nodes }

  settings : (flat_of after).settings.queues ≡ old.settings.queues
  settings = moved_settings K a.leaf a.user (use_alone (zeros K)) (use_alone q.resource) p.rows

  pub held_reserved : AreConsistent (record p { rows = map (applied_row K a.leaf a.user (zeros K) q.resource) p.rows; nodes = add_reservation made p.nodes })
  held_reserved = record {
    tied = tied_moved old (flat_of after) a.leaf a.user (use_alone (zeros K)) (use_alone q.resource) (reserves (flat_of after) refl refl) p.rows h.tied;
    placed =
        of_each (IsInLeaf after) p.apps.table.active
        (λ x m. still_placed p after (λ path l. leaf_same old (flat_of after) path settings l) (moved_stays K a.leaf a.user (use_alone (zeros K)) (use_alone q.resource) p.rows) x x refl refl refl (each_of (IsInLeaf p) p.apps.table.active h.placed x m));
    counted = h.counted;
    owned = h.owned;
    reserved = of_each (λ (r : Reservation). IsSome (app_at old r.app)) (p.nodes.reserved ++ made ∷ []) (λ r m. elim (in_either r p.nodes.reserved (made ∷ []) m) [
      | inl i ↦ each_of (λ (x : Reservation). IsSome (app_at old x.app)) p.nodes.reserved h.reserved r i
      | inr (inl e) ↦ subst (λ (x : Reservation). IsSome (app_at old x.app)) e (its_app old q passes)
      | inr (inr none) ↦ absurd none
    ]);
    reservations = still_reserved;
    numbers = h.numbers;
    limit = h.limit;
    few = h.few;
    few_live = h.few_live;
    resources = h.resources;
  }
