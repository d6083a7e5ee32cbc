-- What a cluster keeps where a reservation is dropped.
use Rattle.cap_commit.proofs.Prelude.{◌≡◌, ℕ, zero, suc, ◌<◌, ◌≤◌, Bool, true, false, cond, List, [], ◌∷◌, length, map, Some, None, get_or, refl, sym, ◌∙◌, ap, subst, inl, inr, arith, IsSome, is_some, ◌==◌, find, filter, not, remove, sum_by-remove, bytes_eq-Decides, amount, Settings, Flat, App, NodeTable, Reservation, with_reserved, IsIn, found, each_of, of_each, counts, counted, use_amount, Measure, MayGive, zero_count, use_alone, count_where, Row, lowered_row, queues_of, user_row_at, position_of, AreApart, is_elsewhere, others_elsewhere, Parts, AreConsistent, IsInLeaf, flat_of, of_cluster, count_positive, part_reserved, part_removed}
use Rattle.cap_commit.proofs.Holding.{leaf_same, still_placed}
use Rattle.cap_commit.proofs.Moving.{HasMoved, gives, may_give, moved_settings, moved_stays, tied_moved}
use Rattle.cap_commit.proofs.Owning.{IsReservedFor, owned_stands}
use Rattle.cap_commit.proofs.RowsAt.{row_at}
use Rattle.cap_commit.proofs.Ties.{of_user_in}

in_at : {X : Type 0} (xs : List X) (i : ℕ) (x : X) → i < length xs → x ≡ get_or xs i x → IsIn x xs
in_at [] i x b e = absurd (omega (arith, b))
in_at (y ∷ ys) zero x b e = inl (sym e)
in_at (y ∷ ys) (suc i) x b e = inr (in_at ys i x (omega (arith, b)) e)

in_removed : {X : Type 0} (xs : List X) (i : ℕ) (x : X) → IsIn x (remove xs i) → IsIn x xs
in_removed [] zero x m = m
in_removed [] (suc i) x m = m
in_removed (y ∷ ys) zero x m = inr m
in_removed (y ∷ ys) (suc i) x (inl e) = inl e
in_removed (y ∷ ys) (suc i) x (inr m) = inr (in_removed ys i x m)

-- the reservation on a node stands at an index, and without it all are elsewhere
pub record IsPlace (n : ℕ) (rs : List Reservation) (r : Reservation) : Type 0 where
  pub index : ℕ
  pub below : index < length rs
  pub at : r ≡ get_or rs index r
  pub gone : remove rs index ≡ filter (is_elsewhere n) rs

pub place_of : (n : ℕ) (rs : List Reservation) (r : Reservation) → AreApart rs → find (λ x. x.node == n) rs ≡ Some r → IsPlace n rs r
place_of n [] r a e = absurd (cc e)
place_of n (x ∷ rs) r a e = by (x.node == n) refl e (place_of n rs r a.1)
  where
    by : (b : Bool) → x.node == n ≡ b → cond b (Some x) (find (λ y. y.node == n) rs) ≡ Some r → (find (λ y. y.node == n) rs ≡ Some r → IsPlace n rs r) → IsPlace n (x ∷ rs) r
    by true h k more = record {
      index = 0;
      below = omega arith;
      at = cc k;
      gone = sym (others_elsewhere x.node n rs h a.0) ∙ sym (ap (λ b. cond (not b) (x ∷ filter (is_elsewhere n) rs) (filter (is_elsewhere n) rs)) h);
    }
    by false h k more =
        let later = more k in
        record {
          index = suc later.index;
          below = let b = later.below in omega (arith, b);
          at = later.at;
          gone = ap (λ xs. x ∷ xs) later.gone ∙ sym (ap (λ b. cond (not b) (x ∷ filter (is_elsewhere n) rs) (filter (is_elsewhere n) rs)) h);
        }

module _ {K : ℕ} (p : Parts K) (h : AreConsistent p) (i : ℕ) (r : Reservation) (below : i < length p.nodes.reserved) (at : r ≡ get_or p.nodes.reserved i r) where
  abbrev old : Flat K
  old = flat_of p

  abbrev dropped : Flat K
  dropped = with_reserved (remove p.nodes.reserved i) old

  there : IsIn r p.nodes.reserved
  there = in_at p.nodes.reserved i r below at

  -- its application is active
  pub has_holder : (n : ℕ) → n ≡ r.app → None ≡ find (λ (x : App). x.number == n) p.apps.table.active → ⊥
  has_holder n same none =
      let some : IsSome (find (λ (x : App). x.number == n) p.apps.table.active) = rw same (each_of (IsReservedFor old) p.nodes.reserved h.reserved r there) in
      let no : is_some (find (λ (x : App). x.number == n) p.apps.table.active) ≡ false = ap is_some (sym none) in
      cc (some, no)

  module _ (a : App) (owner : find (λ (x : App). x.number == r.app) p.apps.table.active ≡ Some a) (short : length r.resource ≤ K) where
    -- its user has an application in the leaf
    some_active : 1 ≤ of_cluster old a.leaf a.user Measure.active
    some_active =
        count_positive (of_user_in a.leaf a.user) p.apps.table.active a (found (λ (x : App). x.number == r.app) p.apps.table.active a owner).0
        (rw ((bytes_eq-Decides a.leaf a.leaf).1 refl, (bytes_eq-Decides a.user a.user).1 refl) refl)

    placed : IsInLeaf p a
    placed = each_of (IsInLeaf p) p.apps.table.active h.placed a (found (λ (x : App). x.number == r.app) p.apps.table.active a owner).0

    -- what is used after it was dropped, whatever the settings
    less_used : (settings : Settings) → HasMoved old (record dropped { settings = settings }) a.leaf a.user (use_alone r.resource) (zero_count K)
    less_used settings =
        let new : Flat K = record dropped { settings = settings } in
        gives old new a.leaf a.user r.resource short (λ test. refl)
        (λ test k b.
        let fewer = sum_by-remove (λ (x : Reservation). counted old test k x.app x.resource) p.nodes.reserved i r below in
        let this : counted old test k (get_or p.nodes.reserved i r).app (get_or p.nodes.reserved i r).resource ≡ counted old test k r.app r.resource = ap (λ (x : Reservation). counted old test k x.app x.resource) (sym at) in
        let own : counted old test k r.app r.resource ≡ count_where (test a.leaf a.user) (use_alone r.resource) (Measure.uses k) = ap (λ o. cond (counts test o) (amount r.resource k) 0) owner in
        omega (arith, use_amount old test k b, use_amount new test k b, fewer, this, own))

    -- its user may give back what it has
    pub may_give_reserved : MayGive r.resource (user_row_at (position_of a.number p.apps.accounts) a.user p.rows)
    may_give_reserved =
        let row = row_at p.rows a.leaf (position_of a.number p.apps.accounts) placed.position in
        may_give old dropped a.leaf a.user (use_alone r.resource) (zero_count K) (less_used old.settings) some_active p.rows h.tied (position_of a.number p.apps.accounts) row.row row.member row.path_is row.item_is

    -- after it was dropped
    pub held_dropped : (nodes' : NodeTable) → nodes' ≡ record p.nodes { reserved = remove p.nodes.reserved i } → AreConsistent (record p { rows = map (lowered_row K a.leaf a.user r.resource) p.rows; nodes = nodes' })
    held_dropped nodes' is = subst (λ (t : NodeTable). AreConsistent (record p { rows = map (lowered_row K a.leaf a.user r.resource) p.rows; nodes = t })) (sym is) here
      where
        q : Parts K
        q = record p { rows = map (lowered_row K a.leaf a.user r.resource) p.rows; nodes = record p.nodes { reserved = remove p.nodes.reserved i } }

        settings : (flat_of q).settings.queues ≡ old.settings.queues
        settings = moved_settings K a.leaf a.user (use_alone r.resource) (zero_count K) p.rows

        here : AreConsistent q
        here = record {
          tied = tied_moved old (flat_of q) a.leaf a.user (use_alone r.resource) (zero_count K) (less_used (flat_of q).settings) p.rows h.tied;
          placed =
              of_each (IsInLeaf q) p.apps.table.active
              (λ x m. still_placed p q (λ path l. leaf_same old (flat_of q) path settings l) (moved_stays K a.leaf a.user (use_alone r.resource) (zero_count K) p.rows) x x refl refl refl (each_of (IsInLeaf p) p.apps.table.active h.placed x m));
          counted = h.counted;
          owned = h.owned;
          reserved = owned_stands (λ (x : Reservation). x.app) p.nodes.reserved (remove p.nodes.reserved i) old (flat_of q) (λ n. refl) (λ x m. in_removed p.nodes.reserved i x m) h.reserved;
          reservations = part_reserved p.nodes.present p.nodes.reserved (remove p.nodes.reserved i) (part_removed p.nodes.reserved i) h.reservations;
          numbers = h.numbers;
          limit = h.limit;
          few = h.few;
          few_live = h.few_live;
          resources = h.resources;
        }

  -- the cluster after it
  pub dropped_is : (rows' : List Row) (nodes' : NodeTable) → queues_of rows' ≡ queues_of p.rows → nodes' ≡ record p.nodes { reserved = remove p.nodes.reserved i } →
      record { settings = record old.settings { queues = queues_of rows' }; apps = p.apps.table; nodes = nodes' } ≡ dropped
  dropped_is rows' nodes' same is = λ j. record { settings = record old.settings { queues = same j }; apps = p.apps.table; nodes = is j }
