-- What a cluster keeps where a container ends.
use Rattle.cap_commit.proofs.Prelude.{◌≡◌, ℕ, ◌+◌, ◌≤◌, Bool, true, false, cond, List, [], ◌∷◌, ◌++◌, length, map, Some, None, refl, sym, ◌∙◌, ap, subst, arith, IsSome, is_some, ◌==◌, not, find, filter, count_by, if◌then◌else◌, sum_by, nat_tests, append-nil, length-map, count_by-le-length, length-filter, bytes_eq-Decides, numbers_turned, amount, QueueRow, Cause, End, Flat, App, AppTable, Container, NodeTable, app_at, change_app, Reservation, is_among, with_ends, after_ends, complete, rising_kept, IsIn, found, of_filter, each_of, of_each, of_map, change_stands, counts, KeepsApp, AppsChange, ends_change, only_app, count_of, count_changed, ended_amount, same_use, sum_without, used_by, Measure, MayGive, zero_count, use_alone, count_where, Row, lowered_row, queues_of, user_row_at, HeldApps, UsesRoom, live_of, position_of, AreReserved, Parts, AreConsistent, IsInLeaf, flat_of, of_cluster, count_positive}
use Rattle.cap_commit.proofs.Holding.{leaf_same, still_placed}
use Rattle.cap_commit.proofs.Moving.{HasMoved, gives, may_give, moved_settings, moved_stays, tied_moved}
use Rattle.cap_commit.proofs.Owning.{IsOwned, count_for, owned_stands}
use Rattle.cap_commit.proofs.RowsAt.{row_at}
use Rattle.cap_commit.proofs.Ties.{of_user_in}

-- one, where it counts
abbrev weight : Bool → ℕ
weight b = if b then 1 else 0

-- a count is a sum
count_sum : (t : Container → Bool) (cs : List Container) → count_by t cs ≡ sum_by (λ c. cond (t c) 1 0) cs
count_sum t cs = refl

-- its application is to be told of it
told : (cause : Cause) (c : Container) (app : App) → (if app.number == c.app then record app { ends = app.ends ++ record { container = c.number; cause = cause } ∷ [] } else app) ≡ with_ends cause (c ∷ []) app
told cause c app = by (app.number == c.app) (c.app == app.number) (numbers_turned app.number c.app)
  where
    end : End
    end = record { container = c.number; cause = cause }

    by : (a b : Bool) → a ≡ b → (if a then record app { ends = app.ends ++ end ∷ [] } else app) ≡ record app { ends = app.ends ++ map (λ (d : Container). record { container = d.number; cause = cause }) (cond b (c ∷ []) []) }
    by true true e = refl
    by false false e = λ i. record app { ends = sym (append-nil app.ends) i }
    by true false e = absurd (cc e)
    by false true e = absurd (cc e)

-- an application after it is told
abbrev pub telling : Cause → Container → App → App
telling cause c app = if app.number == c.app then record app { ends = app.ends ++ record { container = c.number; cause = cause } ∷ [] } else app

told_all : (cause : Cause) (c : Container) (apps : List App) → map (telling cause c) apps ≡ map (with_ends cause (c ∷ [])) apps
told_all cause c [] = refl
told_all cause c (app ∷ apps) = λ i. told cause c app i ∷ told_all cause c apps i

module _ {K : ℕ} (p : Parts K) (h : AreConsistent p) (number : ℕ) (c : Container) (found_it : find (λ d. d.number == number) p.nodes.live ≡ Some c) where
  abbrev old : Flat K
  old = flat_of p

  there : IsIn c p.nodes.live
  there = (found (λ (d : Container). d.number == number) p.nodes.live c found_it).0

  number_is : c.number ≡ number
  number_is = let t = (found (λ (d : Container). d.number == number) p.nodes.live c found_it).1 in grind (arith, nat_tests, t)

  -- its application is active
  pub has_owner : (n : ℕ) → n ≡ c.app → None ≡ find (λ (x : App). x.number == n) p.apps.table.active → ⊥
  has_owner n same none =
      let some : IsSome (find (λ (x : App). x.number == n) p.apps.table.active) = rw same (each_of (IsOwned old) p.nodes.live h.owned c there) in
      let no : is_some (find (λ (x : App). x.number == n) p.apps.table.active) ≡ false = ap is_some (sym none) in
      cc (some, no)

  -- it is counted there
  pub some_live : 1 ≤ live_of c.app p.apps.accounts
  some_live =
      let r = h.counted c.app in
      let own : c.app == c.app ≡ true = grind (arith, nat_tests) in
      let whole = count_sum (λ (d : Container). d.app == c.app) p.nodes.live in
      let w = sum_without (λ (d : Container). cond (d.app == c.app) 1 0) 1 p.nodes.live p.nodes.next_container c h.numbers there in
      let one : cond (c.app == c.app) 1 0 ≡ (let n : ℕ = 1 in n) = ap (λ b. cond b 1 0) own in
      omega (arith, r, whole, w, one)

  module _ (a : App) (owner : find (λ (x : App). x.number == c.app) p.apps.table.active ≡ Some a) (short : length c.resource ≤ K) where
    -- its user has an application in the leaf
    some_active : 1 ≤ of_cluster old a.leaf a.user Measure.active
    some_active =
        count_positive (of_user_in a.leaf a.user) p.apps.table.active a (found (λ (x : App). x.number == c.app) p.apps.table.active a owner).0
        (rw ((bytes_eq-Decides a.leaf a.leaf).1 refl, (bytes_eq-Decides a.user a.user).1 refl) refl)

    placed : IsInLeaf p a
    placed = each_of (IsInLeaf p) p.apps.table.active h.placed a (found (λ (x : App). x.number == c.app) p.apps.table.active a owner).0

    abbrev ended : Flat K
    ended = after_ends Cause.Released (c ∷ []) old

    -- what is used after it has ended, however the applications are told
    less_used : (new : Flat K) (change : AppsChange old new) → new.nodes.live ≡ filter (λ d. not (is_among (c ∷ []) d)) p.nodes.live → new.nodes.reserved ≡ p.nodes.reserved → HasMoved old new a.leaf a.user (use_alone c.resource) (zero_count K)
    less_used new change live reserved =
        gives old new a.leaf a.user c.resource short (λ test. ap (count_of test) change.active ∙ count_changed change.change change.keeps test p.apps.table.active)
        (λ test k b.
        let e = ended_amount old Cause.Released c h.numbers there test k b in
        let same : amount (used_by new test) k ≡ amount (used_by ended test) k = ap (λ v. amount v k)
        (same_use ended new (record {
          live = live;
          reserved = reserved;
          apps = λ app node s. change_stands old new change app ∙ sym (change_stands old ended (ends_change Cause.Released (c ∷ []) old ended refl refl) app);
        }) test) in
        let own : cond (counts test (app_at old c.app)) (amount c.resource k) 0 ≡ count_where (test a.leaf a.user) (use_alone c.resource) (Measure.uses k) = ap (λ o. cond (counts test o) (amount c.resource k) 0) owner in
        omega (arith, e, same, own))

    -- its user may give back what it has
    pub may_give_back : MayGive c.resource (user_row_at (position_of a.number p.apps.accounts) a.user p.rows)
    may_give_back =
        let at = row_at p.rows a.leaf (position_of a.number p.apps.accounts) placed.position in
        may_give old ended a.leaf a.user (use_alone c.resource) (zero_count K) (less_used ended (ends_change Cause.Released (c ∷ []) old ended refl refl) refl refl) some_active p.rows h.tied (position_of a.number p.apps.accounts) at.row at.member at.path_is at.item_is

    -- after it has ended, and its application is to be told of it
    pub held_ended : (apps' : HeldApps) (nodes' : NodeTable) (n : ℕ) (end : End) → nodes' ≡ complete (c ∷ []) p.nodes → n ≡ c.app → apps'.table ≡ change_app n (λ app. record app { ends = app.ends ++ end ∷ [] }) p.apps.table →
        UsesRoom n 0 0 1 p.apps.accounts apps'.accounts → AreConsistent (record p { rows = map (lowered_row K a.leaf a.user c.resource) p.rows; apps = apps'; nodes = nodes' })
    held_ended apps' nodes' n end lift same tell room =
        let q : Parts K = record p { rows = map (lowered_row K a.leaf a.user c.resource) p.rows; apps = apps'; nodes = nodes' } in
        let f : App → App = λ app. if app.number == n then record app { ends = app.ends ++ end ∷ [] } else app in
        let keeps : KeepsApp f = only_app n (λ app. record app { ends = app.ends ++ end ∷ [] }) (record { number = λ x. refl; leaf = λ x. refl; user = λ x. refl }) in
        let active : apps'.table.active ≡ map f p.apps.table.active = ap (λ (t : AppTable). t.active) tell in
        let live : nodes'.live ≡ filter (λ d. not (is_among (c ∷ []) d)) p.nodes.live = ap (λ (t : NodeTable). t.live) lift in
        let change : AppsChange old (flat_of q) = record { change = f; keeps = keeps; active = active; next = ap (λ (t : AppTable). t.next) tell } in
        let settings : (flat_of q).settings.queues ≡ old.settings.queues = moved_settings K a.leaf a.user (use_alone c.resource) (zero_count K) p.rows in
        record {
          tied = tied_moved old (flat_of q) a.leaf a.user (use_alone c.resource) (zero_count K) (less_used (flat_of q) change live (ap (λ (t : NodeTable). t.reserved) lift)) p.rows h.tied;
          placed =
              of_each (IsInLeaf q) apps'.table.active
              (λ x m.
              let w = of_map f p.apps.table.active x (subst (λ xs. IsIn x xs) active m) in
              still_placed p q (λ path l. leaf_same old (flat_of q) path settings l)
              (moved_stays K a.leaf a.user (use_alone c.resource) (zero_count K) p.rows)
              x (w.0) (ap (λ (y : App). y.leaf) (sym (w.2)) ∙ keeps.leaf (w.0)) (ap (λ (y : App). y.number) (sym (w.2)) ∙ keeps.number (w.0)) (room.positions (w.0).number) (each_of (IsInLeaf p) p.apps.table.active h.placed (w.0) (w.1)));
          counted = λ m. (let r = h.counted m in let e = room.live m in let w = count_left nodes' live m in let t : weight (c.app == m) ≡ weight (m == n) = ap weight (numbers_turned c.app m) ∙ ap (λ k. weight (m == k)) (sym same) in let z = none_where (m == n) in omega (arith, r, e, w, t, z));
          owned = owned_stands (λ (c : Container). c.app) p.nodes.live nodes'.live old (flat_of q) (change_stands old (flat_of q) change) (λ d i. (of_filter (λ x. not (is_among (c ∷ []) x)) p.nodes.live d (subst (IsIn d) live i)).1) h.owned;
          reserved = owned_stands (λ (r : Reservation). r.app) p.nodes.reserved nodes'.reserved old (flat_of q) (change_stands old (flat_of q) change) (λ r i. subst (IsIn r) (ap (λ (t : NodeTable). t.reserved) lift) i) h.reserved;
          reservations = subst (λ (t : NodeTable). AreReserved t.present t.reserved) (sym lift) h.reservations;
          numbers = rw (lift) (rising_kept (λ (z : Container). z.number) (λ d. not (is_among (c ∷ []) d)) 1 p.nodes.live p.nodes.next_container h.numbers);
          limit = h.limit;
          few = (let w = h.few in let k = ap length active in let l = length-map p.apps.table.active f in omega (arith, w, k, l));
          few_live = (let w = h.few_live in let k = ap length live in let l = length-filter (λ d. not (is_among (c ∷ []) d)) p.nodes.live in let m = count_by-le-length (λ d. not (is_among (c ∷ []) d)) p.nodes.live in omega (arith, w, k, l, m));
          resources = h.resources;
        }
      where
        none_where : (b : Bool) → (if b then 0 else 0) ≡ (let k : ℕ = 0 in k)
        none_where true = refl
        none_where false = refl

        count_left : (nodes' : NodeTable) → nodes'.live ≡ filter (λ d. not (is_among (c ∷ []) d)) p.nodes.live → (m : ℕ) → count_for m p.nodes.live ≡ count_for m nodes'.live + weight (c.app == m)
        count_left nodes' live m =
            let w = sum_without (λ (d : Container). cond (d.app == m) 1 0) 1 p.nodes.live p.nodes.next_container c h.numbers there in
            let left : count_for m nodes'.live ≡ count_for m (filter (λ d. not (is_among (c ∷ []) d)) p.nodes.live) = ap (count_for m) live in
            omega (arith, w, left, count_sum (λ (d : Container). d.app == m) p.nodes.live, count_sum (λ (d : Container). d.app == m) (filter (λ d. not (is_among (c ∷ []) d)) p.nodes.live))

  -- the cluster after it
  pub ended_is : (cause : Cause) (rows' : List Row) (table' : AppTable) (nodes' : NodeTable) (n : ℕ) → queues_of rows' ≡ queues_of p.rows → nodes' ≡ complete (c ∷ []) p.nodes → n ≡ c.app →
      table' ≡ change_app n (λ app. record app { ends = app.ends ++ record { container = number; cause = cause } ∷ [] }) p.apps.table →
      record { settings = record old.settings { queues = queues_of rows' }; apps = table'; nodes = nodes' } ≡ after_ends cause (c ∷ []) old
  ended_is cause rows' table' nodes' n same lift own tell =
      ap (λ t. made (queues_of rows') t nodes') (tell ∙ (λ i. change_app (own i) (λ app. record app { ends = app.ends ++ record { container = sym number_is i; cause = cause } ∷ [] }) p.apps.table))
      ∙ ap (λ qs. made qs (change_app c.app (λ app. record app { ends = app.ends ++ record { container = c.number; cause = cause } ∷ [] }) p.apps.table) nodes') same
      ∙ ap (λ active. made (queues_of p.rows) (record p.apps.table { active = active }) nodes') (told_all cause c p.apps.table.active)
      ∙ ap (λ t. made (queues_of p.rows) (record p.apps.table { active = map (with_ends cause (c ∷ [])) p.apps.table.active }) t) lift
    where
      made : List QueueRow → AppTable → NodeTable → Flat K
      made qs t n = record { settings = record old.settings { queues = qs }; apps = t; nodes = n }
