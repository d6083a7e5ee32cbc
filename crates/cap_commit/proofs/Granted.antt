-- A cluster after a grant: what it keeps, and that its use is a sum.
use Rattle.cap_commit.proofs.Prelude.{◌≡◌, ℕ, ◌+◌, ◌<◌, ◌≤◌, Bool, true, false, cond, List, [], ◌∷◌, ◌++◌, length, length-append, map, Some, None, refl, sym, ◌∙◌, ap, subst, inl, inr, arith, Option, IsSome, not, ◌==◌, find, filter, if◌then◌else◌, sum_by, cases_lt, nat_tests, get_or_past, length-map, sum_by_push, sum_by-le-sum_by, bytes_eq-Decides, IsWithin, amount, amount_max, amounts_exchanged, sum_max, amount-exchanged, holds_of, fits, part, Flat, App, AppTable, ClusterNode, Container, NodeTable, Reservation, app_at, change_app, node_in, Grant, Key, ProposalKind, sight_of, NodeProposal, is_grant, reason_of, after_grant, launch, news_of, take_one, sum_of_totals, held_on, IsIn, each_of, of_each, found, of_filter, of_map, in_either, found_by_number, rising_more, part_filter, not_none, value_of, numbers_turned, change_stands, AppsChange, KeepsApp, grant_change, only_app, counts, counted, use_amount, amount_of, fits_amounts, count_changed, count_of, length_used, used_by, if_less, on_some_node, reserved_on_nodes, sum_below, taken, Measure, MayGive, use_alone, Row, applied_row, queues_of, root_use, user_row_at, Account, HasRooms, HeldApps, UsesRoom, live_of, position_of, IsSound, AreReserved, fits_its_node, Parts, AreConsistent, IsInLeaf, IsRowOf, flat_of, of_cluster, taken_back, count_positive, its_node_there, part_reserved}
use Rattle.cap_commit.proofs.Granting.{grants}
use Rattle.cap_commit.proofs.Holding.{leaf_same, still_placed}
use Rattle.cap_commit.proofs.Moving.{HasMoved, may_give, moved_settings, moved_stays, tied_moved}
use Rattle.cap_commit.proofs.Owning.{count_for, live_kept, owned_stands}
use Rattle.cap_commit.proofs.RowsAt.{row_at}
use Rattle.cap_commit.proofs.Ties.{in_queue, of_user_in}

module _ (K : ℕ) (t : NodeTable) (s : IsSound K t) where
  node_of : (n : ℕ) → IsSome (node_in t n) → (x : ClusterNode) × IsIn x t.present × (x.number ≡ n)
  node_of n i =
      let v = value_of (node_in t n) i in
      let f = found (λ (x : ClusterNode). x.number == n) t.present (v.0) (v.1) in
      (v.0, f.0, (let e = f.1 in grind (arith, nat_tests, e)))

  totals_amount : (k : ℕ) → k < K → amount (sum_of_totals K t.present) k ≡ sum_by (λ (x : ClusterNode). amount x.total k) t.present
  totals_amount k b = amount_of K (part (λ (x : ClusterNode). true) (λ x. x.total) t.present) k b

  -- what is live on all nodes is no more than they have
  pub live_few : (k : ℕ) → k < K → sum_by (λ (c : Container). amount c.resource k) t.live ≤ amount_max
  live_few k b =
      let spread = on_some_node k t.present t.live (λ c m. node_of c.node (each_of (λ (x : Container). IsSome (node_in t x.node)) t.live s.homes c m)) in
      let each = sum_below (λ (x : ClusterNode). sum_by (λ (c : Container). if c.node == x.number then amount c.resource k else 0) t.live) (λ x. amount x.total k) t.present
      (λ x m.
      let on = amount_of K (part (λ (c : Container). c.node == x.number) (λ c. c.resource) t.live) k b in
      let f = fits_amounts (held_on K t x.number) x.total (each_of (λ (y : ClusterNode). fits (held_on K t y.number) y.total ≡ true) t.present s.held x m) k in
      omega (arith, on, f)) in
      let total = totals_amount k b in
      let most = s.totals k in
      omega (arith, spread, each, total, most)

  -- and so is what is reserved
  pub reserved_few : (rs : List Reservation) → AreReserved t.present rs → (k : ℕ) → k < K → sum_by (λ (r : Reservation). amount r.resource k) rs ≤ amount_max
  reserved_few rs a k b =
      let spread = reserved_on_nodes k t.present rs a.apart (λ r m. node_of r.node (its_node_there t.present r (each_of (λ x. fits_its_node t.present x ≡ true) rs a.fit r m))) in
      let each = sum_below (λ (x : ClusterNode). taken k (find (λ (r : Reservation). r.node == x.number) rs)) (λ x. amount x.total k) t.present (λ x m. less x m (find (λ (r : Reservation). r.node == x.number) rs) refl) in
      let total = totals_amount k b in
      let most = s.totals k in
      omega (arith, spread, each, total, most)
    where
      less : (x : ClusterNode) → IsIn x t.present → (o : Option Reservation) → find (λ (r : Reservation). r.node == x.number) rs ≡ o → taken k o ≤ amount x.total k
      less x m None e = omega arith
      less x m (Some r) e =
          let f = found (λ (y : Reservation). y.node == x.number) rs r e in
          let number : r.node ≡ x.number = (let g = f.1 in grind (arith, nat_tests, g)) in
          let at : node_in t r.node ≡ Some x = ap (node_in t) number ∙ found_by_number (λ (y : ClusterNode). y.number) 1 t.present t.next_node x s.rising m in
          let fit : fits r.resource x.total ≡ true = ap (holds_of (λ (node : ClusterNode). fits r.resource node.total)) (sym at) ∙ each_of (λ y. fits_its_node t.present y ≡ true) rs a.fit r (f.0) in
          fits_amounts r.resource x.total fit k

-- one, where it counts
abbrev weight : Bool → ℕ
weight b = if b then 1 else 0

-- the container that is granted, and the nodes with it
abbrev pub granted_of : NodeTable → NodeProposal → Container
granted_of t q = record { number = t.next_container; app = q.app; key = q.key; node = q.node; resource = q.resource }

abbrev pub nodes_with : NodeTable → ℕ → Key → ℕ → List ℕ → NodeTable
nodes_with t app key node resource = record (launch (record { number = t.next_container; app = app; key = key; node = node; resource = resource }) t) { reserved = filter (λ (r : Reservation). not (r.node == node)) t.reserved }

-- a node that is there is found
pub found_again : (xs ys : List ClusterNode) (n m : ℕ) → xs ≡ ys → n ≡ m → None ≡ find (λ x. x.number == n) xs → IsSome (find (λ x. x.number == m) ys) → ⊥
found_again xs ys n m e f none there = not_none (find (λ (x : ClusterNode). x.number == m) ys) ((λ i. find (λ (x : ClusterNode). x.number == sym f i) (sym e i)) ∙ sym none) there

pub app_again : (xs : List App) (n m : ℕ) → n ≡ m → None ≡ find (λ x. x.number == n) xs → IsSome (find (λ x. x.number == m) xs) → ⊥
app_again xs n m f none there = not_none (find (λ (x : App). x.number == m) xs) ((λ i. find (λ (x : App). x.number == sym f i) xs) ∙ sym none) there

pub kind_is : (k : ProposalKind) → is_grant k ≡ true → ProposalKind.Grant ≡ k
kind_is ProposalKind.Grant e = refl
kind_is ProposalKind.Reserve e = absurd (cc e)

-- the room for a grant stays where an ask is counted down
pub room_stays : (n : ℕ) (old new : List (ℕ × Account)) → UsesRoom n 0 0 0 old new → HasRooms n 0 1 (live_of n old + 1) old → HasRooms n 0 1 (live_of n new + 1) new
room_stays n old new u r =
    let l = live_kept n 0 old new u n in
    let x = u.grants n in
    let y = u.ends n in
    let z = none_taken (n == n) in
    let v = r.grants in
    let w = r.ends in
    record { asks = omega arith; grants = omega (arith, x, z, v); ends = omega (arith, y, z, w, l) }
  where
    none_taken : (b : Bool) → (if b then 0 else 0) ≡ (let k : ℕ = 0 in k)
    none_taken true = refl
    none_taken false = refl

-- two changes of one application are one
twice_changed : (n : ℕ) (f g : App → App) → ((x : App) → (f x).number ≡ x.number) → (apps : List App) →
    map (λ app. if app.number == n then g app else app) (map (λ app. if app.number == n then f app else app) apps) ≡ map (λ app. if app.number == n then g (f app) else app) apps
twice_changed n f g same [] = refl
twice_changed n f g same (x ∷ apps) = λ i. here (x.number == n) refl i ∷ twice_changed n f g same apps i
  where
    here : (b : Bool) → x.number == n ≡ b → (let y = cond b (f x) x in cond (y.number == n) (g y) y) ≡ cond b (g (f x)) x
    here true e = ap (λ m. cond (m == n) (g (f x)) (f x)) (same x) ∙ ap (λ c. cond c (g (f x)) (f x)) e
    here false e = ap (λ c. cond c (g x) x) e

-- the table after an ask was counted down and a grant waits
pub granted_table : {K : ℕ} (p : Parts K) (q : NodeProposal) (taken_apps apps' : HeldApps) (g : Grant) → taken_apps.table ≡ change_app q.app (λ app. record app { asks = take_one q.key app.asks }) p.apps.table →
    apps'.table ≡ change_app q.app (λ app. record app { grants = app.grants ++ g ∷ [] }) taken_apps.table → apps'.table ≡ change_app q.app (λ app. record app { asks = take_one q.key app.asks; grants = app.grants ++ g ∷ [] }) p.apps.table
granted_table p q taken_apps apps' g take add =
    add ∙ ap (change_app q.app (λ (app : App). record app { grants = app.grants ++ g ∷ [] })) take
    ∙ ap (λ xs. record p.apps.table { active = xs }) (twice_changed q.app (λ app. record app { asks = take_one q.key app.asks }) (λ app. record app { grants = app.grants ++ g ∷ [] }) (λ x. refl) p.apps.table.active)

module _ {K : ℕ} (p : Parts K) (h : AreConsistent p) (q : NodeProposal) (passes : reason_of (sight_of (flat_of p)) q ≡ None) (kind : is_grant q.kind ≡ true)
    (a : App) (owner : find (λ (x : App). x.number == q.app) p.apps.table.active ≡ Some a) (short : length (taken_back (sight_of (flat_of p)) q) ≤ K) (count : length q.resource ≡ K) where
  abbrev old : Flat K
  old = flat_of p

  abbrev back : List ℕ
  back = taken_back (sight_of old) q

  abbrev granted : Container
  granted = granted_of p.nodes q

  abbrev nodes_after : NodeTable
  nodes_after = nodes_with p.nodes q.app q.key q.node q.resource

  moved_to : (new : Flat K) → AppsChange old new → new.nodes.live ≡ p.nodes.live ++ granted ∷ [] → new.nodes.reserved ≡ filter (λ (r : Reservation). not (r.node == q.node)) p.nodes.reserved →
      HasMoved old new a.leaf a.user (use_alone back) (use_alone q.resource)
  moved_to new change live reserved =
      grants p h q passes kind a owner short count granted refl refl new (change_stands old new change) (λ test. ap (count_of test) change.active ∙ count_changed change.change change.keeps test p.apps.table.active) live reserved

  member : IsIn a p.apps.table.active
  member = (found (λ (x : App). x.number == q.app) p.apps.table.active a owner).0

  some_active : 1 ≤ of_cluster old a.leaf a.user Measure.active
  some_active = count_positive (of_user_in a.leaf a.user) p.apps.table.active a member (rw ((bytes_eq-Decides a.leaf a.leaf).1 refl, (bytes_eq-Decides a.user a.user).1 refl) refl)

  placed : IsInLeaf p a
  placed = each_of (IsInLeaf p) p.apps.table.active h.placed a member

  -- its user may give back what is converted
  pub may_take_back : MayGive back (user_row_at (position_of a.number p.apps.accounts) a.user p.rows)
  may_take_back =
      let at = row_at p.rows a.leaf (position_of a.number p.apps.accounts) placed.position in
      may_give old (after_grant old granted) a.leaf a.user (use_alone back) (use_alone q.resource) (moved_to (after_grant old granted) (grant_change old granted) refl refl) some_active p.rows h.tied (position_of a.number p.apps.accounts) at.row at.member at.path_is at.item_is

  -- the new use of the root is a sum
  pub root_stays : IsSound K nodes_after → IsWithin sum_max (amounts_exchanged back q.resource (root_use p.rows))
  root_stays sound k = elim (cases_lt k K) [
    | inl b ↦ below b
    | inr past ↦
        let e = amount-exchanged back q.resource (root_use p.rows) k in
        let r : amount q.resource k ≡ 0 = get_or_past q.resource k 0 (omega (arith, past, count)) in
        let u = past_root past p.rows (λ r m. m) in
        omega (arith, e, r, u)
  ]
    where
      tied_row : (r : Row) → IsIn r p.rows → r.item.used ≡ used_by old (in_queue r.path)
      tied_row r m = (each_of (IsRowOf old) p.rows h.tied r m).used

      past_root : K ≤ k → (rows : List Row) → ((r : Row) → IsIn r rows → IsIn r p.rows) → amount (root_use rows) k ≡ 0
      past_root past [] f = refl
      past_root past (r ∷ rows) f = ap (λ v. amount v k) (tied_row r (f r (inl refl))) ∙ get_or_past (used_by old (in_queue r.path)) k 0 (let l = length_used old (in_queue r.path) in omega (arith, past, l))

      all_live : ℕ
      all_live = sum_by (λ (c : Container). amount c.resource k) p.nodes.live

      all_reserved : ℕ
      all_reserved = sum_by (λ (r : Reservation). amount r.resource k) p.nodes.reserved

      few_at_root : k < K → (rows : List Row) → ((r : Row) → IsIn r rows → IsIn r p.rows) → amount (root_use rows) k ≤ all_live + all_reserved
      few_at_root b [] f = omega arith
      few_at_root b (r ∷ rows) f =
          let e = ap (λ v. amount v k) (tied_row r (f r (inl refl))) in
          let w = use_amount old (in_queue r.path) k b in
          let x = sum_by-le-sum_by (λ (c : Container). counted old (in_queue r.path) k c.app c.resource) (λ c. amount c.resource k) p.nodes.live (λ c. if_less (counts (in_queue r.path) (app_at old c.app)) (amount c.resource k)) in
          let y = sum_by-le-sum_by (λ (c : Reservation). counted old (in_queue r.path) k c.app c.resource) (λ c. amount c.resource k) p.nodes.reserved (λ c. if_less (counts (in_queue r.path) (app_at old c.app)) (amount c.resource k)) in
          omega (arith, e, w, x, y)

      below : k < K → amount (amounts_exchanged back q.resource (root_use p.rows)) k ≤ sum_max
      below b =
          let e = amount-exchanged back q.resource (root_use p.rows) k in
          let f = few_at_root b p.rows (λ r m. m) in
          let l = live_few K nodes_after sound k b in
          let more = sum_by_push (λ (c : Container). amount c.resource k) p.nodes.live granted in
          let r = reserved_few K nodes_after sound p.nodes.reserved h.reservations k b in
          omega (arith, e, f, l, more, r)

  -- what the cluster keeps after it
  module _ (taken_apps apps' : HeldApps) (g : Grant) (take : taken_apps.table ≡ change_app q.app (λ app. record app { asks = take_one q.key app.asks }) p.apps.table)
      (add : apps'.table ≡ change_app q.app (λ app. record app { grants = app.grants ++ g ∷ [] }) taken_apps.table)
      (same_room : UsesRoom q.app 0 0 0 p.apps.accounts taken_apps.accounts) (room : UsesRoom q.app 0 1 0 taken_apps.accounts apps'.accounts) where
    abbrev change_of : App → App
    change_of app = if app.number == q.app then record app { asks = take_one q.key app.asks; grants = app.grants ++ g ∷ [] } else app

    keeps : KeepsApp change_of
    keeps = only_app q.app (λ app. record app { asks = take_one q.key app.asks; grants = app.grants ++ g ∷ [] }) (record { number = λ x. refl; leaf = λ x. refl; user = λ x. refl })

    active : apps'.table.active ≡ map change_of p.apps.table.active
    active =
        ap (λ (t : AppTable). t.active) add
        ∙ ap (λ (t : AppTable). map (λ (app : App). if app.number == q.app then record app { grants = app.grants ++ g ∷ [] } else app) t.active) take
        ∙ twice_changed q.app (λ app. record app { asks = take_one q.key app.asks }) (λ app. record app { grants = app.grants ++ g ∷ [] }) (λ x. refl) p.apps.table.active

    next : apps'.table.next ≡ p.apps.table.next
    next = ap (λ (t : AppTable). t.next) add ∙ ap (λ (t : AppTable). t.next) take

    abbrev after : Parts K
    after = record p { rows = map (applied_row K a.leaf a.user back q.resource) p.rows; apps = apps'; nodes = nodes_after }

    change : AppsChange old (flat_of after)
    change = record { change = change_of; keeps = keeps; active = active; next = next }

    settings : (flat_of after).settings.queues ≡ old.settings.queues
    settings = moved_settings K a.leaf a.user (use_alone back) (use_alone q.resource) p.rows

    -- the cluster after it
    pub granted_is : (rows' : List Row) → queues_of rows' ≡ queues_of p.rows → g ≡ news_of old granted → flat_of (record p { rows = rows'; apps = apps'; nodes = nodes_after }) ≡ after_grant old granted
    granted_is rows' same told =
        (λ i. record { settings = record old.settings { queues = same i }; apps = record { active = active i; next = next i }; nodes = nodes_after })
        ∙ ap (λ (x : Grant). made (map (λ (app : App). if app.number == q.app then record app { asks = take_one q.key app.asks; grants = app.grants ++ x ∷ [] } else app) p.apps.table.active)) told
      where
        made : List App → Flat K
        made apps = record { settings = old.settings; apps = record p.apps.table { active = apps }; nodes = nodes_after }

    pub held_granted : AreConsistent (record p { rows = map (applied_row K a.leaf a.user back q.resource) p.rows; apps = apps'; nodes = nodes_after })
    held_granted = record {
      tied = tied_moved old (flat_of after) a.leaf a.user (use_alone back) (use_alone q.resource) (moved_to (flat_of after) change refl refl) p.rows h.tied;
      placed =
          of_each (IsInLeaf after) apps'.table.active
          (λ x m.
          let w = of_map change_of p.apps.table.active x (subst (λ xs. IsIn x xs) active m) in
          still_placed p after (λ path l. leaf_same old (flat_of after) path settings l)
          (moved_stays K a.leaf a.user (use_alone back) (use_alone q.resource) p.rows)
          x (w.0) (ap (λ (y : App). y.leaf) (sym (w.2)) ∙ keeps.leaf (w.0)) (ap (λ (y : App). y.number) (sym (w.2)) ∙ keeps.number (w.0)) (room.positions (w.0).number ∙ same_room.positions (w.0).number) (each_of (IsInLeaf p) p.apps.table.active h.placed (w.0) (w.1)));
      counted = λ m. counts_more m (m == q.app) refl;
      owned = of_each (λ (c : Container). IsSome (app_at (flat_of after) c.app)) nodes_after.live (λ c m. elim (in_either c p.nodes.live (granted ∷ []) m) [
        | inl i ↦ each_of (λ (d : Container). IsSome (app_at (flat_of after) d.app)) p.nodes.live (owned_stands (λ (d : Container). d.app) p.nodes.live p.nodes.live old (flat_of after) (change_stands old (flat_of after) change) (λ d j. j) h.owned) c i
        | inr (inl e) ↦ subst (λ (d : Container). IsSome (app_at (flat_of after) d.app)) e (owner_stays (app_at (flat_of after) q.app) (change_stands old (flat_of after) change q.app))
        | inr (inr none) ↦ absurd none
      ]);
      reserved = owned_stands (λ (r : Reservation). r.app) p.nodes.reserved nodes_after.reserved old (flat_of after) (change_stands old (flat_of after) change) (λ r m. (of_filter (λ (x : Reservation). not (x.node == q.node)) p.nodes.reserved r m).1) h.reserved;
      reservations = part_reserved p.nodes.present p.nodes.reserved nodes_after.reserved (part_filter (λ (x : Reservation). not (x.node == q.node)) p.nodes.reserved) h.reservations;
      numbers = rising_more (λ (c : Container). c.number) 1 p.nodes.live granted p.nodes.next_container refl h.numbers;
      limit = h.limit;
      few = (let w = h.few in let k = ap length active in let l = length-map p.apps.table.active change_of in omega (arith, w, k, l));
      few_live = (let l = length-append p.nodes.live (granted ∷ []) in let f = Rattle.cap_commit.proofs.Granting.few_live_yet p h q passes kind in omega (arith, l, f));
      resources = h.resources;
    }
      where
        owner_stays : (o : Option App) → Rattle.cap_model.proofs.uses.Measures.standing o ≡ Rattle.cap_model.proofs.uses.Measures.standing (app_at old q.app) → IsSome o
        owner_stays (Some x) e = refl
        owner_stays None e = absurd (let f = ap Rattle.cap_model.proofs.uses.Measures.standing owner in cc (e, f))

        no_more : (b : Bool) → (if b then 0 else 0) ≡ (let n : ℕ = 0 in n)
        no_more true = refl
        no_more false = refl

        counts_more : (m : ℕ) (b : Bool) → m == q.app ≡ b → live_of m apps'.accounts ≡ count_for m nodes_after.live
        counts_more m b e =
            let r = h.counted m in
            let x = same_room.live m in
            let y = room.live m in
            let push = sum_by_push (λ (c : Container). cond (c.app == m) 1 0) p.nodes.live granted in
            let t : weight (q.app == m) ≡ weight (m == q.app) = ap weight (numbers_turned q.app m) in
            let z = no_more (m == q.app) in
            omega (arith, r, x, y, push, t, z)
