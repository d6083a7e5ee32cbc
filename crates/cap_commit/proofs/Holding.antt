-- What a cluster keeps, after the changes that calls make.
use Rattle.cap_commit.proofs.Prelude.{◌≡◌, ℕ, ◌≤◌, Bool, true, false, cond, List, [], ◌∷◌, ◌++◌, length, map, Some, None, refl, sym, ◌∙◌, ap, subst, inl, inr, arith, ◌==◌, IsSome, not, bytes_eq, nat_eq, find, filter, is_some, if◌then◌else◌, All, list_any, starts_with, option_map_or, not-true, nat_tests, append-nil, length-map, map-id, bytes_eq-Decides, amount, applications_max, resources_max, QueueRow, Flat, App, AppTable, Container, NodeTable, app_at, with_reserved, containers_of, change_app, Reservation, Cause, container_numbers, after_ends, with_ends, without_containers, after_finish_master, remove_app, submit_refusal, new_app, add_app, IsLeaf, IsRising, IsIn, found, in_either, of_filter, each_of, of_each, of_map, filter_none, length-kept, find_others, find_with_more, rising_to_high, one_where, IsSite, change_stands, counts, KeepsApp, AppsChange, only_app, may_enter, unrefused_leaf, HoldsSame, count_of, count_changed, same_use, change_holds, coming_holds, going_holds, Measure, IsUnused, MayLeave, amount-zeros, zero_count, one_app, Row, IsAt, entered_row, left_row, queues_of, user_row_at, any_kept, path_kept, Account, HeldApp, HeldApps, UsesRoom, IsEntered, IsLeft, account_of, live_of, position_of, AreReserved, Parts, AreConsistent, IsInLeaf, flat_of, of_cluster, count_entered, count_without, only_one, unused, none_reserved_yet, Limits}
use Rattle.std.proofs.lemmas.List.{length-append}
use Rattle.cap_commit.proofs.Owning.{IsOwned, IsReservedFor, count_for, live_kept, none_left, none_of, none_reserved, owned_after, owned_stands, sites_owned}
use Rattle.cap_commit.proofs.RowsAt.{row_at, still_at}
use Rattle.cap_commit.proofs.Moving.{HasOneMore, enters, leaves, may_leave, moved_settings, moved_stays, tied_moved}
use Rattle.cap_commit.proofs.Ties.{ChangesSettings, of_user_in, unused_tied, tied_changed, tied_stays}

-- a change of the queues that keeps their paths keeps which of them are leaves
pub leaf_kept : (f : QueueRow → QueueRow) (p : (q : QueueRow) → (f q).path ≡ q.path) → {K : ℕ} (old new : Flat K) (path : List ℕ) → new.settings.queues ≡ map f old.settings.queues → IsLeaf old path → IsLeaf new path
leaf_kept f p old new path e l = record {
  present = ap (λ qs. is_some (find (λ (r : QueueRow). bytes_eq r.path path) qs)) e ∙ path_kept f p path old.settings.queues ∙ l.present;
  childless = ap (λ qs. list_any (λ (r : QueueRow). starts_with nat_eq r.path (path ++ 46 ∷ [])) qs) e ∙ any_kept f p (λ x. starts_with nat_eq x (path ++ 46 ∷ [])) old.settings.queues ∙ l.childless;
}

pub leaf_same : {K : ℕ} (old new : Flat K) (path : List ℕ) → new.settings.queues ≡ old.settings.queues → IsLeaf old path → IsLeaf new path
leaf_same old new path e l = record {
  present = ap (λ qs. is_some (find (λ (r : QueueRow). bytes_eq r.path path) qs)) e ∙ l.present;
  childless = ap (λ qs. list_any (λ (r : QueueRow). starts_with nat_eq r.path (path ++ 46 ∷ [])) qs) e ∙ l.childless;
}

-- the flat cluster of other queues and applications
pub with_queues : {K : ℕ} (p : Parts K) (rows' : List Row) (queues : List QueueRow) → queues_of rows' ≡ queues → flat_of (record p { rows = rows' }) ≡ record (flat_of p) { settings = record (flat_of p).settings { queues = queues } }
with_queues p rows' queues e = ap (λ qs. record (flat_of p) { settings = record (flat_of p).settings { queues = qs } }) e

pub with_table : {K : ℕ} (p : Parts K) (rows' : List Row) (apps' : HeldApps) (table : AppTable) → queues_of rows' ≡ queues_of p.rows → apps'.table ≡ table → flat_of (record p { rows = rows'; apps = apps' }) ≡ record (flat_of p) { apps = table }
with_table p rows' apps' table e f = λ i. record (flat_of p) { settings = record (flat_of p).settings { queues = e i }; apps = f i }

-- what is kept

-- an application stays where it is
pub still_placed : {K : ℕ} (old new : Parts K) → ((path : List ℕ) → IsLeaf (flat_of old) path → IsLeaf (flat_of new) path) → ((path position : List ℕ) → IsAt old.rows path position → IsAt new.rows path position) →
    (x y : App) → x.leaf ≡ y.leaf → x.number ≡ y.number → position_of y.number new.apps.accounts ≡ position_of y.number old.apps.accounts → IsInLeaf old y → IsInLeaf new x
still_placed old new leaf at x y same number position h = record {
  leaf = rw same (leaf y.leaf h.leaf);
  position = rw (same, number, position) (at y.leaf (position_of y.number old.apps.accounts) h.position);
}

module _ {K : ℕ} where
  -- a cluster that was opened just now
  pub held_opened : (p : Parts K) → p.apps.table.active ≡ [] → p.apps.accounts ≡ [] → p.nodes.live ≡ [] → p.nodes.reserved ≡ [] → 1 ≤ p.nodes.next_container → All (λ r. IsUnused K r.item) p.rows →
      p.limits.application_limit ≤ applications_max → K ≤ resources_max → AreConsistent p
  held_opened p none accounts live reserved first unused l k =
      record {
        tied = unused_tied (flat_of p) p.rows none live reserved unused;
        placed = of_each (IsInLeaf p) p.apps.table.active (λ a m. absurd (subst (λ xs. IsIn a xs) none m));
        counted = λ n. ap (live_of n) accounts ∙ sym (ap (count_for n) live);
        owned = of_each (IsOwned (flat_of p)) p.nodes.live (λ c m. absurd (subst (λ xs. IsIn c xs) live m));
        numbers = subst (λ cs. IsRising 1 (container_numbers cs) p.nodes.next_container) (sym live) first;
        limit = l;
        few = (let n = ap length none in omega (arith, n));
        few_live = (let n = ap length live in omega (arith, n));
        reserved = of_each (IsReservedFor (flat_of p)) p.nodes.reserved (λ r m. absurd (subst (λ xs. IsIn r xs) reserved m));
        reservations = none_reserved_yet p.nodes.present p.nodes.reserved reserved;
        resources = k;
      }

  module _ (p : Parts K) (h : AreConsistent p) where
    abbrev old : Flat K
    old = flat_of p

    owners : (app node : ℕ) → IsSite old app node → IsSome (app_at old app)
    owners = sites_owned old h.owned h.reserved

    -- after a change of the nodes that keeps what is live
    pub held_nodes : (nodes' : NodeTable) → nodes'.live ≡ p.nodes.live → nodes'.reserved ≡ p.nodes.reserved → nodes'.next_container ≡ p.nodes.next_container →
        AreReserved nodes'.present nodes'.reserved → AreConsistent (record p { nodes = nodes' })
    held_nodes nodes' live reserved next fit =
        let q : Parts K = record p { nodes = nodes' } in
        record {
          tied = tied_stays old (flat_of q) (record { counts = λ t. refl; uses = same_use old (flat_of q) (record { live = live; reserved = reserved; apps = λ app node s. refl }) }) p.rows h.tied;
          placed = of_each (IsInLeaf q) p.apps.table.active (λ a m. still_placed p q (λ path l. leaf_same old (flat_of q) path refl l) (λ path at i. i) a a refl refl refl (each_of (IsInLeaf p) p.apps.table.active h.placed a m));
          counted = λ n. h.counted n ∙ sym (ap (count_for n) live);
          owned = owned_stands (λ (c : Container). c.app) p.nodes.live nodes'.live old (flat_of q) (λ n. refl) (λ c i. subst (IsIn c) live i) h.owned;
          reserved = owned_stands (λ (r : Reservation). r.app) p.nodes.reserved nodes'.reserved old (flat_of q) (λ n. refl) (λ r i. subst (IsIn r) reserved i) h.reserved;
          reservations = fit;
          numbers = rw (live, next) h.numbers;
          limit = h.limit;
          few = h.few;
          few_live = (let f = h.few_live in let n = ap length live in omega (arith, f, n));
          resources = h.resources;
        }

    -- after a change of applications that keeps what they are, and what is live
    pub held_apps : (apps' : HeldApps) (f : App → App) → KeepsApp f → apps'.table.active ≡ map f p.apps.table.active → apps'.table.next ≡ p.apps.table.next →
        ((n : ℕ) → position_of n apps'.accounts ≡ position_of n p.apps.accounts) → ((n : ℕ) → live_of n apps'.accounts ≡ live_of n p.apps.accounts) → AreConsistent (record p { apps = apps' })
    held_apps apps' f k e next positions live =
        let q : Parts K = record p { apps = apps' } in
        let change : AppsChange old (flat_of q) = record { change = f; keeps = k; active = e; next = next } in
        record {
          tied = tied_stays old (flat_of q) (record { counts = λ t. ap (count_of t) e ∙ count_changed f k t p.apps.table.active; uses = same_use old (flat_of q) (change_holds old (flat_of q) change refl refl) }) p.rows h.tied;
          placed =
              of_each (IsInLeaf q) apps'.table.active
              (λ a m.
              let w = of_map f p.apps.table.active a (subst (λ xs. IsIn a xs) e m) in
              still_placed p q (λ path l. leaf_same old (flat_of q) path refl l) (λ path at i. i) a (w.0) (ap (λ (x : App). x.leaf) (sym (w.2)) ∙ k.leaf (w.0)) (ap (λ (x : App). x.number) (sym (w.2)) ∙ k.number (w.0)) (positions (w.0).number)
              (each_of (IsInLeaf p) p.apps.table.active h.placed (w.0) (w.1)));
          counted = λ n. live n ∙ h.counted n;
          owned = owned_stands (λ (c : Container). c.app) p.nodes.live p.nodes.live old (flat_of q) (change_stands old (flat_of q) change) (λ c i. i) h.owned;
          reserved = owned_stands (λ (r : Reservation). r.app) p.nodes.reserved p.nodes.reserved old (flat_of q) (change_stands old (flat_of q) change) (λ r i. i) h.reserved;
          reservations = h.reservations;
          numbers = h.numbers;
          limit = h.limit;
          few = (let w = h.few in let n = ap length e in let l = length-map p.apps.table.active f in omega (arith, w, n, l));
          few_live = h.few_live;
          resources = h.resources;
        }

    -- after a change of one
    pub held_app : (n asks : ℕ) (apps' : HeldApps) (f : App → App) → KeepsApp f → apps'.table ≡ change_app n f p.apps.table → UsesRoom n asks 0 0 p.apps.accounts apps'.accounts → AreConsistent (record p { apps = apps' })
    held_app n asks apps' f k e room =
        held_apps apps' (λ app. if app.number == n then f app else app) (only_app n f k) (ap (λ (t : AppTable). t.active) e) (ap (λ (t : AppTable). t.next) e) room.positions (live_kept n asks p.apps.accounts apps'.accounts room)

    -- after more room was made
    pub held_room : (n : ℕ) (apps' : HeldApps) → apps'.table ≡ p.apps.table → UsesRoom n 0 0 0 p.apps.accounts apps'.accounts → AreConsistent (record p { apps = apps' })
    held_room n apps' e room =
        held_apps apps' (λ a. a) (record { number = λ a. refl; leaf = λ a. refl; user = λ a. refl }) (ap (λ (t : AppTable). t.active) e ∙ sym (map-id p.apps.table.active)) (ap (λ (t : AppTable). t.next) e) room.positions
        (live_kept n 0 p.apps.accounts apps'.accounts room)

    -- after there is room for one more application
    pub held_same : (apps' : HeldApps) → apps'.table ≡ p.apps.table → apps'.accounts ≡ p.apps.accounts → AreConsistent (record p { apps = apps' })
    held_same apps' e same =
        held_apps apps' (λ a. a) (record { number = λ a. refl; leaf = λ a. refl; user = λ a. refl }) (ap (λ (t : AppTable). t.active) e ∙ sym (map-id p.apps.table.active)) (ap (λ (t : AppTable). t.next) e) (λ n. ap (position_of n) same)
        (λ n. ap (live_of n) same)

    -- after a change of settings
    pub held_settings : (f : Row → Row) (g : QueueRow → QueueRow) (limits' : Limits K) → ChangesSettings f g → limits'.application_limit ≤ applications_max →
        AreConsistent (record p { rows = map f p.rows; limits = limits' })
    held_settings f g limits' k few =
        let q : Parts K = record p { rows = map f p.rows; limits = limits' } in
        record {
          tied = tied_stays old (flat_of q) (record { counts = λ t. refl; uses = same_use old (flat_of q) (record { live = refl; reserved = refl; apps = λ app node s. refl }) }) q.rows (tied_changed f g k old p.rows h.tied);
          placed =
              of_each (IsInLeaf q) p.apps.table.active
              (λ a m.
              still_placed p q (λ x l. leaf_kept g k.same old (flat_of q) x (k.queues p.rows) l) (still_at f k.position k.path p.rows) a a refl refl refl
              (each_of (IsInLeaf p) p.apps.table.active h.placed a m));
          counted = h.counted;
          owned = owned_stands (λ (c : Container). c.app) p.nodes.live p.nodes.live old (flat_of q) (λ n. refl) (λ c i. i) h.owned;
          reserved = owned_stands (λ (r : Reservation). r.app) p.nodes.reserved p.nodes.reserved old (flat_of q) (λ n. refl) (λ r i. i) h.reserved;
          reservations = h.reservations;
          numbers = h.numbers;
          limit = few;
          few = h.few;
          few_live = h.few_live;
          resources = h.resources;
        }

    -- after an application has entered
    pub held_entered : (leaf user position : List ℕ) (apps' : HeldApps) → IsRising 1 (map (λ (x : App). x.number) p.apps.table.active) p.apps.table.next → submit_refusal old leaf ≡ None → IsAt p.rows leaf position → apps'.table ≡ add_app leaf user p.apps.table → IsEntered p.apps.table.next position p.apps.accounts apps'.accounts →
        AreConsistent (record p { rows = map (entered_row K leaf user) p.rows; apps = apps' })
    held_entered leaf user position apps' rising unrefused at e accounts =
        let q : Parts K = record p { rows = map (entered_row K leaf user) p.rows; apps = apps' } in
        let n = p.apps.table.next in
        let a : App = new_app n leaf user in
        let active : apps'.table.active ≡ p.apps.table.active ++ a ∷ [] = ap (λ (t : AppTable). t.active) e in
        let same : (flat_of q).settings.queues ≡ old.settings.queues = moved_settings K leaf user (zero_count K) (one_app K) p.rows in
        let stays : (path position : List ℕ) → IsAt p.rows path position → IsAt q.rows path position = moved_stays K leaf user (zero_count K) (one_app K) p.rows in
        let may = may_enter old leaf unrefused in
        let still : (m : ℕ) → IsSome (app_at old m) → IsSome (app_at (flat_of q) m) = λ m there. subst IsSome (sym (ap (find (λ (x : App). x.number == m)) active ∙ find_with_more (λ (x : App). x.number) m p.apps.table.active (a ∷ []) there)) there in
        let own : position_of n apps'.accounts ≡ position = ap (λ o. option_map_or (λ (x : Account). x.position) o []) accounts.own in
        record {
          tied = tied_moved old (flat_of q) leaf user (zero_count K) (one_app K) (enters old (flat_of q) leaf user (record { counts = λ t. ap (count_of t) active ∙ count_entered t p.apps.table.active a; uses = same_use old (flat_of q) (coming_holds old (flat_of q) a active owners refl refl) })) p.rows h.tied;
          placed =
              of_each (IsInLeaf q) apps'.table.active
              (λ x m. elim (in_either x p.apps.table.active (a ∷ []) (subst (λ xs. IsIn x xs) active m)) [
                | inl there ↦
                    let was = each_of (IsInLeaf p) p.apps.table.active h.placed x there in
                    still_placed p q (λ path l. leaf_same old (flat_of q) path same l) stays x x refl refl (at_other x there) was
                | inr (inl is) ↦ subst (IsInLeaf q) is (record { leaf = leaf_same old (flat_of q) leaf same (unrefused_leaf old leaf unrefused); position = subst (IsAt q.rows leaf) (sym own) (stays leaf position at) })
                | inr (inr none) ↦ absurd none
              ]);
          counted = λ m. live_entered (m == n) m refl;
          owned = owned_after (λ (c : Container). c.app) p.nodes.live p.nodes.live old (flat_of q) still (λ c i. i) h.owned;
          reserved = owned_after (λ (r : Reservation). r.app) p.nodes.reserved p.nodes.reserved old (flat_of q) still (λ r i. i) h.reserved;
          reservations = h.reservations;
          numbers = h.numbers;
          limit = h.limit;
          few = (let f = may.few in let w = h.limit in let k = ap length active in let l = length-append p.apps.table.active (a ∷ []) in omega (arith, f, w, k, l));
          few_live = h.few_live;
          resources = h.resources;
        }
      where
        next : ℕ
        next = p.apps.table.next

        at_other : (x : App) → IsIn x p.apps.table.active → position_of x.number apps'.accounts ≡ position_of x.number p.apps.accounts
        at_other x there =
            let below = rising_to_high (λ (y : App). y.number) 1 p.apps.table.active next x rising there in
            let other : x.number == next ≡ false = grind (arith, nat_tests, below) in
            ap (λ r. option_map_or (λ (c : Account). c.position) r []) (accounts.others x.number other)

        live_entered : (b : Bool) (m : ℕ) → m == next ≡ b → live_of m apps'.accounts ≡ count_for m p.nodes.live
        live_entered false m o = ap (λ r. option_map_or (λ (c : Account). c.live) r 0) (accounts.others m o) ∙ h.counted m
        live_entered true m o =
            let is : m ≡ next = grind (arith, nat_tests, o) in
            rw is
            (ap (λ r. option_map_or (λ (c : Account). c.live) r 0) accounts.own
            ∙ sym (ap (λ r. option_map_or (λ (c : Account). c.live) r 0) accounts.absent)
            ∙ h.counted next)

    -- an application that is active is in a leaf, whose position it knows
    pub placed_at : (n : ℕ) (a : App) → find (λ (x : App). x.number == n) p.apps.table.active ≡ Some a → IsInLeaf p a
    placed_at n a e = each_of (IsInLeaf p) p.apps.table.active h.placed a (found (λ (x : App). x.number == n) p.apps.table.active a e).0

    pub position_is : (n : ℕ) (x : HeldApp) → Some x.app ≡ find (λ (y : App). y.number == n) p.apps.table.active → Some x.account ≡ account_of n p.apps.accounts → x.account.position ≡ position_of x.app.number p.apps.accounts
    position_is n x e f =
        let t = (found (λ (y : App). y.number == n) p.apps.table.active x.app (sym e)).1 in
        let number : x.app.number ≡ n = grind (arith, nat_tests, t) in
        ap (λ o. option_map_or (λ (a : Account). a.position) o []) f ∙ ap (λ k. position_of k p.apps.accounts) (sym number)

    -- an application that has no container goes, after all of its own have ended
    module _ (n : ℕ) (a : App) (rising : IsRising 1 (map (λ (x : App). x.number) p.apps.table.active) p.apps.table.next) (found_it : find (λ (x : App). x.number == n) p.apps.table.active ≡ Some a) (none : containers_of old.nodes n ≡ []) (bare : filter (λ r. r.app == n) p.nodes.reserved ≡ []) where
      abbrev without_it : Flat K
      without_it = record old { apps = remove_app n p.apps.table }

      none_live : count_for n p.nodes.live ≡ 0
      none_live = none_left old n none

      -- it holds nothing
      elsewhere : (app node : ℕ) → IsSite old app node → app == n ≡ false
      elsewhere app node (inl (c, m, e, f)) = ap (λ x. x == n) (sym e) ∙ none_of n p.nodes.live none_live c m
      elsewhere app node (inr (r, m, e, f)) = ap (λ x. x == n) (sym e) ∙ none_reserved n p.nodes.reserved bare r m

      turned : (x y : ℕ) → x == y ≡ false → y == x ≡ false
      turned x y e = grind (arith, nat_tests, e)

      holds : HoldsSame old without_it
      holds = going_holds old without_it n refl (λ app node s. turned app n (elsewhere app node s)) refl refl

      one_less : HasOneMore without_it old a.leaf a.user
      one_less = record {
        counts = λ t. count_without t 1 p.apps.table.active p.apps.table.next n a rising found_it;
        uses = λ t. sym (same_use old without_it holds t);
      }

      spent : (k : ℕ) → of_cluster old a.leaf a.user Measure.active ≡ 1 → of_cluster old a.leaf a.user (Measure.uses k) ≡ 0
      spent k one =
          let mine = of_user_in a.leaf a.user in
          let own : mine a.leaf a.user ≡ true = rw ((bytes_eq-Decides a.leaf a.leaf).1 refl, (bytes_eq-Decides a.user a.user).1 refl) refl in
          let off : (app node : ℕ) → IsSite old app node → counts mine (app_at old app) ≡ false = λ app node s. only_one mine 1 p.apps.table.active p.apps.table.next n a rising found_it own one app (elsewhere app node s) in
          ap (λ v. amount v k) (unused old mine off) ∙ amount-zeros K k

      -- its user has an application in the leaf
      some_active : 1 ≤ of_cluster old a.leaf a.user Measure.active
      some_active =
          let mine = of_user_in a.leaf a.user in
          let own : one_where (mine a.leaf a.user) ≡ 1 = rw ((bytes_eq-Decides a.leaf a.leaf).1 refl, (bytes_eq-Decides a.user a.user).1 refl) refl in
          let c = one_less.counts mine in
          omega (arith, c, own)

      -- it may leave
      pub may_go : MayLeave (user_row_at (position_of a.number p.apps.accounts) a.user p.rows)
      may_go =
          let at = row_at p.rows a.leaf (position_of a.number p.apps.accounts) (placed_at n a found_it).position in
          may_leave old without_it a.leaf a.user (one_app K) (zero_count K) (leaves without_it old a.leaf a.user one_less) some_active p.rows h.tied (position_of a.number p.apps.accounts) at.row at.member at.path_is at.item_is spent

      -- after it has left
      pub held_left : (apps' : HeldApps) → apps'.table ≡ remove_app n p.apps.table → IsLeft n p.apps.accounts apps'.accounts → AreConsistent (record p { rows = map (left_row K a.leaf a.user) p.rows; apps = apps' })
      held_left apps' e accounts =
          let q : Parts K = record p { rows = map (left_row K a.leaf a.user) p.rows; apps = apps' } in
          let active : apps'.table.active ≡ filter (λ (x : App). not (x.number == n)) p.apps.table.active = ap (λ (t : AppTable). t.active) e in
          let same : (flat_of q).settings.queues ≡ old.settings.queues = moved_settings K a.leaf a.user (one_app K) (zero_count K) p.rows in
          let remains : (k : ℕ) → k == n ≡ false → IsSome (app_at old k) → IsSome (app_at (flat_of q) k) = λ k other there. subst IsSome (sym (ap (find (λ (x : App). x.number == k)) active ∙ find_others (λ (x : App). x.number) n k (turned k n other) p.apps.table.active)) there in
          let stays : HoldsSame without_it (flat_of q) = record { live = refl; reserved = refl; apps = λ app node s. ap (λ (t : AppTable). Rattle.cap_model.proofs.uses.Measures.standing (find (λ (x : App). x.number == app) t.active)) e } in
          record {
            tied = tied_stays without_it (flat_of q) (record { counts = λ t. ap (count_of t) active; uses = same_use without_it (flat_of q) stays }) q.rows (tied_moved old without_it a.leaf a.user (one_app K) (zero_count K) (leaves without_it old a.leaf a.user one_less) p.rows h.tied);
            placed =
                of_each (IsInLeaf q) apps'.table.active
                (λ x m.
                let there = of_filter (λ (y : App). not (y.number == n)) p.apps.table.active x (subst (λ xs. IsIn x xs) active m) in
                still_placed p q (λ path l. leaf_same old (flat_of q) path same l)
                (moved_stays K a.leaf a.user (one_app K) (zero_count K) p.rows) x x refl refl
                (ap (λ r. option_map_or (λ (c : Account). c.position) r []) (accounts.others x.number (not-true (x.number == n) there.0)))
                (each_of (IsInLeaf p) p.apps.table.active h.placed x there.1));
            counted = λ m. live_left (m == n) m refl;
            owned = of_each (IsOwned (flat_of q)) p.nodes.live (λ c m. remains c.app (none_of n p.nodes.live none_live c m) (each_of (IsOwned old) p.nodes.live h.owned c m));
            reserved = of_each (IsReservedFor (flat_of q)) p.nodes.reserved (λ r m. remains r.app (none_reserved n p.nodes.reserved bare r m) (each_of (IsReservedFor old) p.nodes.reserved h.reserved r m));
            reservations = h.reservations;
            numbers = h.numbers;
            limit = h.limit;
            few = (let f = h.few in let l = ap length active in let g = length-kept (λ (a : App). not (a.number == n)) p.apps.table.active in omega (arith, f, l, g));
            few_live = h.few_live;
            resources = h.resources;
          }
        where
          live_left : (b : Bool) (m : ℕ) → m == n ≡ b → live_of m apps'.accounts ≡ count_for m p.nodes.live
          live_left false m o = ap (λ r. option_map_or (λ (c : Account). c.live) r 0) (accounts.others m o) ∙ h.counted m
          live_left true m o = let is : m ≡ n = grind (arith, nat_tests, o) in rw is (ap (λ r. option_map_or (λ (c : Account). c.live) r 0) accounts.own ∙ sym none_live)

-- the cluster after an application has finished: that its containers' ends wait for it is forgotten with it
others_untold : (cause : Cause) (n : ℕ) (live : List Container) (a : App) → a.number == n ≡ false → with_ends cause (filter (λ c. c.app == n) live) a ≡ a
others_untold cause n live a other = λ i. record a { ends = (ap (λ cs. a.ends ++ map (λ (c : Container). record { container = c.number; cause = cause }) cs) none ∙ append-nil a.ends) i }
  where
    none : filter (λ c. c.app == a.number) (filter (λ c. c.app == n) live) ≡ []
    none =
        filter_none (λ c. c.app == a.number) (filter (λ c. c.app == n) live)
        (λ c m. let is = (of_filter (λ (d : Container). d.app == n) live c m).0 in grind (arith, nat_tests, is, other))

finished_active : (cause : Cause) (n : ℕ) (live : List Container) (apps : List App) → filter (λ a. not (a.number == n)) (map (with_ends cause (filter (λ c. c.app == n) live)) apps) ≡ filter (λ a. not (a.number == n)) apps
finished_active cause n live [] = refl
finished_active cause n live (a ∷ apps) = by (a.number == n) refl (finished_active cause n live apps)
  where
    by : (b : Bool) → a.number == n ≡ b → filter (λ x. not (x.number == n)) (map (with_ends cause (filter (λ c. c.app == n) live)) apps) ≡ filter (λ x. not (x.number == n)) apps →
        cond (not b) (with_ends cause (filter (λ c. c.app == n) live) a ∷ filter (λ x. not (x.number == n)) (map (with_ends cause (filter (λ c. c.app == n) live)) apps)) (filter (λ x. not (x.number == n)) (map (with_ends cause (filter (λ c. c.app == n) live)) apps))
        ≡ cond (not b) (a ∷ filter (λ x. not (x.number == n)) apps) (filter (λ x. not (x.number == n)) apps)
    by true e r = r
    by false e r = λ i. others_untold cause n live a e i ∷ r i

pub finished_is : {K : ℕ} (cause : Cause) (start ended new : Flat K) (n : ℕ) → ended ≡ after_ends cause (containers_of start.nodes n) start →
    new ≡ record (with_reserved (filter (λ r. not (r.app == n)) ended.nodes.reserved) ended) { apps = remove_app n ended.apps } → new ≡ after_finish_master start n
finished_is {K} cause start ended new n is e =
    e ∙ ap (λ (x : Flat K). record (with_reserved (filter (λ r. not (r.app == n)) x.nodes.reserved) x) { apps = remove_app n x.apps }) is
    ∙ ap (λ active. record (with_reserved (filter (λ r. not (r.app == n)) start.nodes.reserved) (without_containers (containers_of start.nodes n) start)) { apps = record start.apps { active = active } }) (finished_active cause n start.nodes.live start.apps.active)
