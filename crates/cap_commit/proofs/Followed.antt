-- What a cluster keeps where the tree follows applications that wait.
use Rattle.cap_commit.proofs.Prelude.{◌≡◌, ℕ, Bool, true, false, List, [], ◌∷◌, ◌++◌, map, map-id, IfSome, IsPosition, IsUnused, ClusterNode, Want, AreOutOfReach, FollowsWaiting, each_of, of_each, of_map, of_filter, filter, not, remove_app, in_either, new_app, Option, Some, None, refl, sym, ◌∙◌, ap, subst, inl, inr, arith, ◌==◌, nat_tests, IsSome, find, cond, if◌then◌else◌, option_map, option_map_or, kept_if, All, Flat, App, AppTable, app_in, change_app, IsIn, IsRising, found, KeepsApp, only_app, Test, count_of, Queue, Row, IsAt, path_at, changed_at, queues_of, settings_stay, HeldApps, position_of, AreConsistent, IsRowOf, IsWaitedAt, Parts, waits_where}
use Rattle.cap_asks.specs.Apps.{is_waiting}
use Rattle.cap_model.proofs.lists.Numbered.{find_changed, rising_to_high}
use Rattle.cap_asks.specs.Impossible.{want_of}
use Rattle.cap_tree.specs.Waiting.{waiting_at}
use Rattle.cap_tree.specs.Queue.{served_above, waiting_above, waiting_less, waiting_more}
use Rattle.cap_commit.specs.ClusterState.{IsKnown, wants_of}
use Rattle.cap_commit.specs.Waiting.{IsFollowedAs, IsSettled, MayBegin, followed_row}
use Rattle.cap_commit.proofs.Holding.{held_settings, placed_at}
use Rattle.cap_commit.proofs.Numbers.{numbers_same}
use Rattle.cap_commit.proofs.Ties.{ChangesSettings, changed_path, changed_position, changed_row}
use Rattle.cap_commit.proofs.Waiting.{KeepsWaiting, is_it, may_begin, number_is, other_rows, set_at, set_other, set_there, waited_entered, waited_followed, waited_is, waited_left, waited_opened, waited_rows, waited_same}

-- a change that only counts what waits in another way is no change of settings
along : (above at : Queue → Queue) (leaf : List ℕ) → ((r : Row) → queues_of (record r { item = above r.item } ∷ []) ≡ queues_of (r ∷ [])) → ((K : ℕ) (cluster : Flat K) (r : Row) → IsRowOf cluster r → IsRowOf cluster (record r { item = above r.item })) →
    ((K : ℕ) (cluster : Flat K) (r : Row) → IsRowOf cluster r → IsRowOf cluster (record r { item = at r.item })) → ((rows : List Row) → queues_of (map (changed_at above at leaf) rows) ≡ queues_of rows) → ChangesSettings (changed_at above at leaf) (λ q. q)
along above at leaf none counts_above counts_at shown = record {
  position = changed_position above at leaf;
  path = changed_path above at leaf;
  counts = λ cluster r h. changed_row above at leaf (IsRowOf cluster) r (λ e. counts_at _ cluster r h) (λ e u. counts_above _ cluster r h) (λ e u. h);
  queues = λ rows. shown rows ∙ sym (map-id (queues_of rows));
  same = λ q. refl;
}

follow_changes : (n : ℕ) (path : List ℕ) (waited waits : Bool) → ChangesSettings (followed_row n path waited waits) (λ q. q)
follow_changes n path false true =
    along waiting_above (waiting_more n) path (λ r. refl) (λ K cluster r h. record { active = h.active; used = h.used; users = h.users }) (λ K cluster r h. record { active = h.active; used = h.used; users = h.users })
    (λ rows. settings_stay waiting_above (waiting_more n) (λ r. refl) (λ r. refl) path rows)
follow_changes n path true false =
    along served_above (waiting_less n) path (λ r. refl) (λ K cluster r h. record { active = h.active; used = h.used; users = h.users }) (λ K cluster r h. record { active = h.active; used = h.used; users = h.users })
    (λ rows. settings_stay served_above (waiting_less n) (λ r. refl) (λ r. refl) path rows)
follow_changes n path true true = record { position = λ r. refl; path = λ r. refl; counts = λ cluster r h. h; queues = λ rows. ap queues_of (map-id rows) ∙ sym (map-id (queues_of rows)); same = λ q. refl }
follow_changes n path false false = record { position = λ r. refl; path = λ r. refl; counts = λ cluster r h. h; queues = λ rows. ap queues_of (map-id rows) ∙ sym (map-id (queues_of rows)); same = λ q. refl }

pub followed_position : (n : ℕ) (path : List ℕ) (waited waits : Bool) (r : Row) → (followed_row n path waited waits r).position ≡ r.position
followed_position n path waited waits = (follow_changes n path waited waits).position

pub followed_path : (n : ℕ) (path : List ℕ) (waited waits : Bool) (r : Row) → (followed_row n path waited waits r).path ≡ r.path
followed_path n path waited waits = (follow_changes n path waited waits).path

-- what the flat cluster shows of the queues stays
pub followed_settings : (n : ℕ) (path : List ℕ) (waited waits : Bool) (rows : List Row) → queues_of (map (followed_row n path waited waits) rows) ≡ queues_of rows
followed_settings n path waited waits rows = (follow_changes n path waited waits).queues rows ∙ map-id (queues_of rows)

pub held_followed : {K : ℕ} (p : Parts K) → AreConsistent p → (n : ℕ) (path : List ℕ) (waited waits : Bool) → AreConsistent (record p { rows = map (followed_row n path waited waits) p.rows })
held_followed p h n path waited waits = held_settings p h (followed_row n path waited waits) (λ q. q) p.limits (follow_changes n path waited waits) h.limit

-- the tree follows what it did where rows keep what waits, where nodes could take no more, and where the table is the same
pub follows_rows : {asleep : Bool} {nodes : List ClusterNode} (f : Row → Row) → KeepsWaiting f → (apps : List App) (rows : List Row) → FollowsWaiting asleep nodes apps rows → FollowsWaiting asleep nodes apps (map f rows)
follows_rows f k apps rows w = record { followed = w.followed; waiting = waited_rows w.followed f k apps rows w.waiting; known = w.known; all = w.all }

pub follows_nodes : {asleep : Bool} (old new : List ClusterNode) (apps : List App) (rows : List Row) → ((wants : List Want) → AreOutOfReach old wants → AreOutOfReach new wants) → FollowsWaiting asleep old apps rows → FollowsWaiting asleep new apps rows
follows_nodes old new apps rows out w = record {
  followed = w.followed;
  waiting = w.waiting;
  known = of_each (IsKnown new w.followed) apps (λ x m. let k = each_of (IsKnown old w.followed) apps w.known x m in record { waits = k.waits; reach = λ off on. out (wants_of x) (k.reach off on) });
  all = w.all;
}

pub follows_same_table : {asleep : Bool} {nodes : List ClusterNode} (table table' : AppTable) (rows : List Row) → table' ≡ table → FollowsWaiting asleep nodes table.active rows → FollowsWaiting asleep nodes table'.active rows
follows_same_table {asleep} {nodes} table table' rows e w = subst (λ (t : AppTable). FollowsWaiting asleep nodes t.active rows) (sym e) w

-- some may be asleep
pub follows_some : {asleep : Bool} (nodes : List ClusterNode) (apps : List App) (rows : List Row) → FollowsWaiting asleep nodes apps rows → FollowsWaiting true nodes apps rows
follows_some nodes apps rows w = record { followed = w.followed; waiting = w.waiting; known = w.known; all = λ never. absurd (cc never) }

-- where none is, all that wait are followed, whatever nodes there are
on_and_off : (b : Bool) → b ≡ true → b ≡ false → ⊥
on_and_off b on off = cc (on, off)

pub follows_all : (old new : List ClusterNode) (apps : List App) (rows : List Row) → FollowsWaiting false old apps rows → FollowsWaiting false new apps rows
follows_all old new apps rows w = record {
  followed = w.followed;
  waiting = w.waiting;
  known = of_each (IsKnown new w.followed) apps (λ x m. record {
    waits = (each_of (IsKnown old w.followed) apps w.known x m).waits;
    reach = λ off on. absurd (on_and_off (w.followed x.number) (each_of (λ (app : App). is_waiting app ≡ true → w.followed app.number ≡ true) apps (w.all refl) x m on) off);
  });
  all = w.all;
}

-- where there is no application
pub follows_opened : (K : ℕ) (nodes : List ClusterNode) (apps : List App) (rows : List Row) → apps ≡ [] → All (λ r. IsUnused K r.item) rows → FollowsWaiting false nodes apps rows
follows_opened K nodes apps rows none a = record {
  followed = nothing;
  waiting = waited_opened K nothing apps rows none a;
  known = of_each (IsKnown nodes nothing) apps (λ x m. absurd (subst (IsIn x) none m));
  all = λ never. of_each (λ (app : App). is_waiting app ≡ true → nothing app.number ≡ true) apps (λ x m. absurd (subst (IsIn x) none m));
}
  where
    nothing : ℕ → Bool
    nothing n = false

-- after an application has entered
pub follows_entered : {asleep : Bool} {nodes : List ClusterNode} (apps : List App) (rows : List Row) (n : ℕ) (leaf user : List ℕ) → IsRising 1 (map (λ (x : App). x.number) apps) n → FollowsWaiting asleep nodes apps rows → FollowsWaiting asleep nodes (apps ++ new_app n leaf user ∷ []) rows
follows_entered {asleep} {nodes} apps rows n leaf user rising w = record {
  followed = G;
  waiting = waited_entered w.followed apps rows n leaf user other w.waiting;
  known = of_each (IsKnown nodes G) (apps ++ new_app n leaf user ∷ []) (λ x m. elim (in_either x apps (new_app n leaf user ∷ []) m) [
    | inl before ↦ as_before x (set_other n x.number false w.followed (other x before)) (each_of (IsKnown nodes w.followed) apps w.known x before)
    | inr (inl is) ↦ subst (IsKnown nodes G) is (record { waits = λ on. absurd (on_and_off (G n) on none); reach = λ off on. absurd (cc on) })
    | inr (inr never) ↦ absurd never
  ]);
  all = λ awake. of_each (λ (app : App). is_waiting app ≡ true → G app.number ≡ true) (apps ++ new_app n leaf user ∷ []) (λ x m. elim (in_either x apps (new_app n leaf user ∷ []) m) [
    | inl before ↦ λ on. set_other n x.number false w.followed (other x before) ∙ each_of (λ (app : App). is_waiting app ≡ true → w.followed app.number ≡ true) apps (w.all awake) x before on
    | inr (inl is) ↦ subst (λ (y : App). is_waiting y ≡ true → G y.number ≡ true) is (λ on. absurd (cc on))
    | inr (inr never) ↦ absurd never
  ]);
}
  where
    G : ℕ → Bool
    G = set_at n false w.followed

    none : G n ≡ false
    none = set_there n n false w.followed refl

    other : (x : App) → IsIn x apps → x.number == n ≡ false
    other x m = let l = rising_to_high (λ (y : App). y.number) 1 apps n x rising m in grind (arith, nat_tests, l)

    as_before : (x : App) → G x.number ≡ w.followed x.number → IsKnown nodes w.followed x → IsKnown nodes G x
    as_before x e k = record { waits = λ on. k.waits (sym e ∙ on); reach = λ off on. k.reach (sym e ∙ off) on }

-- after a change of an application that keeps whether it waits, and its asks
pub follows_table : {asleep : Bool} {nodes : List ClusterNode} (n : ℕ) (f : App → App) → KeepsApp f → ((x : App) → is_waiting (f x) ≡ is_waiting x) → ((x : App) → (f x).asks ≡ x.asks) → (table table' : AppTable) (rows : List Row) → table' ≡ change_app n f table →
    FollowsWaiting asleep nodes table.active rows → FollowsWaiting asleep nodes table'.active rows
follows_table {asleep} {nodes} n f k waits asks table table' rows e w =
    subst (λ (t : AppTable). FollowsWaiting asleep nodes t.active rows) (sym e) (record {
      followed = F;
      waiting = waited_same F g (only_app n f k) table.active rows w.waiting;
      known = of_each (IsKnown nodes F) (map g table.active) (λ y m.
          let o = of_map g table.active y m in
          subst (IsKnown nodes F) (o.2) (changed (o.0) (each_of (IsKnown nodes F) table.active w.known (o.0) (o.1))));
      all = λ awake. of_each (λ (app : App). is_waiting app ≡ true → F app.number ≡ true) (map g table.active) (λ y m.
          let o = of_map g table.active y m in
          subst (λ (app : App). is_waiting app ≡ true → F app.number ≡ true) (o.2) (λ on.
          ap F (number (o.0)) ∙ each_of (λ (app : App). is_waiting app ≡ true → F app.number ≡ true) table.active (w.all awake) (o.0) (o.1) (sym (waiting (o.0)) ∙ on)));
    })
  where
    g : App → App
    g x = if x.number == n then f x else x

    F : ℕ → Bool
    F = w.followed

    number : (x : App) → (g x).number ≡ x.number
    number = (only_app n f k).number

    waiting : (x : App) → is_waiting (g x) ≡ is_waiting x
    waiting x = kept_if (x.number == n) is_waiting (f x) x (waits x)

    wants : (x : App) → wants_of (g x) ≡ wants_of x
    wants x = kept_if (x.number == n) wants_of (f x) x (ap (map want_of) (asks x))

    changed : (x : App) → IsKnown nodes F x → IsKnown nodes F (g x)
    changed x h = record {
      waits = λ on. waiting x ∙ h.waits (sym (ap F (number x)) ∙ on);
      reach = λ off on. subst (AreOutOfReach nodes) (sym (wants x)) (h.reach (sym (ap F (number x)) ∙ off) (sym (waiting x) ∙ on));
    }

not_found : (n : ℕ) (apps : List App) (x : App) → find (λ (y : App). y.number == n) apps ≡ None → IsIn x apps → x.number == n ≡ false
not_found n [] x e m = absurd m
not_found n (y ∷ apps) x e m = by (not_found n apps x) (y.number == n) refl e m
  where
    by : (find (λ (z : App). z.number == n) apps ≡ None → IsIn x apps → x.number == n ≡ false) → (b : Bool) → y.number == n ≡ b → cond b (Some y) (find (λ (z : App). z.number == n) apps) ≡ None → IsIn x (y ∷ apps) → x.number == n ≡ false
    by rest true s e m = absurd (cc e)
    by rest false s e (inl same) = ap (λ (z : App). z.number == n) (sym same) ∙ s
    by rest false s e (inr m) = rest e m

-- after an application has left
pub follows_left : {asleep : Bool} {nodes : List ClusterNode} (table : AppTable) (n : ℕ) (a : App) → IsRising 1 (map (λ (x : App). x.number) table.active) table.next → find (λ (x : App). x.number == n) table.active ≡ Some a → (rows : List Row) (position : List ℕ) → IsAt rows a.leaf position →
    (new : List Row) (s : IsSettled n position false rows new) → FollowsWaiting asleep nodes table.active rows → FollowsWaiting asleep nodes (remove_app n table).active (map (followed_row n a.leaf s.waited false) rows)
follows_left {asleep} {nodes} table n a rising is rows position at new s w =
    let others : App → Bool = λ x. not (x.number == n) in
    record {
      followed = w.followed;
      waiting = waited_left w.followed table.active table.next n a rising is s.waited (waited_is w.followed table.active table.next n a rising is rows w.waiting position at position false new refl s) rows w.waiting;
      known = of_each (IsKnown nodes w.followed) (filter others table.active) (λ x m. each_of (IsKnown nodes w.followed) table.active w.known x (of_filter others table.active x m).1);
      all = λ off. of_each (λ (app : App). is_waiting app ≡ true → w.followed app.number ≡ true) (filter others table.active) (λ x m. each_of (λ (app : App). is_waiting app ≡ true → w.followed app.number ≡ true) table.active (w.all off) x (of_filter others table.active x m).1);
    }

-- what an application that is followed anew leaves of a cluster
module _ {K : ℕ} (p : Parts K) (h : AreConsistent p) (n : ℕ) (left : Bool) (new : List Row) (none : app_in p.apps.table n ≡ None → new ≡ p.rows)
    (some : IfSome (app_in p.apps.table n) (λ app. IsFollowedAs app (position_of n p.apps.accounts) p.apps.impossible left p.rows new)) where
  by_app : (P : List Row → Type 0) → P p.rows → ((m : ℕ) (path : List ℕ) (waited waits : Bool) → P (map (followed_row m path waited waits) p.rows)) → P new
  by_app P same other = by (app_in p.apps.table n) none some
    where
      by : (o : Option App) → (o ≡ None → new ≡ p.rows) → IfSome o (λ app. IsFollowedAs app (position_of n p.apps.accounts) p.apps.impossible left p.rows new) → P new
      by None is s = subst P (sym (is refl)) same
      by (Some a) is s = subst P (sym s.settled.rows) (other a.number (path_at (position_of n p.apps.accounts) p.rows) s.settled.waited s.waits)

  pub held_now : AreConsistent (record p { rows = new })
  held_now = by_app (λ rows. AreConsistent (record p { rows = rows })) h (λ m path waited waits. held_followed p h m path waited waits)

  pub settings_now : queues_of new ≡ queues_of p.rows
  settings_now = by_app (λ rows. queues_of rows ≡ queues_of p.rows) refl (λ m path waited waits. followed_settings m path waited waits p.rows)

module _ {K : ℕ} (p : Parts K) (h : AreConsistent p) (rising : IsRising 1 (map (λ (x : App). x.number) p.apps.table.active) p.apps.table.next) (n : ℕ) (f : App → App) (k : KeepsApp f) (apps' : HeldApps)
    (e : apps'.table ≡ change_app n f p.apps.table) (positions : (m : ℕ) → position_of m apps'.accounts ≡ position_of m p.apps.accounts) where
  abbrev changed : App → App
  changed x = if x.number == n then f x else x

  after_is : (o : Option App) → find (λ (x : App). x.number == n) p.apps.table.active ≡ o → app_in apps'.table n ≡ option_map f o
  after_is o is = ap (λ (t : AppTable). app_in t n) e ∙ find_changed (λ (x : App). x.number) (λ x. if x.number == n then f x else x) (only_app n f k).number n p.apps.table.active ∙ ap (option_map (λ (x : App). if x.number == n then f x else x)) is ∙ by o is
    where
      by : (o : Option App) → find (λ (x : App). x.number == n) p.apps.table.active ≡ o → option_map (λ (x : App). if x.number == n then f x else x) o ≡ option_map f o
      by None is = refl
      by (Some a) is = ap (λ b. Some (if b then f a else a)) (found (λ (x : App). x.number == n) p.apps.table.active a is).1

  position_now : (a : App) → find (λ (x : App). x.number == n) p.apps.table.active ≡ Some a → position_of n apps'.accounts ≡ position_of a.number p.apps.accounts
  position_now a is =
      let t = (found (λ (x : App). x.number == n) p.apps.table.active a is).1 in
      let number : n ≡ a.number = grind (arith, nat_tests, t) in
      positions n ∙ ap (λ m. position_of m p.apps.accounts) number

  module _ (rows : List Row) {asleep : Bool} {nodes : List ClusterNode} (w : FollowsWaiting asleep nodes p.apps.table.active rows) (stays : (path position : List ℕ) → IsAt p.rows path position → IsAt rows path position) where
    at_now : (a : App) → find (λ (x : App). x.number == n) p.apps.table.active ≡ Some a → IsAt rows a.leaf (position_of a.number p.apps.accounts)
    at_now a is = stays a.leaf (position_of a.number p.apps.accounts) (placed_at p h n a is).position

    -- the tree may follow
    pub there_now : IsSome (app_in apps'.table n) → IsPosition rows (position_of n apps'.accounts)
    there_now some = by (find (λ (x : App). x.number == n) p.apps.table.active) refl
      where
        by : (o : Option App) → find (λ (x : App). x.number == n) p.apps.table.active ≡ o → IsPosition rows (position_of n apps'.accounts)
        by None is = absurd (let s = subst IsSome (after_is None is) some in cc s)
        by (Some a) is = subst (IsPosition rows) (sym (position_now a is)) (at_now a is).present

    pub may_now : (cluster : Flat K) → All (IsRowOf cluster) rows → ((test : Test) → count_of test cluster.apps.active ≡ count_of test p.apps.table.active) → IsSome (app_in apps'.table n) →
        ¬ IsIn n (waiting_at (position_of n apps'.accounts) rows) → MayBegin n (position_of n apps'.accounts) rows
    may_now cluster tied same some out = by (find (λ (x : App). x.number == n) p.apps.table.active) refl
      where
        by : (o : Option App) → find (λ (x : App). x.number == n) p.apps.table.active ≡ o → MayBegin n (position_of n apps'.accounts) rows
        by None is = absurd (let s = subst IsSome (after_is None is) some in cc s)
        by (Some a) is =
            subst (λ q. MayBegin n q rows) (sym (position_now a is))
            (may_begin w.followed p.apps.table.active p.apps.table.next n a rising is rows w.waiting (position_of a.number p.apps.accounts) (at_now a is) cluster tied same h.few (subst (λ q. ¬ IsIn n (waiting_at q rows)) (position_now a is) out))

    -- and follows then what waits
    pub follows_now : (left asleep' : Bool) (new : List Row) → (app_in apps'.table n ≡ None → new ≡ rows) → IfSome (app_in apps'.table n) (λ app. IsFollowedAs app (position_of n apps'.accounts) apps'.impossible left rows new) → AreOutOfReach nodes apps'.impossible →
        (asleep' ≡ false → (asleep ≡ false) × (left ≡ false)) → FollowsWaiting asleep' nodes apps'.table.active new
    follows_now left asleep' new none some reach awake = subst (λ (t : AppTable). FollowsWaiting asleep' nodes t.active new) (sym e) (by (find (λ (x : App). x.number == n) p.apps.table.active) refl)
      where
        F : ℕ → Bool
        F = w.followed

        by : (o : Option App) → find (λ (x : App). x.number == n) p.apps.table.active ≡ o → FollowsWaiting asleep' nodes (map (λ (x : App). if x.number == n then f x else x) p.apps.table.active) new
        by None is =
            let itself : (x : App) → IsIn x p.apps.table.active → changed x ≡ x = λ x m. ap (λ b. if b then f x else x) (not_found n p.apps.table.active x is m) in
            subst (FollowsWaiting asleep' nodes (map changed p.apps.table.active)) (sym (none (after_is None is))) (record {
              followed = F;
              waiting =
                  other_rows F F p.apps.table.active (map changed p.apps.table.active) rows
                  (λ leaf. numbers_same (waits_where F leaf) (waits_where F leaf) changed p.apps.table.active (λ x m. record { number = ap (λ (y : App). y.number) (itself x m); passes = ap (waits_where F leaf) (itself x m) })) w.waiting;
              known = of_each (IsKnown nodes F) (map changed p.apps.table.active) (λ y m.
                  let o = of_map changed p.apps.table.active y m in
                  subst (IsKnown nodes F) (sym (itself (o.0) (o.1)) ∙ o.2) (each_of (IsKnown nodes F) p.apps.table.active w.known (o.0) (o.1)));
              all = λ off. of_each (λ (app : App). is_waiting app ≡ true → F app.number ≡ true) (map changed p.apps.table.active) (λ y m.
                  let o = of_map changed p.apps.table.active y m in
                  subst (λ (app : App). is_waiting app ≡ true → F app.number ≡ true) (sym (itself (o.0) (o.1)) ∙ o.2) (each_of (λ (app : App). is_waiting app ≡ true → F app.number ≡ true) p.apps.table.active (w.all (awake off).0) (o.0) (o.1)));
            })
        by (Some a) is = one a is (subst (λ o. IfSome o (λ app. IsFollowedAs app (position_of n apps'.accounts) apps'.impossible left rows new)) (after_is (Some a) is) some)
          where
            one : (a : App) → find (λ (x : App). x.number == n) p.apps.table.active ≡ Some a → IsFollowedAs (f a) (position_of n apps'.accounts) apps'.impossible left rows new → FollowsWaiting asleep' nodes (map (λ (x : App). if x.number == n then f x else x) p.apps.table.active) new
            one a is s =
                let at = at_now a is in
                let number : (f a).number ≡ n = k.number a ∙ number_is F p.apps.table.active p.apps.table.next n a rising is in
                let settled = subst (λ m. IsSettled m (position_of n apps'.accounts) s.waits rows new) number s.settled in
                let was = waited_is F p.apps.table.active p.apps.table.next n a rising is rows w.waiting (position_of a.number p.apps.accounts) at (position_of n apps'.accounts) s.waits new (position_now a is) settled in
                let path = ap (λ q. path_at q rows) (position_now a is) ∙ at.path_is in
                let G : ℕ → Bool = set_at n s.waits F in
                let rows_are : new ≡ map (followed_row n a.leaf settled.waited s.waits) rows = settled.rows ∙ ap (λ q. map (followed_row n q settled.waited s.waits) rows) path in
                record {
                  followed = G;
                  waiting = subst (All (IsWaitedAt G (map changed p.apps.table.active))) (sym rows_are) (waited_followed F p.apps.table.active p.apps.table.next n a rising is f k s.waits settled.waited was rows w.waiting);
                  known = of_each (IsKnown nodes G) (map changed p.apps.table.active) (λ y m.
                      let o = of_map changed p.apps.table.active y m in
                      subst (IsKnown nodes G) (o.2) (known_one a is s number (o.0) (o.1) ((o.0).number == n) refl));
                  all = λ off. of_each (λ (app : App). is_waiting app ≡ true → G app.number ≡ true) (map changed p.apps.table.active) (λ y m.
                      let o = of_map changed p.apps.table.active y m in
                      subst (λ (app : App). is_waiting app ≡ true → G app.number ≡ true) (o.2) (all_one a is s number off (o.0) (o.1) ((o.0).number == n) refl));
                }
              where
                it : (a : App) → find (λ (x : App). x.number == n) p.apps.table.active ≡ Some a → (x : App) → IsIn x p.apps.table.active → x.number == n ≡ true → f a ≡ changed x
                it a is x m at = sym (ap (λ b. if b then f x else x) at ∙ ap f (is_it F p.apps.table.active p.apps.table.next n a rising is x m at))

                known_one : (a : App) → find (λ (x : App). x.number == n) p.apps.table.active ≡ Some a → (s : IsFollowedAs (f a) (position_of n apps'.accounts) apps'.impossible left rows new) → (f a).number ≡ n → (x : App) → IsIn x p.apps.table.active →
                    (b : Bool) → x.number == n ≡ b → IsKnown nodes (set_at n s.waits F) (changed x)
                known_one a is s number x m true at = subst (IsKnown nodes (set_at n s.waits F)) (it a is x m at) (record {
                  waits = λ on. s.some (sym (set_there n (f a).number s.waits F number) ∙ on);
                  reach = λ off on want there.
                      let ask = of_map want_of (f a).asks want there in
                      reach want (subst (λ v. IsIn v apps'.impossible) (ask.2) (s.none (sym (set_there n (f a).number s.waits F number) ∙ off) on (ask.0) (ask.1)));
                })
                known_one a is s number x m false at =
                    let same = set_other n x.number s.waits F at in
                    let h = each_of (IsKnown nodes F) p.apps.table.active w.known x m in
                    subst (IsKnown nodes (set_at n s.waits F)) (sym (ap (λ b. if b then f x else x) at)) (record { waits = λ on. h.waits (sym same ∙ on); reach = λ off on. h.reach (sym same ∙ off) on })

                all_one : (a : App) → find (λ (x : App). x.number == n) p.apps.table.active ≡ Some a → (s : IsFollowedAs (f a) (position_of n apps'.accounts) apps'.impossible left rows new) → (f a).number ≡ n → asleep' ≡ false → (x : App) → IsIn x p.apps.table.active →
                    (b : Bool) → x.number == n ≡ b → is_waiting (changed x) ≡ true → set_at n s.waits F (changed x).number ≡ true
                all_one a is s number off x m true at = subst (λ (y : App). is_waiting y ≡ true → set_at n s.waits F y.number ≡ true) (it a is x m at) (λ on. set_there n (f a).number s.waits F number ∙ s.all (awake off).1 on)
                all_one a is s number off x m false at =
                    subst (λ (y : App). is_waiting y ≡ true → set_at n s.waits F y.number ≡ true) (sym (ap (λ b. if b then f x else x) at))
                    (λ on. set_other n x.number s.waits F at ∙ each_of (λ (app : App). is_waiting app ≡ true → F app.number ≡ true) p.apps.table.active (w.all (awake off).0) x m on)
