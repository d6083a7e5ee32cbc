-- The queues of a sight are the rows of the tree, and what waits in the tree are the applications that wait.
use Rattle.cap_live.proofs.Prelude.{◌≡◌, ℕ, ◌≤◌, true, false, List, [], map, drop, length, Option, Some, None, refl, sym, ◌∙◌, ap, subst, arith, nat_tests, not, ◌==◌, All, Bool, inl, inr, ◌⊎◌, filter, option_map, option_map_or, is_gt, nat_cmp, ordering_then, slice_cmp, bytes_eq, bytes_eq-Decides, and_from, and_parts, same_Some, drop-map, filter_mapped, find_mapped_at, map_same, map_twice, each_of, found, in_filter, in_map, of_filter, of_map, IsIn, IsRising, found_by_number, rising_kept, level_cmp, is_under, level_of, App, ClusterNode, Flat, AppSight, QueueSight, app_sight, queue_sight, sight_of, user_use, FollowsWaiting, IsRowOf, IsWaitedAt, IsShut, numbers_of, waits_where, is_waiting, Queue, HoldsOfItem, IsAt, Row, queues_of, rows_to, settings_of_row, level_of_row, levels_at, item_at, path_at, at_position, row_at, HasNoWaiter, IsLaterWaiter, IsNextWaiter, waiter_cmp, waiting_at, HasNoNextApp, IsLater, IsNextApp, IsWaiter, app_cmp, levels_to}
use Rattle.cap_asks.specs.Impossible.{want_of}
use Rattle.cap_commit.specs.ClusterState.{IsKnown, wants_of}
use Rattle.cap_live.proofs.Shutting.{all_impossible_shut}

-- what waits at a position is an application that waits, and is followed, in the leaf there
pub record WaitsAt (followed : ℕ → Bool) (active : List App) (rows : List Row) (p : List ℕ) (n : ℕ) : Type 0 where
  pub app : App
  pub member : IsIn app active
  pub waits : is_waiting app ≡ true
  pub on : followed app.number ≡ true
  pub number : app.number ≡ n
  pub place : path_at p rows ≡ app.leaf

module _ (nodes : List ClusterNode) (active : List App) (rows : List Row) (waiting : FollowsWaiting true nodes active rows) where
  abbrev F : ℕ → Bool
  F = waiting.followed

  pub waiter_at : (p : List ℕ) (n : ℕ) → IsIn n (waiting_at p rows) → WaitsAt waiting.followed active rows p n
  waiter_at p n m = by (item_at p rows) refl m
    where
      by : (o : Option Queue) → item_at p rows ≡ o → IsIn n (option_map_or (λ q. q.waiting) o []) → WaitsAt waiting.followed active rows p n
      by None e m = absurd m
      by (Some q) e m =
          let t = at_position p rows (subst (HoldsOfItem (λ (x : Queue). Unit {0})) (sym e) tt) in
          let same : q ≡ t.row.item = same_Some q t.row.item (sym e ∙ t.item_is) in
          let there : IsIn n (numbers_of (waits_where F (bytes_eq t.row.path)) active) = subst (IsIn n) (ap (λ (x : Queue). x.waiting) same ∙ (each_of (IsWaitedAt F active) rows waiting.waiting t.row t.member).numbers) m in
          let a = of_map (λ (x : App). x.number) (filter (waits_where F (bytes_eq t.row.path)) active) n there in
          let f = of_filter (waits_where F (bytes_eq t.row.path)) active (a.0) (a.1) in
          let both = and_parts (bytes_eq t.row.path (a.0).leaf) (F (a.0).number) (f.0) in
          record {
            app = a.0;
            member = f.1;
            waits = (each_of (IsKnown nodes F) active waiting.known (a.0) f.1).waits both.1;
            on = both.1;
            number = a.2;
            place = t.path_is ∙ (bytes_eq-Decides t.row.path (a.0).leaf).0 both.0;
          }

  pub waits_there : (app : App) → IsIn app active → waiting.followed app.number ≡ true → (p : List ℕ) → IsAt rows app.leaf p → IsIn app.number (waiting_at p rows)
  waits_there app m on p at =
      let r = row_at rows app.leaf p at in
      let test : waits_where F (bytes_eq r.row.path) app ≡ true = and_from (bytes_eq r.row.path app.leaf) (F app.number) ((bytes_eq-Decides r.row.path app.leaf).1 r.path_is) on in
      subst (IsIn app.number) (sym (ap (λ o. option_map_or (λ (x : Queue). x.waiting) o []) r.item_is ∙ (each_of (IsWaitedAt F active) rows waiting.waiting r.row r.member).numbers))
      (in_map (λ (x : App). x.number) (filter (waits_where F (bytes_eq r.row.path)) active) app (in_filter (waits_where F (bytes_eq r.row.path)) active app m test))

-- an application that waits, as a sight shows it
pub record IsSeenAs {K : ℕ} (flat : Flat K) (s : AppSight) : Type 0 where
  pub app : App
  pub member : IsIn app flat.apps.active
  pub waits : is_waiting app ≡ true
  pub is : app_sight app ≡ s

-- an application that waits is seen, and one that is seen with asks waits
module _ {K : ℕ} (flat : Flat K) (rising : IsRising 1 (map (λ app. app.number) flat.apps.active) flat.apps.next) where
  abbrev registered : List App
  registered = filter (λ app. app.registered) flat.apps.active

  pub seen_waiter : (app : App) → IsIn app flat.apps.active → is_waiting app ≡ true → IsWaiter (sight_of flat) (app_sight app)
  seen_waiter app m w =
      let both = and_parts app.registered (not (length app.asks == 0)) w in
      let kept = in_filter (λ (x : App). x.registered) flat.apps.active app m both.0 in
      let rise = rising_kept (λ (x : App). x.number) (λ (x : App). x.registered) 1 flat.apps.active flat.apps.next rising in
      record {
        found = find_mapped_at app_sight (λ (s : AppSight). s.number == app.number) registered ∙ ap (option_map app_sight) (found_by_number (λ (x : App). x.number) 1 registered flat.apps.next app rise kept);
        some = (let t = both.1 in grind (arith, nat_tests, t));
      }

  pub waiter_seen : (s : AppSight) → IsWaiter (sight_of flat) s → IsSeenAs flat s
  waiter_seen s w =
      let f = found (λ (x : AppSight). x.number == s.number) (map app_sight registered) s w.found in
      let m = of_map app_sight registered s f.0 in
      let g = of_filter (λ (x : App). x.registered) flat.apps.active (m.0) (m.1) in
      let some : 1 ≤ length (m.0).asks = subst (λ (y : AppSight). 1 ≤ length y.asks) (sym (m.2)) w.some in
      record {
        app = m.0;
        member = g.1;
        waits = and_from (m.0).registered (not (length (m.0).asks == 0)) g.0 (grind (arith, nat_tests, some));
        is = m.2;
      }

-- a row, as it is seen
abbrev pub seen_row : {K : ℕ} → Flat K → Row → QueueSight
seen_row flat r = record { row = settings_of_row r; used = r.item.used; used_by = user_use flat r.path }

-- an application, and where it waits in the tree; or neither is named
abbrev pub AreSame : List Row → Option AppSight → Option (List ℕ × ℕ) → Type 0
AreSame rows None None = Unit {0}
AreSame rows None (Some x) = ⊥
AreSame rows (Some s) None = ⊥
AreSame rows (Some s) (Some x) = (path_at (x.0) rows ≡ s.leaf) × (x.1 ≡ s.number)

-- the application that is served next, by its number, which waits in the tree where its leaf is
pub record IsNumberNext {K : ℕ} (flat : Flat K) (rows : List Row) (after : Option AppSight) (n : ℕ) : Type 0 where
  pub app : App
  pub member : IsIn app flat.apps.active
  pub waits : is_waiting app ≡ true
  pub number : app.number ≡ n
  pub next : IsNextApp (sight_of flat) after (app_sight app)
  pub served : (p : List ℕ) → IsAt rows app.leaf p → IsIn app.number (waiting_at p rows)

-- one that waits and is not followed is shut
pub left_out_shut : {K : ℕ} (flat : Flat K) (rows : List Row) (waiting : FollowsWaiting true flat.nodes.present flat.apps.active rows) (app : App) → IsIn app flat.apps.active → is_waiting app ≡ true → waiting.followed app.number ≡ false → IsShut (sight_of flat) (app_sight app)
left_out_shut flat rows waiting app m w off =
    all_impossible_shut flat (wants_of app) ((each_of (IsKnown flat.nodes.present waiting.followed) flat.apps.active waiting.known app m).reach off w) (app_sight app) (λ ask there. in_map want_of app.asks ask there)

module _ {K : ℕ} (flat : Flat K) (rows : List Row) (queues : queues_of rows ≡ flat.settings.queues) (tied : All (IsRowOf flat) rows) where
  pub queues_are : (sight_of flat).queues ≡ map (seen_row flat) rows
  queues_are =
      ap (map (queue_sight flat)) (sym queues) ∙ map_twice (queue_sight flat) settings_of_row rows
      ∙ map_same (λ r. queue_sight flat (settings_of_row r)) (seen_row flat) rows (λ r m. λ i. record { row = settings_of_row r; used = sym (each_of (IsRowOf flat) rows tied r m).used i; used_by = user_use flat r.path })

  -- the order of what waits in the tree is that of applications
  levels_are : (leaf p : List ℕ) → path_at p rows ≡ leaf → levels_to (sight_of flat) leaf ≡ levels_at p rows
  levels_are leaf p at =
      ap (λ qs. map level_of (drop 1 (filter (λ (q : QueueSight). is_under q.row.path leaf) qs))) queues_are
      ∙ ap (λ qs. map level_of (drop 1 qs)) (filter_mapped (λ (q : QueueSight). is_under q.row.path leaf) (seen_row flat) rows)
      ∙ ap (map level_of) (drop-map (seen_row flat) 1 (rows_to leaf rows))
      ∙ map_twice level_of (seen_row flat) (drop 1 (rows_to leaf rows))
      ∙ ap (λ path. map level_of_row (drop 1 (rows_to path rows))) (sym at)

  cmp_is : (s t : AppSight) (p q : List ℕ) → path_at p rows ≡ s.leaf → path_at q rows ≡ t.leaf → app_cmp (sight_of flat) s t ≡ waiter_cmp rows p s.number q t.number
  cmp_is s t p q at there = λ i. ordering_then (slice_cmp level_cmp (levels_are s.leaf p at i) (levels_are t.leaf q there i)) (nat_cmp s.number t.number)

  later_in : (after : Option AppSight) (at : Option (List ℕ × ℕ)) → AreSame rows after at → (t : AppSight) (q : List ℕ) → path_at q rows ≡ t.leaf → IsLater (sight_of flat) after t → IsLaterWaiter rows at q t.number
  later_in None None same t q there l = tt
  later_in None (Some x) same t q there l = absurd same
  later_in (Some s) None same t q there l = absurd same
  later_in (Some s) (Some x) same t q there l = (λ i. waiter_cmp rows (x.0) (same.1 i) q t.number) ∙ sym (cmp_is s t (x.0) q same.0 there) ∙ l

  later_out : (after : Option AppSight) (at : Option (List ℕ × ℕ)) → AreSame rows after at → (t : AppSight) (q : List ℕ) → path_at q rows ≡ t.leaf → IsLaterWaiter rows at q t.number → IsLater (sight_of flat) after t
  later_out None None same t q there l = tt
  later_out None (Some x) same t q there l = absurd same
  later_out (Some s) None same t q there l = absurd same
  later_out (Some s) (Some x) same t q there l = cmp_is s t (x.0) q same.0 there ∙ (λ i. waiter_cmp rows (x.0) (sym same.1 i) q t.number) ∙ l

  module _ (waiting : FollowsWaiting true flat.nodes.present flat.apps.active rows) (position : ℕ → List ℕ) (placed : All (λ app. IsAt rows app.leaf (position app.number)) flat.apps.active)
      (rising : IsRising 1 (map (λ app. app.number) flat.apps.active) flat.apps.next) where
    place_of : (app : App) → IsIn app flat.apps.active → IsAt rows app.leaf (position app.number)
    place_of app m = each_of (λ (x : App). IsAt rows x.leaf (position x.number)) flat.apps.active placed app m

    -- of any other application that waits and comes later: it waits in the tree too, and later, or it is shut
    other_is : (after : Option AppSight) (at : Option (List ℕ × ℕ)) → AreSame rows after at → (other : AppSight) → IsWaiter (sight_of flat) other → IsLater (sight_of flat) after other → (P : AppSight → Type 0) →
        ((app : App) → IsIn app flat.apps.active → IsIn app.number (waiting_at (position app.number) rows) → IsLaterWaiter rows at (position app.number) app.number → P (app_sight app)) → P other ⊎ IsShut (sight_of flat) other
    other_is after at same other ow l P there = by (waiting.followed o.app.number) refl
      where
        o : IsSeenAs flat other
        o = waiter_seen flat rising other ow

        by : (b : Bool) → waiting.followed o.app.number ≡ b → P other ⊎ IsShut (sight_of flat) other
        by true on =
            let q = place_of o.app o.member in
            inl (subst P o.is (there o.app o.member (waits_there flat.nodes.present flat.apps.active rows waiting o.app o.member on (position o.app.number) q)
            (later_in after at same (app_sight o.app) (position o.app.number) q.path_is (subst (IsLater (sight_of flat) after) (sym o.is) l))))
        by false off = inr (subst (IsShut (sight_of flat)) o.is (left_out_shut flat rows waiting o.app o.member o.waits off))

    pub next_is : (after : Option AppSight) (at : Option (List ℕ × ℕ)) → AreSame rows after at → (n : ℕ) → IsNextWaiter rows at n → IsNumberNext flat rows after n
    next_is after at same n h =
        let w = waiter_at flat.nodes.present flat.apps.active rows waiting h.position n h.there in
        record {
          app = w.app;
          member = w.member;
          waits = w.waits;
          number = w.number;
          next = record {
            waits = seen_waiter flat rising w.app w.member w.waits;
            later = later_out after at same (app_sight w.app) h.position w.place (subst (IsLaterWaiter rows at h.position) (sym w.number) h.later);
            first = λ other ow l. other_is after at same other ow l (λ s. is_gt (app_cmp (sight_of flat) (app_sight w.app) s) ≡ false) (λ app m there later.
                ap is_gt (cmp_is (app_sight w.app) (app_sight app) h.position (position app.number) w.place (place_of app m).path_is ∙ (λ i. waiter_cmp rows h.position (w.number i) (position app.number) app.number))
                ∙ h.first (position app.number) app.number there later);
          };
          served = waits_there flat.nodes.present flat.apps.active rows waiting w.app w.member w.on;
        }

    pub none_is : (after : Option AppSight) (at : Option (List ℕ × ℕ)) → AreSame rows after at → HasNoWaiter rows at → HasNoNextApp (sight_of flat) after
    none_is after at same h other ow l = elim (other_is after at same other ow l (λ s. ⊥) (λ app m there later. h (position app.number) app.number there later)) [ inl never ↦ absurd never | inr shut ↦ shut ]
