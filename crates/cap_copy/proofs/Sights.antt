-- A snapshot of the parts of a cluster is whole, and its sight is that of the parts.
use Rattle.cap_copy.proofs.Prelude.{◌≡◌, ℕ, ◌<◌, ◌≤◌, Bool, true, false, ◌&&◌, List, [], ◌∷◌, refl, sym, subst, ◌∙◌, ap, inl, inr, length, arith, Option, Some, cond, map, not, option_map, ◌==◌, All, slice_get, option_map_or, and_parts, eqb-true, length-map, nil_from_length, same_Some, Ask, same_key, IsRising, App, ClusterNode, NodeTable, ask_at, AppSight, NodeSight, app_sight, seen_app, same_key_itself, find_mapped_at, length-kept, map_twice, IsIn, each_of, in_filter, in_map, of_each, of_filter, of_map, found_by_number, rising_kept, AreRows, IsAt, Row, SeenRows, IsPosition, account_of, is_waiting, position_of, waiting_of, Account, AreKept, HeldApp, before_not_same, beside, registered_of, SeenApp, range_in, user_used, IsCopy, IsStored, Parts, seen_of, AskEntry, AreRanges, AreSkips, Seen, queue_seen, sight_in, IsSnapshotOf, node_seen, zero, suc, nat_tests, Ordering, Less, Equal, Greater, is_lt, ask_key_cmp, AreAfter, is_before, Key, AreByKey, IsWhole, IsWaiter, AreWaiters, Sight, seen_node, sight_of_copy, found, applications_max, HaveAsks}
use Rattle.cap_copy.proofs.Blocks.{rising_apart}
use Rattle.cap_copy.proofs.LoopSteps.{slice_get_in}
use Rattle.cap_copy.proofs.Reserving.{ranges_beside}
use Rattle.cap_copy.proofs.Seeing.{have_beside}

-- an ask after a key has a later one
pub after_in : (key : Key) (asks : List Ask) (ask : Ask) → AreAfter key asks → IsIn ask asks → is_before key ask.key ≡ true
after_in key [] ask a m = absurd m
after_in key (x ∷ asks) ask a (inl e) = ap (λ (y : Ask). is_before key y.key) (sym e) ∙ a.0
after_in key (x ∷ asks) ask a (inr m) = after_in key asks ask a.1 m

-- an ask is found by its key
asked_by_key : (asks : List Ask) (ask : Ask) → AreKept asks → IsIn ask asks → ask_at ask.key asks ≡ Some ask
asked_by_key [] ask k m = absurd m
asked_by_key (x ∷ asks) ask k (inl e) =
    ap (λ b. cond b (Some x) (ask_at ask.key asks)) (ap (λ (y : Ask). same_key y.key ask.key) e ∙ same_key_itself ask.key) ∙ ap (λ y. Some y) e
asked_by_key (x ∷ asks) ask k (inr m) =
    ap (λ b. cond b (Some x) (ask_at ask.key asks)) (before_not_same x.key ask.key (after_in x.key asks ask k.1 m)) ∙ asked_by_key asks ask k.2 m

-- the position of an application is that in its account
pub position_is : (accounts : List (ℕ × Account)) (held : HeldApp) → account_of held.app.number accounts ≡ Some held.account → position_of held.app.number accounts ≡ held.account.position
position_is accounts held e = ap (λ (o : Option Account). option_map_or (λ x. x.position) o []) e

-- what waits is placed where the active are
pub placed_all : (rows : List Row) (accounts : List (ℕ × Account)) (active : List App) (waiting : List HeldApp) → map (λ r. r.app) waiting ≡ waiting_of active →
    All (λ r. account_of r.app.number accounts ≡ Some r.account) waiting → All (λ app. IsAt rows app.leaf (position_of app.number accounts)) active → All (λ r. IsAt rows r.app.leaf r.account.position) waiting
placed_all rows accounts active waiting apps_are accounts_are placed =
    of_each (λ r. IsAt rows r.app.leaf r.account.position) waiting
    (λ held m.
    let member : IsIn held.app (waiting_of active) = subst (IsIn held.app) apps_are (in_map (λ (r : HeldApp). r.app) waiting held m) in
    let at = each_of (λ app. IsAt rows app.leaf (position_of app.number accounts)) active placed held.app (of_filter is_waiting active held.app member).1 in
    subst (IsAt rows held.app.leaf) (position_is accounts held (each_of (λ r. account_of r.app.number accounts ≡ Some r.account) waiting accounts_are held m)) at)

-- kept asks rise by key, and each is found by its key
before_less : (o : Ordering) → is_lt o ≡ true → o ≡ Less
before_less Less h = refl
before_less Equal h = absurd (cc h)
before_less Greater h = absurd (cc h)

rise_by_key : (asks : List Ask) → AreKept asks → (i j : ℕ) (a b : Ask) → i < j → slice_get asks i ≡ Some a → slice_get asks j ≡ Some b → ask_key_cmp a.key b.key ≡ Less
rise_by_key [] k i j a b lt at there = absurd (cc at)
rise_by_key (x ∷ asks) k i zero a b lt at there = absurd (omega (arith, lt))
rise_by_key (x ∷ asks) k zero (suc j) a b lt at there =
    before_less (ask_key_cmp a.key b.key) (subst (λ (y : Ask). is_before y.key b.key ≡ true) (same_Some x a at) (after_in x.key asks b k.1 (slice_get_in asks j b there)))
rise_by_key (x ∷ asks) k (suc i) (suc j) a b lt at there = rise_by_key asks k.2 i j a b (omega (arith, lt)) at there

by_key : (asks : List Ask) → AreKept asks → AreByKey asks
by_key asks k = record {
  rise = rise_by_key asks k;
  found = of_each (λ ask. ask_at ask.key asks ≡ Some ask) asks (λ ask m. asked_by_key asks ask k m);
}

-- the sight of the parts: its applications have their asks by key, its nodes are found by their numbers, and those that wait are those that have asks
module _ (K : ℕ) (parts : Parts) (waiting : List HeldApp) (rising : IsRising 1 (map (λ app. app.number) parts.apps.table.active) parts.apps.table.next) (numbers : IsRising 1 (map (λ node. node.number) parts.nodes.present) parts.nodes.next_node)
    (apps_are : map (λ r. r.app) waiting ≡ waiting_of parts.apps.table.active) (kept : All (λ r. AreKept r.app.asks) waiting) where
  abbrev sight : Sight K
  sight = sight_of_copy K parts

  abbrev active : List App
  active = parts.apps.table.active

  abbrev nodes : NodeTable
  nodes = parts.nodes

  found_app : (app : App) → IsIn app (registered_of active) → seen_app sight app.number ≡ Some (app_sight app)
  found_app app m =
      find_mapped_at app_sight (λ (a : AppSight). a.number == app.number) (registered_of active)
      ∙ ap (option_map app_sight) (found_by_number (λ (a : App). a.number) 1 (registered_of active) parts.apps.table.next app (rising_kept (λ (a : App). a.number) (λ (a : App). a.registered) 1 active parts.apps.table.next rising) m)

  -- what waits has registered, and has asks
  has_registered : (app : App) → IsIn app (waiting_of active) → IsIn app (registered_of active)
  has_registered app m =
      let w = of_filter is_waiting active app m in
      in_filter (λ (a : App). a.registered) active app (w.1) (and_parts app.registered (not (length app.asks == 0)) (w.0)).0

  waits : (app : App) → IsIn app (waiting_of active) → IsWaiter sight (app_sight app)
  waits app m =
      let some = (and_parts app.registered (not (length app.asks == 0)) (of_filter is_waiting active app m).0).1 in
      record { found = found_app app (has_registered app m); some = grind (arith, nat_tests, some) }

  -- what has asks waits
  of_waiter : (other : AppSight) → IsWaiter sight other → IsIn other (map app_sight (waiting_of active))
  of_waiter other w =
      let x = of_map app_sight (registered_of active) other (found (λ (a : AppSight). a.number == other.number) sight.apps other w.found).0 in
      let r = of_filter (λ (a : App). a.registered) active (x.0) (x.1) in
      let many : 1 ≤ length (x.0).asks = subst (λ (a : AppSight). 1 ≤ length a.asks) (sym (x.2)) w.some in
      let some : length (x.0).asks == 0 ≡ false = grind (arith, nat_tests, many) in
      subst (λ a. IsIn a (map app_sight (waiting_of active))) (x.2) (in_map app_sight (waiting_of active) (x.0) (in_filter is_waiting active (x.0) (r.1) (λ i. r.0 i && not (some i))))

  pub are_waiters : AreWaiters sight (map app_sight (waiting_of active))
  are_waiters = record {
    each = of_each (IsWaiter sight) (map app_sight (waiting_of active)) (λ a m. let x = of_map app_sight (waiting_of active) a m in subst (IsWaiter sight) (x.2) (waits (x.0) (x.1)));
    all = of_waiter;
    rise = λ i j a b lt at there.
        rising_apart (λ (x : AppSight). x.number) 1 (map app_sight (waiting_of active)) parts.apps.table.next i j a b
        (subst (λ ns. IsRising 1 ns parts.apps.table.next) (sym (map_twice (λ (x : AppSight). x.number) app_sight (waiting_of active))) (rising_kept (λ (x : App). x.number) is_waiting 1 active parts.apps.table.next rising)) at there lt;
  }

  asks_by_key : (app : App) → IsIn app (registered_of active) → AreByKey app.asks
  asks_by_key app m = by (length app.asks == 0) refl (of_filter (λ (a : App). a.registered) active app m)
    where
      by : (b : Bool) → length app.asks == 0 ≡ b → (app.registered ≡ true) × IsIn app active → AreByKey app.asks
      by true e r = subst AreByKey (sym (nil_from_length app.asks (eqb-true (length app.asks) 0 e))) (by_key [] tt)
      by false e r =
          let w : IsIn app (waiting_of active) = in_filter is_waiting active app (r.1) (λ i. r.0 i && not (e i)) in
          let h = of_map (λ (x : HeldApp). x.app) waiting app (subst (IsIn app) (sym apps_are) w) in
          by_key app.asks (subst (λ (a : App). AreKept a.asks) (h.2) (each_of (λ (x : HeldApp). AreKept x.app.asks) waiting kept (h.0) (h.1)))

  node_found : (x : NodeSight) → IsIn x sight.nodes → seen_node sight x.number ≡ Some x
  node_found x m =
      let y = of_map (node_seen K nodes) nodes.present x m in
      subst (λ (z : NodeSight). seen_node sight z.number ≡ Some z) (y.2) (
      find_mapped_at (node_seen K nodes) (λ (a : NodeSight). a.number == (y.0).number) nodes.present
      ∙ ap (option_map (node_seen K nodes)) (found_by_number (λ (a : ClusterNode). a.number) 1 nodes.present nodes.next_node (y.0) numbers (y.1))
      )

  pub are_whole : IsWhole sight
  are_whole = record {
    asks = of_each (λ (a : AppSight). AreByKey a.asks) sight.apps (λ a m. let x = of_map app_sight (registered_of active) a m in subst (λ (b : AppSight). AreByKey b.asks) (x.2) (asks_by_key (x.0) (x.1)));
    nodes = of_each (λ (x : NodeSight). seen_node sight x.number ≡ Some x) sight.nodes node_found;
  }

-- no more wait than are active
pub few_waiting : (active : List App) (waiting : List HeldApp) (most : ℕ) → map (λ r. r.app) waiting ≡ waiting_of active → length active ≤ most → length waiting ≤ most
few_waiting active waiting most e h =
    let same = ap length e in
    omega (arith, same, length-map waiting (λ (r : HeldApp). r.app), length-kept is_waiting active, h)

pub positions_there : (rows : List Row) (waiting : List HeldApp) → All (λ r. IsAt rows r.app.leaf r.account.position) waiting → All (λ r. IsPosition rows r.account.position) waiting
positions_there rows waiting placed = λ k d lt. (placed k d lt).present

-- applications as a snapshot keeps them are at their leaves, and their numbers rise
at_leaves : (rows : List Row) (apps : List SeenApp) → All (λ r. IsAt rows r.app.leaf r.account.position) (map (λ a. a.held) apps) → All (λ a. IsAt rows a.held.app.leaf a.held.account.position) apps
at_leaves rows apps placed =
    of_each (λ (a : SeenApp). IsAt rows a.held.app.leaf a.held.account.position) apps
    (λ a m. each_of (λ (r : HeldApp). IsAt rows r.app.leaf r.account.position) (map (λ (x : SeenApp). x.held) apps) placed a.held (in_map (λ (x : SeenApp). x.held) apps a m))

pub placed_apps : (rows : List Row) (apps : List SeenApp) → All (λ r. IsAt rows r.app.leaf r.account.position) (map (λ a. a.held) apps) → All (λ a. IsPosition rows a.held.account.position) apps
placed_apps rows apps placed = λ k d lt. (at_leaves rows apps placed k d lt).present

pub rising_apps : (active : List App) (next : ℕ) (apps : List SeenApp) → IsRising 1 (map (λ app. app.number) active) next → map (λ r. r.app) (map (λ a. a.held) apps) ≡ waiting_of active → IsRising 1 (map (λ a. a.held.app.number) apps) next
rising_apps active next apps rising same =
    subst (λ ns. IsRising 1 ns next)
    (ap (map (λ (app : App). app.number)) (sym same) ∙ map_twice (λ (app : App). app.number) (λ (r : HeldApp). r.app) (map (λ (a : SeenApp). a.held) apps) ∙ map_twice (λ (r : HeldApp). r.app.number) (λ (a : SeenApp). a.held) apps)
    (rising_kept (λ (app : App). app.number) is_waiting 1 active next rising)

pub few_apps : (active : List App) (apps : List SeenApp) (most : ℕ) → map (λ r. r.app) (map (λ a. a.held) apps) ≡ waiting_of active → length active ≤ most → length apps ≤ most
few_apps active apps most same h =
    let few = few_waiting active (map (λ (a : SeenApp). a.held) apps) most same h in
    omega (arith, few, length-map apps (λ (a : SeenApp). a.held))

-- what is copied and arranged is a snapshot: the applications wait in the tree, the asks want what they want beside the reservations of the nodes
module _ (K : ℕ) (parts : Parts) (apps : List SeenApp) (raw asks : List AskEntry) (nodes : List NodeSight) (skips : List ℕ) (live next : ℕ) (copied : IsCopy K parts (map (λ a. a.held) apps) apps raw nodes live next) (rows_are : AreRows parts.rows)
    (tree : SeenRows) (same_rows : tree.rows ≡ parts.rows) (waits : tree.waiting ≡ map (λ a. a.held.account.position) apps) (asks_are : asks ≡ map (beside nodes) raw) (skips_are : AreSkips nodes skips) where
  abbrev pub made : Seen
  made = seen_of tree (map app_sight (registered_of parts.apps.table.active)) apps nodes live next

  abbrev held_apps : List HeldApp
  held_apps = map (λ a. a.held) apps

  abbrev own_active : List App
  own_active = parts.apps.table.active

  sight_is : sight_in K made ≡ sight_of_copy K parts
  sight_is = λ k. record {
    queues = map (queue_seen K) (same_rows k);
    apps = map app_sight (registered_of own_active);
    nodes = copied.nodes_are k;
    live = copied.live_is k;
    next_container = copied.next_is k;
  }

  pub made_of_parts : IsSnapshotOf K parts.rows parts.apps.table parts.nodes made
  made_of_parts = record { rows = same_rows; sight = sight_is; numbers = copied.numbers }

  waiting_is : map (λ (a : SeenApp). app_sight a.held.app) apps ≡ map app_sight (waiting_of own_active)
  waiting_is = sym (map_twice (λ (r : HeldApp). app_sight r.app) (λ (a : SeenApp). a.held) apps) ∙ sym (map_twice app_sight (λ (r : HeldApp). r.app) held_apps) ∙ ap (map app_sight) copied.apps_are

  pub is_stored : IsStored K tree apps asks skips made
  is_stored = record {
    resources = copied.resources;
    few = few_apps own_active apps applications_max copied.apps_are copied.few;
    is = record {
      whole = subst IsWhole (sym sight_is) (are_whole K parts held_apps copied.rising copied.numbers copied.apps_are copied.kept);
      waiters = subst (λ s. AreWaiters s made.waiting) (sym sight_is) (subst (AreWaiters (sight_of_copy K parts)) (sym waiting_is) (are_waiters K parts held_apps copied.rising copied.numbers copied.apps_are copied.kept));
    };
    rows_are = subst AreRows (sym same_rows) rows_are;
    waiting = waits;
    placed = subst (λ rs. All (λ a. IsAt rs a.held.app.leaf a.held.account.position) apps) (sym same_rows) (at_leaves parts.rows apps (placed_all parts.rows parts.apps.accounts own_active held_apps copied.apps_are copied.accounts_are copied.placed));
    used = subst (λ rs. All (λ a. a.used ≡ user_used K rs a.held) apps) (sym same_rows) copied.seen_are.used;
    have = subst (λ es. HaveAsks nodes es apps) (sym asks_are) (have_beside nodes raw apps copied.seen_are.have);
    ranges = subst (λ es. AreRanges es (map range_in apps)) (sym asks_are) (ranges_beside nodes raw (map range_in apps) copied.seen_are.ranges);
    skips_are = skips_are;
  }
