-- The tree knows which applications it follows, as applications and rows change.
use Rattle.cap_commit.proofs.Prelude.{◌≡◌, ℕ, ◌+◌, ◌-◌, ◌<◌, ◌≤◌, Bool, true, false, List, [], ◌∷◌, ◌++◌, length, map, map-id, Option, Some, None, refl, sym, ◌∙◌, ap, subst, inl, arith, not, ◌==◌, ◌&&◌, nat_tests, find, filter, if◌then◌else◌, and_parts, bytes_eq, bytes_itself, count_by, count_by-le-length, All, option_map_or, kept_if, applications_max, Flat, App, is_under, IsIn, IsRising, found, found_by_number, in_filter, in_map, of_filter, of_map, each_of, of_each, KeepsApp, only_app, Test, count_of, one_where, Measure, Queue, IsUnused, QueueRow, HoldsOfItem, Row, IsAt, moved_above, moved_at, moved_row, Count, new_app, with_row_of_path, with_settings, with_state, IsRowOf, IsWaitedAt, numbers_of, waits_where}
use Rattle.cap_base.specs.Limits.{number_end}
use Rattle.cap_tree.specs.Numbers.{AreNumbers, with_number, without_number}
use Rattle.cap_tree.specs.NumberLaws.{length-with_number, length-without_number}
use Rattle.cap_tree.specs.Queue.{active_of, served_above, waiting_above, waiting_less, waiting_more}
use Rattle.cap_tree.specs.Waiting.{HasRoomAt, waiting_at, waits_in}
use Rattle.cap_model.proofs.lists.Numbered.{rising_from_low, rising_kept}
use Rattle.cap_commit.specs.Waiting.{IsSettled, MayBegin, followed_row}
use Rattle.cap_commit.proofs.Moving.{under_it}
use Rattle.cap_commit.proofs.Numbers.{length-numbers_of, numbers_entered, numbers_left, numbers_less, numbers_more, numbers_same, with_all, with_none}
use Rattle.cap_commit.proofs.Rooms.{all_counted, fewer_pass}
use Rattle.cap_commit.proofs.RowsAt.{IsRowAt, row_at}
use Rattle.cap_commit.proofs.Ties.{changed_path, changed_row}

-- what a queue shows where its applications are others, and others are followed, with the same numbers
other_apps : (F G : ℕ → Bool) (apps apps' : List App) (r : Row) → ((leaf : List ℕ → Bool) → numbers_of (waits_where G leaf) apps' ≡ numbers_of (waits_where F leaf) apps) → IsWaitedAt F apps r → IsWaitedAt G apps' r
other_apps F G apps apps' r same h = record {
  numbers = h.numbers ∙ sym (same (bytes_eq r.path));
  count = h.count ∙ sym (length-numbers_of (waits_where F (is_under r.path)) apps) ∙ sym (ap length (same (is_under r.path))) ∙ length-numbers_of (waits_where G (is_under r.path)) apps';
}

pub other_rows : (F G : ℕ → Bool) (apps apps' : List App) (rows : List Row) → ((leaf : List ℕ → Bool) → numbers_of (waits_where G leaf) apps' ≡ numbers_of (waits_where F leaf) apps) → All (IsWaitedAt F apps) rows → All (IsWaitedAt G apps') rows
other_rows F G apps apps' rows same a = of_each (IsWaitedAt G apps') rows (λ r m. other_apps F G apps apps' r same (each_of (IsWaitedAt F apps) rows a r m))

-- where nothing is there, nothing waits
pub waited_opened : (K : ℕ) (F : ℕ → Bool) (apps : List App) (rows : List Row) → apps ≡ [] → All (λ r. IsUnused K r.item) rows → All (IsWaitedAt F apps) rows
waited_opened K F apps rows none a = of_each (IsWaitedAt F apps) rows (λ r m.
    let u = each_of (λ (s : Row). IsUnused K s.item) rows a r m in
    record { numbers = u.waiting ∙ sym (ap (numbers_of (waits_where F (bytes_eq r.path))) none); count = u.waits ∙ sym (ap (count_by (waits_where F (is_under r.path))) none) })

-- those that are followed, where one is from now on, or is not
abbrev pub set_at : ℕ → Bool → (ℕ → Bool) → ℕ → Bool
set_at n waits F m = if m == n then waits else F m

pub set_there : (n m : ℕ) (waits : Bool) (F : ℕ → Bool) → m ≡ n → set_at n waits F m ≡ waits
set_there n m waits F e = let t : (m == n) ≡ true = grind (arith, nat_tests, e) in ap (λ b. if b then waits else F m) t

pub set_other : (n m : ℕ) (waits : Bool) (F : ℕ → Bool) → m == n ≡ false → set_at n waits F m ≡ F m
set_other n m waits F e = ap (λ b. if b then waits else F m) e

-- after an application has entered, which is not followed
pub waited_entered : (F : ℕ → Bool) (apps : List App) (rows : List Row) (n : ℕ) (leaf user : List ℕ) → ((x : App) → IsIn x apps → x.number == n ≡ false) → All (IsWaitedAt F apps) rows → All (IsWaitedAt (set_at n false F) (apps ++ new_app n leaf user ∷ [])) rows
waited_entered F apps rows n leaf user new a =
    other_rows F (set_at n false F) apps (apps ++ new_app n leaf user ∷ []) rows (λ f.
    numbers_entered (waits_where (set_at n false F) f) (new_app n leaf user) apps (ap (λ b. f leaf && b) (set_there n n false F refl) ∙ with_none (f leaf))
    ∙ ap (numbers_of (waits_where (set_at n false F) f)) (sym (map-id apps))
    ∙ numbers_same (waits_where F f) (waits_where (set_at n false F) f) (λ x. x) apps (λ x m. record { number = refl; passes = ap (λ b. f x.leaf && b) (set_other n x.number false F (new x m)) })) a

-- after a change of applications that keeps their numbers and leaves
pub waited_same : (F : ℕ → Bool) (f : App → App) → KeepsApp f → (apps : List App) (rows : List Row) → All (IsWaitedAt F apps) rows → All (IsWaitedAt F (map f apps)) rows
waited_same F f k apps rows a =
    other_rows F F apps (map f apps) rows (λ leaf. numbers_same (waits_where F leaf) (waits_where F leaf) f apps (λ x m. record { number = k.number x; passes = λ i. leaf (k.leaf x i) && F (k.number x i) })) a

-- rows that keep their paths and what waits
pub record KeepsWaiting (f : Row → Row) : Type 0 where
  pub path : (r : Row) → (f r).path ≡ r.path
  pub waiting : (r : Row) → (f r).item.waiting ≡ r.item.waiting
  pub waits : (r : Row) → (f r).item.waits ≡ r.item.waits

pub waited_rows : (F : ℕ → Bool) (f : Row → Row) → KeepsWaiting f → (apps : List App) (rows : List Row) → All (IsWaitedAt F apps) rows → All (IsWaitedAt F apps) (map f rows)
waited_rows F f k apps rows a = of_each (IsWaitedAt F apps) (map f rows) (λ r m.
    let w = of_map f rows r m in
    let h = each_of (IsWaitedAt F apps) rows a (w.0) (w.1) in
    subst (IsWaitedAt F apps) (w.2) (record {
      numbers = k.waiting (w.0) ∙ h.numbers ∙ ap (λ p. numbers_of (waits_where F (bytes_eq p)) apps) (sym (k.path (w.0)));
      count = k.waits (w.0) ∙ h.count ∙ ap (λ p. count_by (waits_where F (is_under p)) apps) (sym (k.path (w.0)));
    }))

pub moved_keeps : (K : ℕ) (leaf user : List ℕ) (old new : Count) → KeepsWaiting (moved_row K leaf user old new)
moved_keeps K leaf user old new = record {
  path = changed_path (moved_above old new) (moved_at K user old new) leaf;
  waiting = λ r. changed_row (moved_above old new) (moved_at K user old new) leaf (λ s. s.item.waiting ≡ r.item.waiting) r (λ e. refl) (λ e u. refl) (λ e u. refl);
  waits = λ r. changed_row (moved_above old new) (moved_at K user old new) leaf (λ s. s.item.waits ≡ r.item.waits) r (λ e. refl) (λ e u. refl) (λ e u. refl);
}

pub state_keeps : (path : List ℕ) (running : Bool) → KeepsWaiting (with_state path running)
state_keeps path running = record {
  path = λ r. kept_if (bytes_eq r.path path) (λ (x : Row). x.path) _ r refl;
  waiting = λ r. kept_if (bytes_eq r.path path) (λ (x : Row). x.item.waiting) _ r refl;
  waits = λ r. kept_if (bytes_eq r.path path) (λ (x : Row). x.item.waits) _ r refl;
}

pub rows_keep : (qs : List QueueRow) → KeepsWaiting (with_row_of_path qs)
rows_keep qs = record {
  path = λ r. name r (find (λ q. bytes_eq q.path r.path) qs);
  waiting = λ r. numbers r (find (λ q. bytes_eq q.path r.path) qs);
  waits = λ r. count r (find (λ q. bytes_eq q.path r.path) qs);
}
  where
    changed : Row → Option QueueRow → Row
    changed r o = option_map_or (λ (q : QueueRow). record r { item = with_settings q r.item }) o r

    name : (r : Row) (o : Option QueueRow) → (changed r o).path ≡ r.path
    name r None = refl
    name r (Some q) = refl

    numbers : (r : Row) (o : Option QueueRow) → (changed r o).item.waiting ≡ r.item.waiting
    numbers r None = refl
    numbers r (Some q) = refl

    count : (r : Row) (o : Option QueueRow) → (changed r o).item.waits ≡ r.item.waits
    count r None = refl
    count r (Some q) = refl

less_where : (a b : Bool) → one_where (a && b) ≤ one_where a
less_where true true = omega arith
less_where true false = omega arith
less_where false b = omega arith

-- an application of that number
module _ (F : ℕ → Bool) (apps : List App) (high n : ℕ) (a : App) (rising : IsRising 1 (map (λ (x : App). x.number) apps) high) (found_it : find (λ (x : App). x.number == n) apps ≡ Some a) where
  member : IsIn a apps
  member = (found (λ (x : App). x.number == n) apps a found_it).0

  pub number_is : a.number ≡ n
  number_is = let t = (found (λ (x : App). x.number == n) apps a found_it).1 in grind (arith, nat_tests, t)

  pub is_it : (x : App) → IsIn x apps → x.number == n ≡ true → x ≡ a
  is_it x m e =
      let number : x.number ≡ n = grind (arith, nat_tests, e) in
      let own : find (λ (y : App). y.number == n) apps ≡ Some x = ap (λ k. find (λ (y : App). y.number == k) apps) (sym number) ∙ found_by_number (λ (y : App). y.number) 1 apps high x rising m in
      cc (own, found_it)

  -- its number is among those that wait in its leaf exactly where it is followed
  is_among : (leaf : List ℕ → Bool) → leaf a.leaf ≡ true → F n ≡ true → IsIn n (numbers_of (waits_where F leaf) apps)
  is_among leaf here on =
      subst (λ k. IsIn k (numbers_of (waits_where F leaf) apps)) number_is
      (in_map (λ (x : App). x.number) (filter (waits_where F leaf) apps) a (in_filter (waits_where F leaf) apps a member (λ i. here i && (ap F number_is ∙ on) i)))

  not_among : (leaf : List ℕ → Bool) → F n ≡ false → ¬ IsIn n (numbers_of (waits_where F leaf) apps)
  not_among leaf none m =
      let w = of_map (λ (x : App). x.number) (filter (waits_where F leaf) apps) n m in
      let f = of_filter (waits_where F leaf) apps (w.0) (w.1) in
      let on = (and_parts (leaf (w.0).leaf) (F (w.0).number) f.0).1 in
      let number = ap F (w.2) in
      absurd (cc (none, on, number))

  -- it is followed exactly where it waits in the tree
  module _ (rows : List Row) (waited : All (IsWaitedAt F apps) rows) (position : List ℕ) (at : IsAt rows a.leaf position) where
    it : IsRowAt rows a.leaf position
    it = row_at rows a.leaf position at

    shown : IsWaitedAt F apps it.row
    shown = each_of (IsWaitedAt F apps) rows waited it.row it.member

    waiting_is : waiting_at position rows ≡ numbers_of (waits_where F (bytes_eq a.leaf)) apps
    waiting_is = ap (λ o. option_map_or (λ (q : Queue). q.waiting) o []) it.item_is ∙ shown.numbers ∙ ap (λ p. numbers_of (waits_where F (bytes_eq p)) apps) it.path_is

    pub is_followed : IsIn n (waiting_at position rows) → F n ≡ true
    is_followed m = by (F n) refl
      where
        by : (b : Bool) → F n ≡ b → b ≡ true
        by true e = refl
        by false e = absurd (not_among (bytes_eq a.leaf) e (subst (IsIn n) waiting_is m))

    pub not_followed : ¬ IsIn n (waiting_at position rows) → F n ≡ false
    not_followed out = by (F n) refl
      where
        by : (b : Bool) → F n ≡ b → b ≡ false
        by false e = refl
        by true e = absurd (out (subst (IsIn n) (sym waiting_is) (is_among (bytes_eq a.leaf) (bytes_itself a.leaf) e)))

    pub waited_is : (position' : List ℕ) (waits : Bool) (new : List Row) → position' ≡ position → (s : IsSettled n position' waits rows new) → F n ≡ s.waited
    waited_is position' waits new e s = by s.waited s.there s.absent
      where
        by : (b : Bool) → (b ≡ true → IsIn n (waiting_at position' rows)) → (b ≡ false → ¬ IsIn n (waiting_at position' rows)) → F n ≡ b
        by true there absent = is_followed (subst (λ q. IsIn n (waiting_at q rows)) e (there refl))
        by false there absent = not_followed (subst (λ q. ¬ IsIn n (waiting_at q rows)) e (absent refl))

    -- and may begin to
    module _ {K : ℕ} (cluster : Flat K) (tied : All (IsRowOf cluster) rows) (same : (test : Test) → count_of test cluster.apps.active ≡ count_of test apps) (few : length apps ≤ applications_max) where
      in_its_leaf : bytes_eq it.row.path a.leaf ≡ true
      in_its_leaf = ap (λ p. bytes_eq p a.leaf) it.path_is ∙ bytes_itself a.leaf

      has_room : F n ≡ false → HasRoomAt position rows
      has_room none =
          let path = it.row.path in
          let l = ap length shown.numbers in
          let ln = length-numbers_of (waits_where F (bytes_eq path)) apps in
          let fewer = fewer_pass (waits_where F (bytes_eq path)) (λ app. bytes_eq path app.leaf) apps a member (ap (λ b. bytes_eq path a.leaf && b) (ap F number_is ∙ none) ∙ with_none (bytes_eq path a.leaf)) in_its_leaf (λ x. less_where (bytes_eq path x.leaf) (F x.number)) in
          let all = all_counted path cluster.apps.active it.row.item.users (λ user. (each_of (IsRowOf cluster) rows tied it.row it.member).users user Measure.active) in
          let counts = same (λ leaf user. bytes_eq path leaf) in
          subst (HoldsOfItem (λ (q : Queue). length q.waiting < active_of q.users)) (sym it.item_is) (omega (arith, l, ln, fewer, all, counts))

      few_wait : (rs : List Row) → All (IsWaitedAt F apps) rs → waits_in rs < number_end
      few_wait [] h = omega arith
      few_wait (r ∷ rs) h =
          let c = (each_of (IsWaitedAt F apps) (r ∷ rs) h r (inl refl)).count in
          let l = count_by-le-length (waits_where F (is_under r.path)) apps in
          omega (arith, c, l, few)

      pub may_begin : ¬ IsIn n (waiting_at position rows) → MayBegin n position rows
      may_begin out = record {
        number = let l = rising_from_low (λ (x : App). x.number) 1 apps high a rising member in let e = number_is in omega (arith, l, e);
        other = out;
        room = has_room (not_followed out);
        few = few_wait rows waited;
      }

  -- it changes, and keeps its number and leaf, and is followed from now on or is not
  module _ (f : App → App) (k : KeepsApp f) (waits : Bool) where
    abbrev changed : App → App
    changed x = if x.number == n then f x else x

    abbrev G : ℕ → Bool
    G = set_at n waits F

    number_kept : (x : App) → (changed x).number ≡ x.number
    number_kept = (only_app n f k).number

    at_it : (x : App) → x.number == n ≡ true → changed x ≡ f x
    at_it x e = ap (λ b. if b then f x else x) e

    at_other : (x : App) → x.number == n ≡ false → changed x ≡ x
    at_other x e = ap (λ b. if b then f x else x) e

    test_it : (leaf : List ℕ → Bool) (x : App) → IsIn x apps → x.number == n ≡ true → waits_where G leaf (changed x) ≡ leaf a.leaf && waits
    test_it leaf x m e =
        ap (waits_where G leaf) (at_it x e ∙ ap f (is_it x m e)) ∙ (λ i. leaf (k.leaf a i) && G ((k.number a ∙ number_is) i)) ∙ ap (λ b. leaf a.leaf && b) (set_there n n waits F refl)

    test_was : (leaf : List ℕ → Bool) (x : App) → IsIn x apps → x.number == n ≡ true → waits_where F leaf x ≡ leaf a.leaf && F n
    test_was leaf x m e = ap (waits_where F leaf) (is_it x m e) ∙ ap (λ k. leaf a.leaf && F k) number_is

    test_other : (leaf : List ℕ → Bool) (x : App) → x.number == n ≡ false → waits_where G leaf (changed x) ≡ waits_where F leaf x
    test_other leaf x e = ap (waits_where G leaf) (at_other x e) ∙ ap (λ b. leaf x.leaf && b) (set_other n x.number waits F e)

    stays : (leaf : List ℕ → Bool) → leaf a.leaf && waits ≡ leaf a.leaf && F n → numbers_of (waits_where G leaf) (map changed apps) ≡ numbers_of (waits_where F leaf) apps
    stays leaf same = numbers_same (waits_where F leaf) (waits_where G leaf) changed apps (λ x m. record { number = number_kept x; passes = by x m (x.number == n) refl })
      where
        by : (x : App) → IsIn x apps → (b : Bool) → x.number == n ≡ b → waits_where G leaf (changed x) ≡ waits_where F leaf x
        by x m true e = test_it leaf x m e ∙ same ∙ sym (test_was leaf x m e)
        by x m false e = test_other leaf x e

    apart : (leaf : List ℕ → Bool) → leaf a.leaf ≡ false → numbers_of (waits_where G leaf) (map changed apps) ≡ numbers_of (waits_where F leaf) apps
    apart leaf off = stays leaf (ap (λ b. b && waits) off ∙ sym (ap (λ b. b && F n) off))

    goes : (leaf : List ℕ → Bool) → waits ≡ false → numbers_of (waits_where G leaf) (map changed apps) ≡ without_number n (numbers_of (waits_where F leaf) apps)
    goes leaf off = numbers_less (waits_where F leaf) (waits_where G leaf) changed n apps (λ x m. record { number = number_kept x; passes = by x m (x.number == n) refl })
      where
        by : (x : App) → IsIn x apps → (b : Bool) → x.number == n ≡ b → waits_where G leaf (changed x) ≡ waits_where F leaf x && not b
        by x m true e = test_it leaf x m e ∙ ap (λ b. leaf a.leaf && b) off ∙ with_none (leaf a.leaf) ∙ sym (with_none (waits_where F leaf x))
        by x m false e = test_other leaf x e ∙ sym (with_all (waits_where F leaf x))

    comes : (leaf : List ℕ → Bool) → leaf a.leaf ≡ true → F n ≡ false → waits ≡ true → numbers_of (waits_where G leaf) (map changed apps) ≡ with_number n (numbers_of (waits_where F leaf) apps)
    comes leaf here was now = numbers_more (waits_where F leaf) (waits_where G leaf) changed n 1 high apps rising a member number_is (λ x m. record {
      number = number_kept x;
      it = λ e. (test_was leaf x m e ∙ ap (λ b. leaf a.leaf && b) was ∙ with_none (leaf a.leaf), test_it leaf x m e ∙ (λ i. here i && now i));
      other = λ e. test_other leaf x e;
    })

    numbers_are : (leaf : List ℕ → Bool) → AreNumbers (numbers_of (waits_where F leaf) apps)
    numbers_are leaf = record { end = high; rise = rising_kept (λ (x : App). x.number) (waits_where F leaf) 1 apps high rising }

    kept : waits ≡ F n → (r : Row) → IsWaitedAt F apps r → IsWaitedAt G (map changed apps) r
    kept same r h = other_apps F G apps (map changed apps) r (λ leaf. stays leaf (ap (λ b. leaf a.leaf && b) same)) h

    follows : (waited now : Bool) → F n ≡ waited → waits ≡ now → (r : Row) → IsWaitedAt F apps r → IsWaitedAt G (map changed apps) (followed_row n a.leaf waited now r)
    follows true true was is r h = kept (is ∙ sym was) r h
    follows false false was is r h = kept (is ∙ sym was) r h
    follows false true was is r h =
        changed_row waiting_above (waiting_more n) a.leaf (IsWaitedAt G (map changed apps)) r
        (λ e. record { numbers = ap (with_number n) h.numbers ∙ sym (comes (bytes_eq r.path) e was is); count = more (under_it a.leaf r.path e) })
        (λ e u. record { numbers = h.numbers ∙ sym (apart (bytes_eq r.path) e); count = more u })
        (λ e u. record { numbers = h.numbers ∙ sym (apart (bytes_eq r.path) e); count = same u })
      where
        more : is_under r.path a.leaf ≡ true → r.item.waits + 1 ≡ count_by (waits_where G (is_under r.path)) (map changed apps)
        more u =
            let c = ap length (comes (is_under r.path) u was is) in
            let l = length-with_number n (numbers_of (waits_where F (is_under r.path)) apps) in
            let x = length-numbers_of (waits_where G (is_under r.path)) (map changed apps) in
            let y = length-numbers_of (waits_where F (is_under r.path)) apps in
            let w = h.count in
            omega (arith, c, l, x, y, w)

        same : is_under r.path a.leaf ≡ false → r.item.waits ≡ count_by (waits_where G (is_under r.path)) (map changed apps)
        same u = h.count ∙ sym (length-numbers_of (waits_where F (is_under r.path)) apps) ∙ sym (ap length (apart (is_under r.path) u)) ∙ length-numbers_of (waits_where G (is_under r.path)) (map changed apps)
    follows true false was is r h =
        changed_row served_above (waiting_less n) a.leaf (IsWaitedAt G (map changed apps)) r
        (λ e. record { numbers = ap (without_number n) h.numbers ∙ sym (goes (bytes_eq r.path) is); count = fewer (under_it a.leaf r.path e) })
        (λ e u. record { numbers = h.numbers ∙ sym (apart (bytes_eq r.path) e); count = fewer u })
        (λ e u. record { numbers = h.numbers ∙ sym (apart (bytes_eq r.path) e); count = same u })
      where
        fewer : is_under r.path a.leaf ≡ true → r.item.waits - 1 ≡ count_by (waits_where G (is_under r.path)) (map changed apps)
        fewer u =
            let c = ap length (goes (is_under r.path) is) in
            let l = length-without_number n (numbers_of (waits_where F (is_under r.path)) apps) (numbers_are (is_under r.path)) (is_among (is_under r.path) u was) in
            let x = length-numbers_of (waits_where G (is_under r.path)) (map changed apps) in
            let y = length-numbers_of (waits_where F (is_under r.path)) apps in
            let w = h.count in
            omega (arith, c, l, x, y, w)

        same : is_under r.path a.leaf ≡ false → r.item.waits ≡ count_by (waits_where G (is_under r.path)) (map changed apps)
        same u = h.count ∙ sym (length-numbers_of (waits_where F (is_under r.path)) apps) ∙ sym (ap length (apart (is_under r.path) u)) ∙ length-numbers_of (waits_where G (is_under r.path)) (map changed apps)

    -- the rows that follow it
    pub waited_followed : (waited : Bool) → F n ≡ waited → (rows : List Row) → All (IsWaitedAt F apps) rows → All (IsWaitedAt G (map changed apps)) (map (followed_row n a.leaf waited waits) rows)
    waited_followed waited was rows h = of_each (IsWaitedAt G (map changed apps)) (map (followed_row n a.leaf waited waits) rows) (λ r m.
        let w = of_map (followed_row n a.leaf waited waits) rows r m in
        subst (IsWaitedAt G (map changed apps)) (w.2) (follows waited waits was refl (w.0) (each_of (IsWaitedAt F apps) rows h (w.0) (w.1))))

  -- it leaves, once it is not followed
  pub waited_left : (waited : Bool) → F n ≡ waited → (rows : List Row) → All (IsWaitedAt F apps) rows → All (IsWaitedAt F (filter (λ (x : App). not (x.number == n)) apps)) (map (followed_row n a.leaf waited false) rows)
  waited_left waited was rows h =
      other_rows (set_at n false F) F (map (changed itself keeps false) apps) (filter (λ (x : App). not (x.number == n)) apps) (map (followed_row n a.leaf waited false) rows)
      (λ leaf. numbers_left n (waits_where F leaf) apps ∙ sym (goes itself keeps false leaf refl)) (waited_followed itself keeps false waited was rows h)
    where
      itself : App → App
      itself x = x

      keeps : KeepsApp itself
      keeps = record { number = λ x. refl; leaf = λ x. refl; user = λ x. refl }
