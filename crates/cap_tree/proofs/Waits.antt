-- What waits in a tree of queues, after a change.
use Rattle.cap_tree.proofs.Prelude.{◌≡◌, ℕ, ◌+◌, ◌-◌, ◌<◌, ◌≤◌, List, [], ◌∷◌, length, inl, inr, number_end, of_queue, root_count, map, Option, Some, None, refl, sym, ◌∙◌, ap, subst, arith, option_map_or, IsIn, each_of, All, Queue, Row, IsUnused, AreSpots, HoldsOfItem, IsPosition, change_along, item_at}
use Rattle.cap_tree.proofs.Counted.{IsUncounted, MayBeMade, counted_changed, good_at, none_counted}
use Rattle.cap_tree.proofs.RowPaths.{at_position}
use Rattle.cap_tree.specs.Counted.{AreWaiting}
use Rattle.cap_tree.specs.Numbers.{AreNumbers}
use Rattle.cap_tree.specs.NumberLaws.{numbers_with, numbers_without, length-with_number, length-without_number}
use Rattle.cap_tree.specs.Queue.{IsFree, active_of, served_above, waiting_above, waiting_less, waiting_more}
use Rattle.cap_tree.specs.QueueLaws.{same_number}
use Rattle.cap_tree.specs.Measure.{Measure, MayChange, one_waiting}
use Rattle.cap_tree.specs.Waiting.{HasRoomAt, waiting_at, waits_in}

-- a change that leaves what waits
pub waiting_kept : (above at : Queue → Queue) → ((q : Queue) → (above q).name ≡ q.name) → ((q : Queue) → (at q).name ≡ q.name) → ((q : Queue) → (above q).waiting ≡ q.waiting) → ((q : Queue) → (at q).waiting ≡ q.waiting) →
    ((q : Queue) → (above q).waits ≡ q.waits) → ((q : Queue) → (at q).waits ≡ q.waits) → (position : List ℕ) (rows : List Row) → AreWaiting rows → IsPosition rows position → AreWaiting (map (change_along above at position) rows)
waiting_kept above at na nt wa wt ca ct position rows w there =
    (counted_changed (λ q. q.name) (λ q. AreNumbers q.waiting) (λ q. q.waits) (λ q. length q.waiting) above at 0 0 na nt (λ q ok. subst AreNumbers (sym (wa q)) ok) (λ q. ap length (wa q)) (λ q. ca q ∙ same_number q.waits) (λ q. ct q ∙ same_number q.waits) w position
    (made (item_at position rows) (good_at (λ q. q.name) (λ q. AreNumbers q.waiting) (λ q. q.waits) (λ q. length q.waiting) w position there))).is
  where
    made : (o : Option Queue) → HoldsOfItem (λ (q : Queue). AreNumbers q.waiting) o
        → HoldsOfItem (MayBeMade (λ (q : Queue). q.name) (λ (q : Queue). AreNumbers q.waiting) (λ (q : Queue). q.waits) (λ (q : Queue). length q.waiting) above at 0 0 na nt (λ q ok. subst AreNumbers (sym (wa q)) ok) (λ q. ap length (wa q)) (λ q. ca q ∙ same_number q.waits) (λ q. ct q ∙ same_number q.waits)) o
    made None h = absurd h
    made (Some q) h = record { is_good = subst AreNumbers (sym (wt q)) h; fits = omega arith; own_is = ap length (wt q) ∙ same_number (length q.waiting) }

-- one more that waits
pub waiting_one_more : (n : ℕ) (position : List ℕ) (rows : List Row) → AreWaiting rows → IsPosition rows position → 1 ≤ n → ¬ IsIn n (waiting_at position rows) → AreWaiting (map (change_along waiting_above (waiting_more n) position) rows)
waiting_one_more n position rows w there some other =
    (counted_changed (λ q. q.name) (λ q. AreNumbers q.waiting) (λ q. q.waits) (λ q. length q.waiting) waiting_above (waiting_more n) 0 1 (λ q. refl) (λ q. refl) (λ q ok. ok) (λ q. refl) (λ q. more q.waits) (λ q. more q.waits) w position
    (made (item_at position rows) (good_at (λ q. q.name) (λ q. AreNumbers q.waiting) (λ q. q.waits) (λ q. length q.waiting) w position there) other)).is
  where
    more : (k : ℕ) → k + 1 ≡ k - 0 + 1
    more k = omega arith

    made : (o : Option Queue) → HoldsOfItem (λ (q : Queue). AreNumbers q.waiting) o → ¬ IsIn n (option_map_or (λ (q : Queue). q.waiting) o [])
        → HoldsOfItem (MayBeMade (λ (q : Queue). q.name) (λ (q : Queue). AreNumbers q.waiting) (λ (q : Queue). q.waits) (λ (q : Queue). length q.waiting) waiting_above (waiting_more n) 0 1 (λ q. refl) (λ q. refl) (λ q ok. ok) (λ q. refl) (λ q. more q.waits) (λ q. more q.waits)) o
    made None h out = absurd h
    made (Some q) h out = record { is_good = numbers_with n q.waiting h some out; fits = omega arith; own_is = let l = length-with_number n q.waiting in omega (arith, l) }

-- one less
pub waiting_one_less : (n : ℕ) (position : List ℕ) (rows : List Row) → AreWaiting rows → IsPosition rows position → IsIn n (waiting_at position rows) → AreWaiting (map (change_along served_above (waiting_less n) position) rows)
waiting_one_less n position rows w there member =
    (counted_changed (λ q. q.name) (λ q. AreNumbers q.waiting) (λ q. q.waits) (λ q. length q.waiting) served_above (waiting_less n) 1 0 (λ q. refl) (λ q. refl) (λ q ok. ok) (λ q. refl) (λ q. less q.waits) (λ q. less q.waits) w position
    (made (item_at position rows) (good_at (λ q. q.name) (λ q. AreNumbers q.waiting) (λ q. q.waits) (λ q. length q.waiting) w position there) member)).is
  where
    less : (k : ℕ) → k - 1 ≡ k - 1 + 0
    less k = omega arith

    made : (o : Option Queue) → HoldsOfItem (λ (q : Queue). AreNumbers q.waiting) o → IsIn n (option_map_or (λ (q : Queue). q.waiting) o [])
        → HoldsOfItem (MayBeMade (λ (q : Queue). q.name) (λ (q : Queue). AreNumbers q.waiting) (λ (q : Queue). q.waits) (λ (q : Queue). length q.waiting) served_above (waiting_less n) 1 0 (λ q. refl) (λ q. refl) (λ q ok. ok) (λ q. refl) (λ q. less q.waits) (λ q. less q.waits)) o
    made None h m = absurd h
    made (Some q) h m = let l = length-without_number n q.waiting h m in record { is_good = numbers_without n q.waiting h; fits = omega (arith, l); own_is = omega (arith, l) }

-- in an unused tree nothing waits
pub none_waiting : (K : ℕ) (rows : List Row) → AreSpots (λ (q : Queue). q.name) rows → All (λ r. IsUnused K r.item) rows → AreWaiting rows
none_waiting K rows tree unused = (none_counted (λ q. q.name) (λ q. AreNumbers q.waiting) (λ q. q.waits) (λ q. length q.waiting) tree each).0
  where
    no_numbers : AreNumbers []
    no_numbers = record { end = 1; rise = omega arith }

    each : (p : List ℕ) → HoldsOfItem (λ _. Unit {0}) (item_at p rows) → HoldsOfItem (IsUncounted (λ (q : Queue). q.name) (λ (q : Queue). AreNumbers q.waiting) (λ (q : Queue). q.waits) (λ (q : Queue). length q.waiting)) (item_at p rows)
    each p there =
        let a = at_position p rows there in
        let u = each_of (λ (r : Row). IsUnused K r.item) rows unused a.row a.member in
        subst (HoldsOfItem (IsUncounted (λ (q : Queue). q.name) (λ (q : Queue). AreNumbers q.waiting) (λ (q : Queue). q.waits) (λ (q : Queue). length q.waiting))) (sym a.item_is)
        (record { is_good = subst AreNumbers (sym u.waiting) no_numbers; stores_none = u.waits; owns_none = ap length u.waiting })

-- what a change of what waits needs at its position

pub room_there : (position : List ℕ) (rows : List Row) → HasRoomAt position rows → IsPosition rows position
room_there position rows h = by (item_at position rows) h
  where
    by : (o : Option Queue) → HoldsOfItem (λ (q : Queue). length q.waiting < active_of q.users) o → HoldsOfItem (λ (_ : Queue). Unit {0}) o
    by None h = h
    by (Some q) h = tt

pub waits_there : (n : ℕ) (position : List ℕ) (rows : List Row) → AreWaiting rows → HasRoomAt position rows → ¬ IsIn n (waiting_at position rows) → HoldsOfItem (IsFree n) (item_at position rows)
waits_there n position rows w room other = by (item_at position rows) (good_at (λ q. q.name) (λ q. AreNumbers q.waiting) (λ q. q.waits) (λ q. length q.waiting) w position (room_there position rows room)) room other
  where
    by : (o : Option Queue) → HoldsOfItem (λ (q : Queue). AreNumbers q.waiting) o → HoldsOfItem (λ (q : Queue). length q.waiting < active_of q.users) o → ¬ IsIn n (option_map_or (λ (q : Queue). q.waiting) o []) → HoldsOfItem (IsFree n) o
    by None h room out = h
    by (Some q) h room out = record { numbers = h; other = out; room = room }

pub member_there : (n : ℕ) (position : List ℕ) (rows : List Row) → IsIn n (waiting_at position rows) → IsPosition rows position
member_there n position rows m = by (item_at position rows) m
  where
    by : (o : Option Queue) → IsIn n (option_map_or (λ (q : Queue). q.waiting) o []) → HoldsOfItem (λ (_ : Queue). Unit {0}) o
    by None m = absurd m
    by (Some q) m = tt

pub served_there : (n : ℕ) (position : List ℕ) (rows : List Row) → AreWaiting rows → IsIn n (waiting_at position rows) → HoldsOfItem (λ (q : Queue). AreNumbers q.waiting × IsIn n q.waiting) (item_at position rows)
served_there n position rows w m = by (item_at position rows) (good_at (λ q. q.name) (λ q. AreNumbers q.waiting) (λ q. q.waits) (λ q. length q.waiting) w position (member_there n position rows m)) m
  where
    by : (o : Option Queue) → HoldsOfItem (λ (q : Queue). AreNumbers q.waiting) o → IsIn n (option_map_or (λ (q : Queue). q.waiting) o []) → HoldsOfItem (λ (q : Queue). AreNumbers q.waiting × IsIn n q.waiting) o
    by None h m = h
    by (Some q) h m = (h, m)

-- there is room at the root for one more that waits
pub room_waiting : (rows : List Row) → waits_in rows < number_end → MayChange (root_count of_queue rows) (λ m. 0) one_waiting
room_waiting rows h (Measure.uses k) = inl (omega arith)
room_waiting rows h Measure.active = inl (omega arith)
room_waiting [] h Measure.waiting = inr (omega arith)
room_waiting (r ∷ rows) h Measure.waiting = inr (omega (arith, h))
