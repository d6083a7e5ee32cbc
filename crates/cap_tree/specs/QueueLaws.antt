-- What a move does to what is counted of a queue and of its users.
use Rattle.std.proofs.Common.{◌≡◌, ℕ, ◌+◌, ◌-◌, ◌≤◌, Bool, true, List, length, Option, Some, None, inl, refl, sym, arith}
use Rattle.std.specs.Prelude.{◌==◌}
use Rattle.std.specs.Option.{option_map_or}
use Rattle.std.proofs.lemmas.Bool.{and_parts, eqb-true}
use Rattle.cap_vector.specs.Vector.{amount, is_zero}
use Rattle.cap_vector.proofs.AmountLemmas.{amount-exchanged, amount-is_zero, amount-zeros}
use Rattle.cap_base.specs.Members.{IsIn}
use Rattle.cap_tree.specs.Measure.{Measure, MayChange, one_waiting}
use Rattle.cap_tree.specs.Numbers.{AreNumbers}
use Rattle.cap_tree.specs.NumberLaws.{length-with_number, length-without_number}
use Rattle.cap_tree.specs.Count.{Count, IsPart, MayMove, of_count, zero_count, is_zero_count, count_moved}
use Rattle.cap_tree.specs.Queue.{Queue, Users, of_queue, of_user, of_users, queue_count, with_running, moved_above, moved_at, user_row, count_in, with_count, with_settings, waiting_above, waiting_more, served_above, waiting_less}
use Rattle.cap_base.specs.Settings.{QueueRow}
use Rattle.cap_tree.specs.UserLaws.{row-le-sum, sum-with_count, sum_of}

-- a part of a whole, before and after a move: the old part was in it
pub record IsMoved (old new before after : ℕ) : Type 0 where
  pub fits : old ≤ before
  pub sum : after ≡ (before - old) + new

pub moved_counts : (old new c : Count) (m : Measure) → of_count (count_moved old new c) m ≡ (of_count c m - of_count old m) + of_count new m
moved_counts old new c (Measure.uses k) = amount-exchanged old.used new.used c.used k
moved_counts old new c Measure.active = refl
moved_counts old new c Measure.waiting = omega arith

pub zero_counts : (K : ℕ) (m : Measure) → of_count (zero_count K) m ≡ 0
zero_counts K (Measure.uses k) = amount-zeros K k
zero_counts K Measure.active = refl
zero_counts K Measure.waiting = refl

pub is_zero_counts : (c : Count) (m : Measure) → is_zero_count c ≡ true → of_count c m ≡ 0
is_zero_counts c (Measure.uses k) h = amount-is_zero c.used k ((and_parts (c.active == 0) (is_zero c.used) h).1)
is_zero_counts c Measure.active h = eqb-true c.active 0 ((and_parts (c.active == 0) (is_zero c.used) h).0)
is_zero_counts c Measure.waiting h = refl

-- what is counted of a user is what its row counts
pub user_counts : (K : ℕ) (user : List ℕ) (us : Users) (m : Measure) → of_user user m us ≡ of_count (count_in K (user_row user us)) m
user_counts K user us m = by (user_row user us)
  where
    by : (o : Option Count) → option_map_or (λ (c : Count). of_count c m) o 0 ≡ of_count (count_in K o) m
    by None = sym (zero_counts K m)
    by (Some c) = refl

-- a user's count is a part of that of all
pub count_le_all : (K : ℕ) (user : List ℕ) (us : Users) (m : Measure) → of_count (count_in K (user_row user us)) m ≤ sum_of (λ c. of_count c m) us
count_le_all K user us m = omega (arith, user_counts K user us m, row-le-sum (λ (c : Count). of_count c m) user us)

pub moved_sum : (K : ℕ) (user : List ℕ) (old new : Count) (us : Users) (m : Measure) → IsPart old (count_in K (user_row user us)) →
    IsMoved (of_count old m) (of_count new m) (sum_of (λ c. of_count c m) us) (sum_of (λ c. of_count c m) (with_count user (count_moved old new (count_in K (user_row user us))) us))
moved_sum K user old new us m h =
    let c = count_in K (user_row user us) in
    let s = sum-with_count (λ (x : Count). of_count x m) user (count_moved old new c) us (is_zero_counts (count_moved old new c) m) in
    let l = count_le_all K user us m in
    let own = user_counts K user us m in
    record { fits = omega (arith, h m, l); sum = omega (arith, h m, l, s, own, moved_counts old new c m) }

pub same_number : (n : ℕ) → n ≡ (n - 0) + 0
same_number n = omega arith

pub same_after : (running : Bool) (q : Queue) (m : Measure) → of_queue (record q { running = running }) m ≡ (of_queue q m - 0) + 0
same_after running q (Measure.uses k) = same_number (amount q.used k)
same_after running q Measure.active = same_number q.active
same_after running q Measure.waiting = same_number q.waits

pub same_counts : (row : QueueRow) (q : Queue) (m : Measure) → of_queue (with_settings row q) m ≡ (of_queue q m - 0) + 0
same_counts row q (Measure.uses k) = same_number (amount q.used k)
same_counts row q Measure.active = same_number q.active
same_counts row q Measure.waiting = same_number q.waits

pub none_fits : (n : ℕ) → 0 ≤ n
none_fits n = omega arith

-- what is counted of a queue, after a part of it has moved
pub moved_queue : (old new : Count) (q : Queue) (m : Measure) → of_queue (moved_above old new q) m ≡ (of_queue q m - of_count old m) + of_count new m
moved_queue old new q (Measure.uses k) = moved_counts old new (queue_count q) (Measure.uses k)
moved_queue old new q Measure.active = moved_counts old new (queue_count q) Measure.active
moved_queue old new q Measure.waiting = same_number q.waits

pub moved_own : (K : ℕ) (user : List ℕ) (old new : Count) (q : Queue) (m : Measure) → IsPart old (count_in K (user_row user q.users)) → of_users (moved_at K user old new q) m ≡ (of_users q m - of_count old m) + of_count new m
moved_own K user old new q (Measure.uses k) h = (moved_sum K user old new q.users (Measure.uses k) h).sum
moved_own K user old new q Measure.active h = (moved_sum K user old new q.users Measure.active h).sum
moved_own K user old new q Measure.waiting h = same_number (length q.waiting)

pub own_fits : (K : ℕ) (user : List ℕ) (old new : Count) (q : Queue) (m : Measure) → IsPart old (count_in K (user_row user q.users)) → of_count old m ≤ of_users q m
own_fits K user old new q (Measure.uses k) h = (moved_sum K user old new q.users (Measure.uses k) h).fits
own_fits K user old new q Measure.active h = (moved_sum K user old new q.users Measure.active h).fits
own_fits K user old new q Measure.waiting h = omega arith

-- a part of a queue's count fits it, and moves within the most
pub part_of_queue : (c : Count) (q : Queue) → ((m : Measure) → of_count c m ≤ of_queue q m) → IsPart c (queue_count q)
part_of_queue c q h (Measure.uses k) = h (Measure.uses k)
part_of_queue c q h Measure.active = h Measure.active
part_of_queue c q h Measure.waiting = omega arith

pub moves_in_queue : (old new : Count) (q : Queue) → MayChange (of_queue q) (of_count old) (of_count new) → MayMove old new (queue_count q)
moves_in_queue old new q h (Measure.uses k) = h (Measure.uses k)
moves_in_queue old new q h Measure.active = h Measure.active
moves_in_queue old new q h Measure.waiting = inl (omega arith)

-- one more that waits, or one less
pub waits_more : (q : Queue) (m : Measure) → of_queue (waiting_above q) m ≡ (of_queue q m - 0) + one_waiting m
waits_more q (Measure.uses k) = omega arith
waits_more q Measure.active = omega arith
waits_more q Measure.waiting = omega arith

pub waits_less : (q : Queue) (m : Measure) → of_queue (served_above q) m ≡ (of_queue q m - one_waiting m) + 0
waits_less q (Measure.uses k) = omega arith
waits_less q Measure.active = omega arith
waits_less q Measure.waiting = omega arith

pub own_more : (n : ℕ) (q : Queue) (m : Measure) → of_users (waiting_more n q) m ≡ (of_users q m - 0) + one_waiting m
own_more n q (Measure.uses k) = omega arith
own_more n q Measure.active = omega arith
own_more n q Measure.waiting = let l = length-with_number n q.waiting in omega (arith, l)

pub own_less : (n : ℕ) (q : Queue) (m : Measure) → AreNumbers q.waiting → IsIn n q.waiting → of_users (waiting_less n q) m ≡ (of_users q m - one_waiting m) + 0
own_less n q (Measure.uses k) a h = omega arith
own_less n q Measure.active a h = omega arith
own_less n q Measure.waiting a h = let l = length-without_number n q.waiting a h in omega (arith, l)

pub one_own : (n : ℕ) (q : Queue) (m : Measure) → AreNumbers q.waiting → IsIn n q.waiting → one_waiting m ≤ of_users q m
one_own n q (Measure.uses k) a h = omega arith
one_own n q Measure.active a h = omega arith
one_own n q Measure.waiting a h = let l = length-without_number n q.waiting a h in omega (arith, l)

pub moved_at_queue : (K : ℕ) (user : List ℕ) (old new : Count) (q : Queue) (m : Measure) → of_queue (moved_at K user old new q) m ≡ (of_queue q m - of_count old m) + of_count new m
moved_at_queue K user old new q (Measure.uses k) = moved_counts old new (queue_count q) (Measure.uses k)
moved_at_queue K user old new q Measure.active = moved_counts old new (queue_count q) Measure.active
moved_at_queue K user old new q Measure.waiting = same_number q.waits

pub moved_above_own : (old new : Count) (q : Queue) (m : Measure) → of_users (moved_above old new q) m ≡ of_users q m
moved_above_own old new q (Measure.uses k) = refl
moved_above_own old new q Measure.active = refl
moved_above_own old new q Measure.waiting = refl

pub same_running_own : (running : Bool) (q : Queue) (m : Measure) → of_users (with_running running q) m ≡ (of_users q m - 0) + 0
same_running_own running q (Measure.uses k) = same_number (of_users q (Measure.uses k))
same_running_own running q Measure.active = same_number (of_users q Measure.active)
same_running_own running q Measure.waiting = same_number (length q.waiting)

pub same_settings_own : (row : QueueRow) (q : Queue) (m : Measure) → of_users (with_settings row q) m ≡ (of_users q m - 0) + 0
same_settings_own row q (Measure.uses k) = same_number (of_users q (Measure.uses k))
same_settings_own row q Measure.active = same_number (of_users q Measure.active)
same_settings_own row q Measure.waiting = same_number (length q.waiting)

pub waits_at : (n : ℕ) (q : Queue) (m : Measure) → of_queue (waiting_more n q) m ≡ (of_queue q m - 0) + one_waiting m
waits_at n q (Measure.uses k) = omega arith
waits_at n q Measure.active = omega arith
waits_at n q Measure.waiting = omega arith

pub waits_above_own : (q : Queue) (m : Measure) → of_users (waiting_above q) m ≡ of_users q m
waits_above_own q (Measure.uses k) = refl
waits_above_own q Measure.active = refl
waits_above_own q Measure.waiting = refl

pub served_at : (n : ℕ) (q : Queue) (m : Measure) → of_queue (waiting_less n q) m ≡ (of_queue q m - one_waiting m) + 0
served_at n q (Measure.uses k) = omega arith
served_at n q Measure.active = omega arith
served_at n q Measure.waiting = omega arith

pub served_above_own : (q : Queue) (m : Measure) → of_users (served_above q) m ≡ of_users q m
served_above_own q (Measure.uses k) = refl
served_above_own q Measure.active = refl
served_above_own q Measure.waiting = refl

-- what is counted of a user is a part of what is counted of the queue
pub user_within : (K : ℕ) (user : List ℕ) (q : Queue) → ((m : Measure) → of_users q m ≤ of_queue q m) → IsPart (count_in K (user_row user q.users)) (queue_count q)
user_within K user q sums (Measure.uses k) = omega (arith, count_le_all K user q.users (Measure.uses k), sums (Measure.uses k))
user_within K user q sums Measure.active = omega (arith, count_le_all K user q.users Measure.active, sums Measure.active)
user_within K user q sums Measure.waiting = omega arith
