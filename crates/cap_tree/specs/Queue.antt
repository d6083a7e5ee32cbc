-- What a queue holds, and its changes.
use Rattle.std.specs.Prelude.{◌≡◌, ℕ, ◌+◌, ◌-◌, ◌<◌, ◌≤◌, ◌⊎◌, [], Bool, if◌then◌else◌, List, length, Option, Some, None, sum_by, refl}
use Rattle.std.specs.Option.{option_map_or}
use Rattle.std.specs.Ordering.{nat_cmp}
use Rattle.std.specs.Cmp.Lexicographic.{slice_cmp}
use Rattle.std.specs.FinMap as finite
use Rattle.std.specs.Coded.{Coded, code_by, coded×, coded_ℕ, coded_list}
use Rattle.cap_vector.specs.Fullness.{shares}
use Rattle.cap_vector.specs.Vector.{amount, amounts_exchanged, zeros, Fits}
use Rattle.cap_vector.specs.declared.fullness.Share.{Share}
use Rattle.cap_base.specs.LimitTests.{fits_maximum, fits_user_limit}
use Rattle.cap_base.specs.Settings.{QueueRow}
use Rattle.cap_base.specs.Paths.{name_of}
use Rattle.cap_tree.specs.Measure.{Measure}
use Rattle.cap_base.specs.Members.{IsIn}
use Rattle.cap_tree.specs.Numbers.{AreNumbers, with_number, without_number}
use Rattle.cap_tree.specs.Count.{Count, of_count, zero_count, is_zero_count, count_moved}

-- what is counted of each user of a leaf, by the user's name. Two of these are equal where they count the same of each user: they
-- have no order. What is counted of a user is the user's row
abbrev pub Users : Type 0
Users = finite.FinMap (slice_cmp nat_cmp) Count

-- both are stored as what they are made of
abbrev pub count_code : Coded Count
count_code = code_by (List ℕ × ℕ) (coded× (coded_list coded_ℕ) coded_ℕ) (λ c. (c.used, c.active)) (λ p. record { used = p.0; active = p.1 }) (λ _. refl)

abbrev pub users_code : Coded Users
users_code = finite.code (coded_list coded_ℕ) count_code

-- a queue: its name, its settings, the use and the number of active applications in it and under it, its own users, the numbers of the
-- applications that wait at it, in order, and how many wait at it and under it
pub record Queue : Type 0 where
  pub name : List ℕ
  pub guaranteed : List ℕ
  pub maximum : Option (List ℕ)
  pub factor : ℕ
  pub running : Bool
  pub used : List ℕ
  pub active : ℕ
  pub users : Users
  pub waiting : List ℕ
  pub waits : ℕ

-- what is kept beside a use and a guarantee are the shares of the one in the other
abbrev pub AreSharesOf : List ℕ → List ℕ → List Share → Type 0
AreSharesOf used guaranteed kept = kept ≡ shares used guaranteed

-- how many applications of these users are active
abbrev pub active_of : Users → ℕ
active_of users = sum_by (λ e. e.1.active) (finite.entries users)

-- what a queue keeps beside what contracts see: the shares of its use, and room for the numbers of all its own applications
pub record IsKept (used guaranteed : List ℕ) (kept : List Share) (users : Users) (room : ℕ) : Type 0 where
  pub shares_are : AreSharesOf used guaranteed kept
  pub has_room : active_of users ≤ room

-- what is counted of a queue
abbrev pub queue_count : Queue → Count
queue_count q = record { used = q.used; active = q.active }

abbrev pub of_queue : Queue → Measure → ℕ
of_queue q (Measure.uses k) = amount q.used k
of_queue q Measure.active = q.active
of_queue q Measure.waiting = q.waits

-- of all its users together, and of what waits at it
abbrev pub of_users : Queue → Measure → ℕ
of_users q (Measure.uses k) = sum_by (λ e. of_count e.1 (Measure.uses k)) (finite.entries q.users)
of_users q Measure.active = sum_by (λ e. of_count e.1 Measure.active) (finite.entries q.users)
of_users q Measure.waiting = length q.waiting

-- the row of a user
abbrev pub user_row : List ℕ → Users → Option Count
user_row user us = finite.get us user

-- what is counted of a user, 0 where the user has no row
abbrev pub of_user : List ℕ → Measure → Users → ℕ
of_user user m us = option_map_or (λ c. of_count c m) (user_row user us) 0

-- the count in a user's row, nothing where there is none
abbrev pub count_in : ℕ → Option Count → Count
count_in K row = option_map_or (λ c. c) row (zero_count K)

-- the users with that count for one of them, who has no row where it is nothing
abbrev pub with_count : List ℕ → Count → Users → Users
with_count user c us = if is_zero_count c then finite.remove us user else finite.insert us user c

-- a queue after the move of a part of what is below it, or of a user in it
abbrev pub moved_above : Count → Count → Queue → Queue
moved_above old new q = let c = count_moved old new (queue_count q) in record q { used = c.used; active = c.active }

abbrev pub moved_at : ℕ → List ℕ → Count → Count → Queue → Queue
moved_at K user old new q =
    record (moved_above old new q) { users = with_count user (count_moved old new (count_in K (user_row user q.users))) q.users }

-- one more waits at a queue under it, or at it; or one less
abbrev pub waiting_above : Queue → Queue
waiting_above q = record q { waits = q.waits + 1 }

-- a number is free to wait at it: the numbers that do are others, and fewer than its own applications
pub record IsFree (n : ℕ) (q : Queue) : Type 0 where
  pub numbers : AreNumbers q.waiting
  pub other : ¬ IsIn n q.waiting
  pub room : length q.waiting < active_of q.users

abbrev pub waiting_more : ℕ → Queue → Queue
waiting_more n q = record q { waiting = with_number n q.waiting; waits = q.waits + 1 }

abbrev pub served_above : Queue → Queue
served_above q = record q { waits = q.waits - 1 }

abbrev pub waiting_less : ℕ → Queue → Queue
waiting_less n q = record q { waiting = without_number n q.waiting; waits = q.waits - 1 }

-- a move may want memory where the user has no row, or more applications are active
abbrev pub MayGrow : List ℕ → Count → Count → Queue → Type 0
MayGrow user old new q = (user_row user q.users ≡ None) ⊎ (old.active < new.active)

abbrev pub with_running : Bool → Queue → Queue
with_running running q = record q { running = running }

-- with the settings of a row
abbrev pub with_settings : QueueRow → Queue → Queue
with_settings row q = record q { guaranteed = row.guaranteed; maximum = row.maximum; factor = row.factor; running = row.running }

-- the user has an application there, and one with use is not its last
abbrev pub MayLeave : Option Count → Type 0
MayLeave None = ⊥
MayLeave (Some row) = (1 ≤ row.active) × (row.active ≡ 1 → (k : ℕ) → amount row.used k ≡ 0)

-- the user has that much use there
abbrev pub MayGive : List ℕ → Option Count → Type 0
MayGive r None = ⊥
MayGive r (Some row) = Fits r row.used

-- the use in a user's row, 0 of each where there is none
abbrev pub use_of : ℕ → Option Count → List ℕ
use_of K row = (count_in K row).used

-- whether a queue stays within its maximum, and a user within the user limit of a leaf, with old taken away and new added
abbrev pub stays_in_maximum : List ℕ → List ℕ → Queue → Bool
stays_in_maximum old new q = fits_maximum q.maximum (amounts_exchanged old new q.used)

abbrev pub stays_in_user_limit : ℕ → List ℕ → List ℕ → List ℕ → Queue → Bool
stays_in_user_limit K user old new q = fits_user_limit q.factor q.guaranteed (amounts_exchanged old new (use_of K (user_row user q.users)))

-- nothing is in a queue
pub record IsUnused (K : ℕ) (q : Queue) : Type 0 where
  pub used : q.used ≡ zeros K
  pub active : q.active ≡ 0
  pub users : q.users ≡ finite.empty
  pub waiting : q.waiting ≡ []
  pub waits : q.waits ≡ 0

-- a queue has the name and the settings of a row
pub record HasSettingsOf (row : QueueRow) (q : Queue) : Type 0 where
  pub name : q.name ≡ name_of row.path
  pub guaranteed : q.guaranteed ≡ row.guaranteed
  pub maximum : q.maximum ≡ row.maximum
  pub factor : q.factor ≡ row.factor
  pub running : q.running ≡ row.running
