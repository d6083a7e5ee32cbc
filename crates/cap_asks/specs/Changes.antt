-- What a call changes of one application: how, with how much of its room, and when it may.
use Rattle.std.specs.Prelude.{ℕ, ◌+◌, ◌≤◌, ◌<◌, Bool, List, true, false}
use Rattle.std.specs.Mem.{FitsInMemory}
use denote.Param.{number, param}
use Rattle.cap_base.specs.Limits.{live_max}
use Rattle.cap_model.specs.contracts.ask.Ask as ask
use Rattle.cap_model.specs.Flat.{App}
use Rattle.cap_asks.specs.declared.change.Change.{Change}
use Rattle.cap_asks.specs.declared.change.Change.TheVariants.{Register, PutAsk, TakeOne, AddGrant, AddEnd}
use Rattle.cap_asks.specs.Accounts.{Account, HasRoom, TakesRoom}
use Rattle.cap_asks.specs.Impossible.{AreAmong, AreAmongOr, Want}
use Rattle.cap_asks.specs.Apps.{HasRooms, UsesRoom, ask_room, live_of, with_ask_put, with_one_less, with_waiting_end, with_waiting_grant}

-- the application after the change
abbrev pub changed_by : {K : ℕ} → Change K → App → App
changed_by Register = λ app. record app { registered = true }
changed_by (PutAsk put impossible) = with_ask_put put.now
changed_by (TakeOne key) = with_one_less key.now
changed_by (AddGrant grant) = with_waiting_grant grant.now
changed_by (AddEnd end) = with_waiting_end end.now

-- how many asks, grants and ends there is room for no more
pub record Used : Type 0 where
  pub asks : ℕ
  pub grants : ℕ
  pub ends : ℕ

abbrev pub used_by : {K : ℕ} → Change K → Used
used_by Register = record { asks = 0; grants = 0; ends = 0 }
used_by (PutAsk put impossible) = record { asks = 1; grants = 0; ends = 0 }
used_by (TakeOne key) = record { asks = 0; grants = 0; ends = 0 }
used_by (AddGrant grant) = record { asks = 0; grants = 1; ends = 0 }
used_by (AddEnd end) = record { asks = 0; grants = 0; ends = 1 }

abbrev pub Takes : Used → Account → Account → Type 0
Takes used old new = TakesRoom used.asks used.grants used.ends old new

abbrev pub Uses : Used → ℕ → List (ℕ × Account) → List (ℕ × Account) → Type 0
Uses used n old new = UsesRoom n used.asks used.grants used.ends old new

-- an ask is no larger than memory, as each one that a call is given
abbrev pub AskFits : ℕ → Type 0
AskFits K = FitsInMemory (ask.the_row (param 0 (number K)))

-- an application of this account may change so, and the one of a number in a table
abbrev pub MayChange : {K : ℕ} → Change K → Account → Type 0
MayChange Register account = Unit {0}
MayChange {K} (PutAsk put impossible) account = (1 ≤ account.asks) × AskFits K
MayChange (TakeOne key) account = Unit {0}
MayChange (AddGrant grant) account = HasRoom 0 1 (account.live + 1) account × account.live < live_max
MayChange (AddEnd end) account = 1 ≤ account.live

abbrev pub CanChange : {K : ℕ} → Change K → ℕ → List (ℕ × Account) → Type 0
CanChange Register n accounts = Unit {0}
CanChange {K} (PutAsk put impossible) n accounts = (1 ≤ ask_room n accounts) × AskFits K
CanChange (TakeOne key) n accounts = Unit {0}
CanChange (AddGrant grant) n accounts = HasRooms n 0 1 (live_of n accounts + 1) accounts × live_of n accounts < live_max
CanChange (AddEnd end) n accounts = 1 ≤ live_of n accounts

-- whether an impossible ask is put
abbrev pub puts_impossible : {K : ℕ} → Change K → Bool
puts_impossible Register = false
puts_impossible (PutAsk put impossible) = impossible
puts_impossible (TakeOne key) = false
puts_impossible (AddGrant grant) = false
puts_impossible (AddEnd end) = false

-- no ask becomes impossible but one that is put so
abbrev pub Marks : {K : ℕ} → Change K → List Want → List Want → Type 0
Marks Register old new = AreAmong new old
Marks (PutAsk put impossible) old new = AreAmongOr put.now impossible new old
Marks (TakeOne key) old new = AreAmong new old
Marks (AddGrant grant) old new = AreAmong new old
Marks (AddEnd end) old new = AreAmong new old
