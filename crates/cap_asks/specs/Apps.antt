-- The table of active applications, with the account of each.
use Rattle.std.specs.Prelude.{Box, ◌≡◌, ℕ, ◌+◌, ◌≤◌, Bool, ◌&&◌, not, nat_lt, filter, length, map, List, [], ◌∷◌, ◌++◌, Option, Some, None, option_and_then, false, nat_eq, ◌==◌, if◌then◌else◌, option_map}
use Rattle.std.specs.Option.{option_map_or}
use Rattle.std.specs.List.{AllByRecursion, flat_map}
use Rattle.std.specs.Map.{lookup}
use Rattle.slab.specs.Slab.{Slab, get}
use Rattle.cap_model.specs.Flat.{AppTable, app_in, App}
use Rattle.cap_model.specs.News.{AllocateReply, Grant}
use Rattle.cap_asks.specs.Accounts.{Account, AreKept, HeldApp}
use Rattle.cap_asks.specs.Impossible.{AreLeftBy, Want}
use Rattle.cap_model.specs.Reporting.{reported_of}
use Rattle.cap_model.specs.declared.ask.Key.{Key}
use Rattle.cap_model.specs.declared.news.End.{End}
use Rattle.cap_model.specs.Asks.{Ask}
use Rattle.cap_model.specs.Asking.{put_ask}
use Rattle.cap_model.specs.Submit.{new_app}
use Rattle.cap_model.specs.Events.{take_one}
use Rattle.cap_model.specs.Allocate.{after_telling}
use Rattle.cap_model.specs.declared.replies.Reported.{Reported}

-- the active applications, the account of each by its number, and what their impossible asks want
pub record HeldApps : Type 0 where
  pub table : AppTable
  pub accounts : List (ℕ × Account)
  pub impossible : List Want

-- an application waits for containers where its master has registered, and it has asks
abbrev pub is_waiting : App → Bool
is_waiting app = app.registered && not (length app.asks == 0)

-- the applications that wait
abbrev pub waiting_of : List App → List App
waiting_of active = filter is_waiting active

-- entries in order of number, with one more, and without that of a number
abbrev pub with_entry : ℕ → ℕ → List (ℕ × ℕ) → List (ℕ × ℕ)
with_entry n slot [] = (n, slot) ∷ []
with_entry n slot (e ∷ es) = if nat_lt e.0 n then e ∷ with_entry n slot es else (n, slot) ∷ e ∷ es

abbrev pub without_entry : ℕ → List (ℕ × ℕ) → List (ℕ × ℕ)
without_entry n es = filter (λ e. not (e.0 == n)) es

-- the account of one whose leaf is there in the tree: nothing is live, and it has no room yet
abbrev pub new_account : List ℕ → Account
new_account position = record { position = position; live = 0; asks = 0; grants = 0; ends = 0 }

-- the reply that an application keeps
abbrev pub kept_of : ℕ → AppTable → Option AllocateReply
kept_of n table = option_and_then (λ app. app.kept) (app_in table n)

-- the application keeps a reply of these numbers
abbrev pub KeepsNumbers : ℕ → AppTable → Reported → Type 0
KeepsNumbers n table reported = option_map reported_of (kept_of n table) ≡ Some reported

-- an application after an ask of it was put, and after one container less is wanted for a key
abbrev pub with_ask_put : Ask → App → App
with_ask_put ask app = record app { asks = put_ask ask app.asks }

abbrev pub with_one_less : Key → App → App
with_one_less key app = record app { asks = take_one key app.asks }

-- an application with one more grant that waits, with one more end, and after the next reply to it
abbrev pub with_waiting_grant : Grant → App → App
with_waiting_grant grant app = record app { grants = app.grants ++ grant ∷ [] }

abbrev pub with_waiting_end : End → App → App
with_waiting_end end app = record app { ends = app.ends ++ end ∷ [] }

abbrev pub after_next_reply : ℕ → App → App
after_next_reply ignored app = after_telling app.response ignored app

-- where the leaf of an application is in the tree, how many of its containers are live, and how many more asks, grants and ends it
-- may take with no memory; nothing where it is not active
abbrev pub account_of : ℕ → List (ℕ × Account) → Option Account
account_of n accounts = lookup (nat_eq n) accounts

abbrev pub position_of : ℕ → List (ℕ × Account) → List ℕ
position_of n accounts = option_map_or (λ a. a.position) (account_of n accounts) []

abbrev pub live_of : ℕ → List (ℕ × Account) → ℕ
live_of n accounts = option_map_or (λ a. a.live) (account_of n accounts) 0

abbrev pub ask_room : ℕ → List (ℕ × Account) → ℕ
ask_room n accounts = option_map_or (λ a. a.asks) (account_of n accounts) 0

abbrev pub grant_room : ℕ → List (ℕ × Account) → ℕ
grant_room n accounts = option_map_or (λ a. a.grants) (account_of n accounts) 0

abbrev pub end_room : ℕ → List (ℕ × Account) → ℕ
end_room n accounts = option_map_or (λ a. a.ends) (account_of n accounts) 0

-- one more account, the last, of an application whose leaf is there in the tree
pub record IsEntered (n : ℕ) (position : List ℕ) (old new : List (ℕ × Account)) : Type 0 where
  pub last : new ≡ old ++ (n, new_account position) ∷ []
  pub absent : account_of n old ≡ None
  pub own : account_of n new ≡ Some (new_account position)
  pub others : (m : ℕ) → m == n ≡ false → account_of m new ≡ account_of m old

-- an application enters under the next number, whose leaf is there in the tree
abbrev pub Enters : List ℕ → HeldApps → HeldApps → Type 0
Enters position old new = IsEntered old.table.next position old.accounts new.accounts

-- one account less
pub record IsLeft (n : ℕ) (old new : List (ℕ × Account)) : Type 0 where
  pub own : account_of n new ≡ None
  pub others : (m : ℕ) → m == n ≡ false → account_of m new ≡ account_of m old

-- no room falls, but that of one application by at most so much; with a grant one more of its containers is live, with an end one less
pub record UsesRoom (n asks_taken grants_taken ends_taken : ℕ) (old new : List (ℕ × Account)) : Type 0 where
  pub positions : (m : ℕ) → position_of m new ≡ position_of m old
  pub live : (m : ℕ) → live_of m new + (if m == n then ends_taken else 0) ≡ live_of m old + (if m == n then grants_taken else 0)
  pub asks : (m : ℕ) → ask_room m old ≤ ask_room m new + (if m == n then asks_taken else 0)
  pub grants : (m : ℕ) → grant_room m old ≤ grant_room m new + (if m == n then grants_taken else 0)
  pub ends : (m : ℕ) → end_room m old ≤ end_room m new + (if m == n then ends_taken else 0)

-- an application has room for at least so many
pub record HasRooms (n more_asks more_grants more_ends : ℕ) (accounts : List (ℕ × Account)) : Type 0 where
  pub asks : more_asks ≤ ask_room n accounts
  pub grants : more_grants ≤ grant_room n accounts
  pub ends : more_ends ≤ end_room n accounts

-- entries under their numbers, which rise and are below the next
abbrev pub AreNumbered : ℕ → List (ℕ × HeldApp) → ℕ → Type 0
AreNumbered low [] next = low ≤ next
AreNumbered low (e ∷ es) next = (low ≤ e.0) × (e.1.app.number ≡ e.0) × AreNumbered (e.0 + 1) es next

-- what counts as held in a slot with nothing in it: no application has the number 0
abbrev pub nobody : HeldApp
nobody = record { app = new_app 0 [] []; account = new_account []; impossible = [] }

-- what a slot holds
abbrev pub held_at : {A : Type 0} → Slab (Box HeldApp A) → ℕ → HeldApp
held_at apps slot = option_map_or (λ b. b.value) (get apps slot) nobody

-- the entries of an index from numbers to slots
abbrev pub entries_at : (ℕ → HeldApp) → List (ℕ × ℕ) → List (ℕ × HeldApp)
entries_at held index = map (λ e. (e.0, held e.1)) index

-- the asks of each application are in order of key, each for at least one container
abbrev pub AreAllKept : List App → Type 0
AreAllKept apps = AllByRecursion (λ app. AreKept app.asks) apps

-- an application after a node came: the same, and its impossible asks that the node could take are impossible no more
pub record IsAfterNode (host rack total : List ℕ) (old new : HeldApp) : Type 0 where
  pub app : new.app ≡ old.app
  pub account : new.account ≡ old.account
  pub impossible : AreLeftBy host rack total new.impossible old.impossible

-- so is each that is held; the flag is false only where none has an impossible ask then
pub record AreAfterNode (host rack total : List ℕ) (old new : ℕ → HeldApp) (flag : Bool) : Type 0 where
  pub each : (slot : ℕ) → IsAfterNode host rack total (old slot) (new slot)
  pub clear : flag ≡ false → (slot : ℕ) → (new slot).impossible ≡ []

-- what the impossible asks of those in the entries want
abbrev pub impossible_in : List (ℕ × HeldApp) → List Want
impossible_in es = flat_map (λ e. e.1.impossible) es

-- an index of applications in slots under their numbers, which rise from 1 and are below the next, with their asks in order; its entries of
-- those that wait, in memory that has room for all
pub record AreIndexed (held : ℕ → HeldApp) (index : List (ℕ × ℕ)) (next : ℕ) (waiters : List (ℕ × ℕ)) (room : ℕ) : Type 0 where
  pub numbered : AreNumbered 1 (entries_at held index) next
  pub kept : AreAllKept (map (λ e. e.1.app) (entries_at held index))
  pub waiting : waiters ≡ filter (λ e. is_waiting (held e.1).app) index
  pub few : length index ≤ room
