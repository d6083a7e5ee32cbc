-- What an application holds in memory: its row in the flat cluster, and what it keeps beside it.
use Rattle.std.specs.Prelude.{◌≡◌, ℕ, ◌+◌, ◌*◌, ◌%◌, ◌≤◌, Bool, true, is_some, List, [], ◌∷◌, Option, None, option_map, if◌then◌else◌}
use Rattle.std.specs.Ordering.{is_lt}
use Rattle.cap_vector.specs.Vector.{Fits}
use Rattle.cap_base.specs.Members.{IsIn}
use Rattle.cap_model.specs.declared.ask.Key.{Key}
use Rattle.cap_model.specs.Asks.{ask_key_cmp, Ask}
use Rattle.cap_model.specs.Flat.{App, ask_at}
use Rattle.cap_model.specs.News.{AllocateReply}
use Rattle.cap_model.specs.ResponseIds.{is_repeated}
use Rattle.cap_model.specs.Reporting.{reported_of}
use Rattle.cap_model.specs.declared.replies.Reported.{Reported}
use Rattle.cap_asks.specs.Impossible.{Want}

-- asks in order of key, how many more keys fit with no memory, and what those want that are impossible
pub record HeldAsks : Type 0 where
  pub asks : List Ask
  pub room : ℕ
  pub impossible : List Want

-- news of one kind: what the last reply told, what waits, and how many more fit with no memory
pub record HeldNews (T : Type 0) : Type 0 where
  pub told : List T
  pub waiting : List T
  pub room : ℕ

-- what an application keeps beside its row: where its leaf is in the tree, how many of its containers are live, and how many more
-- asks, grants and ends it may take with no memory
pub record Account : Type 0 where
  pub position : List ℕ
  pub live : ℕ
  pub asks : ℕ
  pub grants : ℕ
  pub ends : ℕ

-- an application, its account, and what its impossible asks want
pub record HeldApp : Type 0 where
  pub app : App
  pub account : Account
  pub impossible : List Want

-- one key stands before another
abbrev pub is_before : Key → Key → Bool
is_before a b = is_lt (ask_key_cmp a b)

-- the slot of a key
abbrev pub key_slot : Key → ℕ
key_slot key = (key.priority * 257 + key.request) % 4096

-- asks of keys that are all greater than one
abbrev pub AreAfter : Key → List Ask → Type 0
AreAfter key [] = Unit {0}
AreAfter key (ask ∷ asks) = (is_before key ask.key ≡ true) × AreAfter key asks

-- asks in order of key, each for at least one container
abbrev pub AreKept : List Ask → Type 0
AreKept [] = Unit {0}
AreKept (ask ∷ asks) = (1 ≤ ask.count) × AreAfter ask.key asks × AreKept asks

-- each ask wants at least so much of each resource
abbrev pub WantAtLeast : List ℕ → List Ask → Type 0
WantAtLeast least asks = (ask : Ask) → IsIn ask asks → Fits least ask.resource

-- where in the order of keys a key stands, or would stand
abbrev pub index_of : Key → List Ask → ℕ
index_of key [] = 0
index_of key (ask ∷ asks) = if is_before ask.key key then index_of key asks + 1 else 0

-- an index is where a key stands, or would stand; the flag says whether an ask has the key
pub record IsKeyIndex (key : Key) (asks : List Ask) (index : ℕ) (stands : Bool) : Type 0 where
  pub at : index ≡ index_of key asks
  pub found : is_some (ask_at key asks) ≡ stands

-- room falls by at most so much; with a grant one more container is live, with an end one less
pub record TakesRoom (asks_taken grants_taken ends_taken : ℕ) (old new : Account) : Type 0 where
  pub position : new.position ≡ old.position
  pub live : new.live + ends_taken ≡ old.live + grants_taken
  pub asks : old.asks ≤ new.asks + asks_taken
  pub grants : old.grants ≤ new.grants + grants_taken
  pub ends : old.ends ≤ new.ends + ends_taken

-- room for at least so many
pub record HasRoom (more_asks more_grants more_ends : ℕ) (account : Account) : Type 0 where
  pub asks : more_asks ≤ account.asks
  pub grants : more_grants ≤ account.grants
  pub ends : more_ends ≤ account.ends

-- a reply with these numbers in place of its own
abbrev pub with_numbers : Reported → AllocateReply → AllocateReply
with_numbers reported reply = record reply { response = reported.response; ignored = reported.ignored }

-- those of the reply that an application keeps, where a request of a response id repeats the last processed one
abbrev pub repeated_numbers : App → ℕ → Option Reported
repeated_numbers app id = if is_repeated app.response app.kept id then option_map reported_of app.kept else None
