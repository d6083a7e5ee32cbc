-- An application as a snapshot keeps it.
use Rattle.std.specs.Prelude.{◌≡◌, ℕ, ◌-◌, false, List, [], ◌∷◌, Some, None, map, take, drop}
use Rattle.std.specs.List.{All, slice_get}
use Rattle.cap_model.specs.Sight.{NodeSight}
use Rattle.cap_tree.specs.Queue.{use_of}
use Rattle.cap_tree.specs.Rows.{Row, user_row_at}
use Rattle.cap_asks.specs.Accounts.{HeldApp}
use Rattle.cap_copy.specs.declared.ranges.AskRange.{AskRange}
use Rattle.cap_copy.specs.AskEntry.{AskEntry}
use Rattle.cap_copy.specs.AskRanges.{AreRanges}
use Rattle.cap_copy.specs.Entries.{asks_of}

-- an application that waits, what its user uses in its leaf, and where its asks lie among those of all: from an index on, up to another
pub record SeenApp : Type 0 where
  pub held : HeldApp
  pub used : List ℕ
  pub start : ℕ
  pub end : ℕ

-- the application that was copied; where none was, one that nobody submitted
abbrev pub nobody : HeldApp
nobody = record {
  app = record { number = 0; leaf = []; user = []; registered = false; response = 0; kept = None; asks = []; grants = []; ends = [] };
  account = record { position = []; live = 0; asks = 0; grants = 0; ends = 0 };
  impossible = [];
}

abbrev pub held_in : List (HeldApp × ℕ) → HeldApp
held_in [] = nobody
held_in (source ∷ sources) = source.0

-- what the user of an application uses in its leaf
abbrev pub user_used : ℕ → List Row → HeldApp → List ℕ
user_used K rows held = use_of K (user_row_at held.account.position held.app.user rows)

-- where its asks lie among those of all
abbrev pub range_in : SeenApp → AskRange
range_in a = record { app = a.held.app.number; start = a.start; end = a.end }

-- the asks from an index on, up to another
abbrev pub asks_between : ℕ → ℕ → List AskEntry → List AskEntry
asks_between start end asks = take (end - start) (drop start asks)

-- of each application of an index the asks lie where it says
abbrev pub HaveAsks : List NodeSight → List AskEntry → List SeenApp → Type 0
HaveAsks nodes asks seen = (i : ℕ) (a : SeenApp) → slice_get seen i ≡ Some a → asks_between a.start a.end asks ≡ asks_of nodes i a.held.app

-- applications as a snapshot keeps them, beside the asks of all, of which no reservation is taken away yet
pub record AreSeen (K : ℕ) (rows : List Row) (waiting : List HeldApp) (asks : List AskEntry) (seen : List SeenApp) : Type 0 where
  pub held : map (λ a. a.held) seen ≡ waiting
  pub used : All (λ a. a.used ≡ user_used K rows a.held) seen
  pub have : HaveAsks [] asks seen
  pub ranges : AreRanges asks (map range_in seen)
