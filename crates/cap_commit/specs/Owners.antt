-- Containers of an application, or on a node.
use Rattle.std.specs.Prelude.{◌≡◌, ℕ, ◌+◌, ◌≤◌, Bool, List, filter, ◌==◌}
use Rattle.cap_asks.specs.Accounts.{Account}
use Rattle.cap_asks.specs.Apps.{IsLeft, ask_room, end_room, grant_room, live_of, position_of}
use Rattle.cap_model.specs.Flat.{Flat, Container}
use Rattle.cap_model.specs.Ending.{named_among}
use Rattle.cap_commit.specs.declared.owner.Owner.{Owner}
use Rattle.cap_commit.specs.declared.owner.Owner.TheVariants.{Application, Node}

-- whether a container is an owner's
abbrev pub owns : Owner → Container → Bool
owns (Application number) = λ c. c.app == number
owns (Node number) = λ c. c.node == number

-- ends take from the room for ends alone, one place for each container that is live no more
pub record TakesEndRoom (old new : List (ℕ × Account)) : Type 0 where
  pub positions : (m : ℕ) → position_of m new ≡ position_of m old
  pub asks : (m : ℕ) → ask_room m old ≤ ask_room m new
  pub grants : (m : ℕ) → grant_room m old ≤ grant_room m new
  pub ends : (m : ℕ) → end_room m old + live_of m new ≤ end_room m new + live_of m old

-- containers have ended, and then an application has left
pub record TakesLeaver (n : ℕ) (old new : List (ℕ × Account)) : Type 0 where
  pub between : List (ℕ × Account)
  pub ended : TakesEndRoom old between
  pub left : IsLeft n between new

module _ {K : ℕ} where
  -- an owner's live containers, and those of them that some numbers name, one after the other
  abbrev pub containers_owned : Owner → Flat K → List Container
  containers_owned owner cluster = filter (owns owner) cluster.nodes.live

  abbrev pub containers_named : Owner → List ℕ → Flat K → List Container
  containers_named owner numbers cluster = named_among numbers (containers_owned owner cluster)
