-- When two sights show the same.
use Rattle.std.specs.Prelude.{◌≡◌, ℕ, List, [], map}
use Rattle.std.specs.Option.{option_map_or}
use Rattle.cap_vector.specs.Vector.{amount}
use Rattle.cap_base.specs.Settings.{QueueRow}
use Rattle.cap_model.specs.Sight.{Sight, QueueSight, seen_queue}

-- what two sights show of a queue: its settings and its use
pub record ShownQueue : Type 0 where
  pub row : QueueRow
  pub used : List ℕ

abbrev pub shown_queue : QueueSight → ShownQueue
shown_queue q = record { row = q.row; used = q.used }

module _ {K : ℕ} where
  -- what a user uses in the queue of a path
  abbrev pub used_at : Sight K → List ℕ → List ℕ → List ℕ
  used_at sight path user = option_map_or (λ q. q.used_by user) (seen_queue sight path) []

  -- the same queues with the same use, in each the same amounts for each user, and the same of all else
  pub record ShowTheSame (a b : Sight K) : Type 0 where
    pub queues : map shown_queue a.queues ≡ map shown_queue b.queues
    pub users : (path user : List ℕ) (k : ℕ) → amount (used_at a path user) k ≡ amount (used_at b path user) k
    pub apps : a.apps ≡ b.apps
    pub nodes : a.nodes ≡ b.nodes
    pub live : a.live ≡ b.live
    pub next_container : a.next_container ≡ b.next_container
