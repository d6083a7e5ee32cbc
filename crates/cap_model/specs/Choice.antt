-- Which proposal is made: the least of the admissible ones on a node, and the first node that has one.
use Rattle.std.specs.Prelude.{◌≡◌, ◌⊎◌, ℕ, ◌%◌, Bool, false, List, [], ◌∷◌, ◌++◌, Option, Some, None, IsSome, map, drop, take, length}
use Rattle.std.specs.Ordering.{nat_cmp, then_cmp, on, is_gt}
use Rattle.std.specs.declared.cmp.Ordering.{Ordering}
use Rattle.std.specs.Cmp.Lexicographic.{slice_cmp}
use Rattle.cap_vector.specs.Fullness.{shares}
use Rattle.cap_base.specs.Levels.{Level, level_cmp}
use Rattle.cap_model.specs.declared.ask.Key.{Key}
use Rattle.cap_model.specs.Asks.{ask_key_cmp}
use Rattle.cap_base.specs.Paths.{name_of}
use Rattle.cap_model.specs.Sight.{Sight, QueueSight, NodeSight, queues_to}
use Rattle.cap_model.specs.Admission.{NodeProposal, IsAdmissible, leaf_path}

-- the place of a proposal among those on its node: its queues from below the root down to the leaf, its application, its ask
pub record Rank : Type 0 where
  pub levels : List Level
  pub app : ℕ
  pub key : Key

-- the order of service: the less full queue first at the first level that differs, then the earlier application, then the ask's key
abbrev pub rank_cmp : Rank → Rank → Ordering
rank_cmp = then_cmp (on (λ r. r.levels) (slice_cmp level_cmp)) (then_cmp (on (λ r. r.app) nat_cmp) (on (λ r. r.key) ask_key_cmp))

abbrev pub level_of : QueueSight → Level
level_of q = record { fullness = shares q.used q.row.guaranteed; name = name_of q.row.path }

-- the nodes as a ring, from a starting position on
abbrev pub ring_from : ℕ → List NodeSight → List NodeSight
ring_from start nodes = drop (start % length nodes) nodes ++ take (start % length nodes) nodes

module _ {K : ℕ} where
  abbrev pub rank_of : Sight K → NodeProposal → Rank
  rank_of sight p = record { levels = map level_of (drop 1 (queues_to sight (leaf_path sight p))); app = p.app; key = p.key }

  -- whether the first is served after the second
  abbrev pub is_after : Sight K → NodeProposal → NodeProposal → Bool
  is_after sight p q = is_gt (rank_cmp (rank_of sight p) (rank_of sight q))

  -- The choice on a node: an admissible proposal there after which no admissible proposal there is served before it; none where
  -- nothing is admissible there.
  abbrev pub IsNodeChoice : Sight K → ℕ → Option NodeProposal → Type 0
  IsNodeChoice sight n None = (q : NodeProposal) → q.node ≡ n → ¬ IsAdmissible sight q
  IsNodeChoice sight n (Some p) =
      (p.node ≡ n) × IsAdmissible sight p × ((q : NodeProposal) → q.node ≡ n → IsAdmissible sight q → is_after sight p q ≡ false)

  -- the choice of the first of these nodes that has one, none where no node has one
  abbrev pub IsFirstChoice : Sight K → List NodeSight → Option NodeProposal → Type 0
  IsFirstChoice sight [] choice = choice ≡ None
  IsFirstChoice sight (node ∷ nodes) choice =
      (IsSome choice × IsNodeChoice sight node.number choice)
      ⊎ (IsNodeChoice sight node.number None × IsFirstChoice sight nodes choice)

  -- the choice from a starting node over the ring of all nodes
  abbrev pub IsChoiceFrom : Sight K → ℕ → Option NodeProposal → Type 0
  IsChoiceFrom sight start choice = IsFirstChoice sight (ring_from start sight.nodes) choice
