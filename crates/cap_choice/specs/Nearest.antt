-- The nearest node without a reservation that takes an ask of those that were looked at.
use Rattle.std.specs.Prelude.{◌≡◌, ◌⊎◌, ℕ, ◌<◌, ◌≤◌, Option, Some, None, IsSome, length}
use Rattle.std.specs.List.{slice_get}
use Rattle.std.specs.declared.cmp.Ordering.TheVariants.{Less}
use Rattle.cap_model.specs.Sight.{AppSight, NodeSight, Sight}
use Rattle.cap_model.specs.Admission.{NodeProposal}
use Rattle.cap_model.specs.Candidates.{choice_on}
use Rattle.cap_farm.specs.Offers.{IsOffer, Offer}
use Rattle.cap_farm.specs.Ring.{node_after}
use Rattle.cap_choice.specs.Admitting.{IsPassed}
use Rattle.cap_farm.specs.Service.{app_cmp}

-- the ask is one of the first so many of an application
pub record IsAskBefore (app : AppSight) (count : ℕ) (o : Offer) : Type 0 where
  pub same : o.app ≡ app
  pub index : ℕ
  pub early : index < count
  pub at : slice_get app.asks index ≡ Some o.ask

module _ {K : ℕ} where
  -- the asks of applications that are served before one; all where none is named
  abbrev pub ComesBefore : Sight K → Option AppSight → Offer → Type 0
  ComesBefore sight None o = Unit {0}
  ComesBefore sight (Some app) o = app_cmp sight o.app app ≡ Less

  -- and with the first so many asks of this one, or with all
  abbrev pub ComesUpTo : Sight K → AppSight → ℕ → Offer → Type 0
  ComesUpTo sight app count o = (app_cmp sight o.app app ≡ Less) ⊎ IsAskBefore app count o

  -- a node of the ring without a reservation, and the choice there: none before it admits any of the asks that were looked at
  pub record IsNearest (sight : Sight K) (first : ℕ) (looked_at : Offer → Type 0) (turn : ℕ) (proposal : Option NodeProposal) : Type 0 where
    pub within : turn ≤ length sight.nodes
    pub passed : (o : Offer) → IsOffer sight o → looked_at o → IsPassed sight first turn o
    pub chosen : turn < length sight.nodes → (node : NodeSight) → node_after sight.nodes first turn ≡ Some node → IsSome proposal × (proposal ≡ choice_on sight node.number)
    pub none : length sight.nodes ≤ turn → proposal ≡ None

  abbrev pub IsNearestBefore : Sight K → ℕ → Option AppSight → ℕ → Option NodeProposal → Type 0
  IsNearestBefore sight first app turn proposal = IsNearest sight first (ComesBefore sight app) turn proposal

  abbrev pub IsNearestUpTo : Sight K → ℕ → AppSight → ℕ → ℕ → Option NodeProposal → Type 0
  IsNearestUpTo sight first app count turn proposal = IsNearest sight first (ComesUpTo sight app count) turn proposal
