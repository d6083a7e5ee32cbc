-- The choice computed: all that might be proposed on a node, written out.
use Rattle.std.specs.Prelude.{ℕ, List, [], ◌∷◌, Option, Some, None, is_none, flat_map, filter, if◌then◌else◌}
use Rattle.std.specs.Option.{option_or}
use Rattle.cap_model.specs.Asks.{Ask}
use Rattle.cap_model.specs.Sight.{Sight, AppSight, NodeSight}
use Rattle.cap_model.specs.Admission.{NodeProposal, reason_of}
use Rattle.cap_model.specs.declared.proposal.ProposalKind.{ProposalKind}
use Rattle.cap_model.specs.Choice.{is_after, ring_from}

-- an ask as a proposal of either kind on the node
abbrev pub proposals_of : ℕ → AppSight → Ask → List NodeProposal
proposals_of n app ask =
    record { kind = ProposalKind.Grant; app = app.number; key = ask.key; node = n; resource = ask.resource }
    ∷ record { kind = ProposalKind.Reserve; app = app.number; key = ask.key; node = n; resource = ask.resource }
    ∷ []

module _ {K : ℕ} where
  -- the admissible proposals on a node
  abbrev pub admissible_on : Sight K → ℕ → List NodeProposal
  admissible_on sight n = filter (λ p. is_none (reason_of sight p)) (flat_map (λ app. flat_map (proposals_of n app) app.asks) sight.apps)

  -- the second, where there is one that is served before the first
  abbrev pub sooner : Sight K → NodeProposal → Option NodeProposal → Option NodeProposal
  sooner sight p None = Some p
  sooner sight p (Some q) = if is_after sight p q then Some q else Some p

  -- the one of them that is served first
  abbrev pub first_served : Sight K → List NodeProposal → Option NodeProposal
  first_served sight [] = None
  first_served sight (p ∷ ps) = sooner sight p (first_served sight ps)

  -- the choice on a node, and the choice of the first of these nodes that has one
  abbrev pub choice_on : Sight K → ℕ → Option NodeProposal
  choice_on sight n = first_served sight (admissible_on sight n)

  abbrev pub first_choice : Sight K → List NodeSight → Option NodeProposal
  first_choice sight [] = None
  first_choice sight (node ∷ nodes) = option_or (choice_on sight node.number) (first_choice sight nodes)

  -- the choice from a starting node over the ring of all nodes
  abbrev pub choice_from : Sight K → ℕ → Option NodeProposal
  choice_from sight start = first_choice sight (ring_from start sight.nodes)
