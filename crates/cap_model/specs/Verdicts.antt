-- What a proposal comes to when it is tried.
use Rattle.std.specs.Prelude.{◌≡◌, ℕ, Some}
use Rattle.cap_model.specs.Flat.{Flat}
use Rattle.cap_model.specs.Sight.{sight_of}
use Rattle.cap_model.specs.Admission.{NodeProposal, reason_of}
use Rattle.cap_model.specs.declared.event.Event.{Event}
use Rattle.cap_model.specs.declared.proposal.Verdict.{Verdict}
use Rattle.cap_model.specs.declared.proposal.Verdict.TheVariants.{Done, Rejected}
use Rattle.cap_model.specs.Events.{Step, grant_proposal, reserve_proposal}

module _ {K : ℕ} where
  -- the event is what was proposed: that container, or that reservation
  abbrev pub IsOf : NodeProposal → Event K → Type 0
  IsOf p (Event.Call by request reply) = ⊥
  IsOf p (Event.Grant c) = grant_proposal c ≡ p
  IsOf p (Event.Reserve r) = reserve_proposal r ≡ p

  -- it was made, as an admissible step of the cluster; or it was rejected for the first reason that holds, and nothing changed
  abbrev pub IsVerdict : NodeProposal → Flat K → Flat K → Verdict K → Type 0
  IsVerdict p old new (Done event) = IsOf p event × Step old event new
  IsVerdict p old new (Rejected reason) = (reason_of (sight_of old) p ≡ Some reason) × (new ≡ old)
