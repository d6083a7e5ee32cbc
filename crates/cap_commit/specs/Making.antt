-- What was made of a proposal, and what stays where it was rejected.
use Rattle.std.specs.Prelude.{◌≡◌, ℕ}
use Rattle.cap_model.specs.declared.event.Event.{Event}
use Rattle.cap_model.specs.declared.event.Event.TheVariants as event
use Rattle.cap_model.specs.declared.proposal.Verdict.{Verdict}
use Rattle.cap_model.specs.declared.proposal.Verdict.TheVariants.{Done, Rejected}
use Rattle.cap_commit.specs.declared.made.Made.{Made}
use Rattle.cap_commit.specs.declared.made.Made.TheVariants as made
use Rattle.cap_commit.specs.ClusterState.{ClusterState}

module _ {K : ℕ} where
  -- the event of what was made
  abbrev pub event_of_made : Made K → Event K
  event_of_made (made.Grant container) = event.Grant container
  event_of_made (made.Reserve reservation) = event.Reserve reservation

  -- where a proposal was rejected the cluster is as it was, the room of its applications included
  abbrev pub KeepsIfRejected : ClusterState K → ClusterState K → Verdict K → Type 0
  KeepsIfRejected old new (Done event) = Unit {0}
  KeepsIfRejected old new (Rejected reason) = new ≡ old
