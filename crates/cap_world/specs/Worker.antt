-- A worker, as far as anybody can see it.
use Rattle.std.specs.Prelude.{ℕ, Option, Some, None}
use Rattle.cap_base.specs.Limits.{resources}
use Rattle.cap_model.specs.Admission.{NodeProposal}
use Rattle.cap_model.specs.declared.proposal.Verdict.{Verdict}
use Rattle.cap_copy.specs.Snapshot.{Seen}

-- the workers have the numbers 0 to 63
abbrev pub workers_max : ℕ
workers_max = 64

-- its snapshot, the proposal that stands, if any, and the verdict of its last commit, if any
pub record WorkerState : Type 0 where
  pub seen : Seen
  pub choice : Option NodeProposal
  pub verdict : Option (Verdict resources)

-- with another snapshot: no proposal stands, and the verdict stays
abbrev pub with_copy : Seen → Option WorkerState → WorkerState
with_copy seen None = record { seen = seen; choice = None; verdict = None }
with_copy seen (Some was) = record { seen = seen; choice = None; verdict = was.verdict }

-- with another proposal, or none
abbrev pub with_choice : Option NodeProposal → WorkerState → WorkerState
with_choice choice was = record was { choice = choice }

-- with this verdict, and no proposal
abbrev pub with_verdict : Verdict resources → WorkerState → WorkerState
with_verdict verdict was = record was { choice = None; verdict = Some verdict }
