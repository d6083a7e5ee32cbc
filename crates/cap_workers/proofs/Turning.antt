-- What a turn chooses and commits.
use Rattle.cap_workers.proofs.Prelude.{◌≡◌, ℕ, Option, Result, Ok, Err, ap, refl, ◌∙◌, MatchResult, resources, NodeProposal, choice_from, Flat, Sight, Verdict, Seen, sight_in, Parts, sight_of_copy, same_choice, CommitAnswers, CommitsBack, CopyIs, CommitFault, Sitting, Chooses, IsCommitted, end_by}
use Rattle.cap_model.specs.declared.proposal.Verdict.TheVariants as verdict
use Rattle.cap_shared.specs.declared.faults.CommitFault.TheVariants as fault

-- the choice on what shows the cluster of a note is that of this cluster
pub chosen_in : {opening : Flat resources} {old new : Sitting} (sight : Sight resources) {choice : Option NodeProposal} (start : ℕ) → CopyIs opening old new sight → choice ≡ choice_from sight start → Chooses opening start old new choice
chosen_in sight start (es, mid, replays, same, noted) is = record { entries = es; cluster = mid; replays = replays; noted = noted; chosen = is ∙ same_choice _ _ same start }

-- the same on what is arranged of a copy
pub chosen_on : {opening : Flat resources} {old new : Sitting} (copied : Parts) (snapshot : Seen) {choice : Option NodeProposal} (start : ℕ) → sight_in resources snapshot ≡ sight_of_copy resources copied → CopyIs opening old new (sight_of_copy resources copied) →
    choice ≡ choice_from (sight_in resources snapshot) start → Chooses opening start old new choice
chosen_on copied snapshot start arranged noted is = chosen_in (sight_of_copy resources copied) start noted (is ∙ ap (λ (sight : Sight resources). choice_from sight start) arranged)

-- an end that is what a commit was answered
pub committed_by : (p : NodeProposal) (limit : ℕ) (old new : Sitting) (answer : Result (Verdict resources) CommitFault) → MatchResult answer (CommitAnswers p old new) (CommitsBack p limit old new) → IsCommitted p limit old new (end_by answer)
committed_by p limit old new (Ok (verdict.Done event)) h = h
committed_by p limit old new (Ok (verdict.Rejected reason)) h = h
committed_by p limit old new (Err (fault.Sealed back)) h = h
committed_by p limit old new (Err (fault.NoMemory back)) h = (refl, h.1)
