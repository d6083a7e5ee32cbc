use Rattle.std.proofs.Common.{◌∷◌, List, ℕ, refl, ap}
use Rattle.cap_replay.proofs.Commands.{no_proposal}
use Rattle.cap_replay.proofs.command.proposal_of.Goals as goal

pub returns-in_err-number_of-clause-only : goal.returns-in_err-number_of-clause-only
returns-in_err-number_of-clause-only c = λ command is.
    absurd (cc (no_proposal (112 ∷ 114 ∷ 111 ∷ 112 ∷ 111 ∷ 115 ∷ 101 ∷ 32 ∷ c.args.rest.now) c.args.rest.now c.in_ok-worker.worker.now c.in_ok-worker.start.now refl c.in_ok-worker.ensures.found (λ w s first second. c.in_err-number_of.ensures.only w first) command is))

pub returns-in_err-number_of-2-clause-only : goal.returns-in_err-number_of-2-clause-only
returns-in_err-number_of-2-clause-only c = λ command is.
    absurd (cc (no_proposal (112 ∷ 114 ∷ 111 ∷ 112 ∷ 111 ∷ 115 ∷ 101 ∷ 32 ∷ c.args.rest.now) c.args.rest.now c.in_ok-worker.worker.now c.in_ok-worker.start.now refl c.in_ok-worker.ensures.found (λ w s first second. c.in_err-number_of-2.ensures.only s second) command is))

pub returns-clause-found : goal.returns-clause-found
returns-clause-found c = (
  c.in_ok-worker.worker.now,
  c.in_ok-worker.start.now,
  ap (λ (x : List ℕ). 112 ∷ 114 ∷ 111 ∷ 112 ∷ 111 ∷ 115 ∷ 101 ∷ 32 ∷ x) c.in_ok-worker.ensures.found.whole,
  c.in_ok-number_of.ensures.found,
  c.in_ok-number_of-2.ensures.found,
)
