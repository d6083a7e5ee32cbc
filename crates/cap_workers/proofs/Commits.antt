-- Commits of what was put into the lanes.
use Rattle.cap_workers.proofs.Prelude.{◌≡◌, ℕ, Option, Some, Result, Ok, Err, List, [], ◌∷◌, ◌++◌, refl, sym, ◌∙◌, ap, subst, append_assoc, append-nil, NodeProposal, Sitting, sitting, Verdict, CommitFault, resources, end_by}
use Rattle.cap_lanes.specs.Sides.{CommitterSide, LanesId}
use Rattle.cap_model.specs.declared.proposal.Verdict.TheVariants as verdict
use Rattle.cap_shared.specs.declared.faults.CommitFault.TheVariants as fault
use Rattle.cap_workers.specs.Committing.{Commits, commits_none, commits_one, CommitsNext, CommitsTaken}
use Rattle.cap_workers.specs.Lanes.{IsCommitting}
use Rattle.cap_workers.specs.Worker.{outcome_at, outcome_by}
use Rattle.cap_workers.specs.declared.gate.CommitOutcome.{CommitOutcome}
use Rattle.cap_workers.proofs.Turning.{committed_by}

-- what was taken and committed so far, and nothing or one proposal more
pub none_taken : (limit : ℕ) (s : Sitting) (side : CommitterSide) → CommitsTaken limit s s side side []
none_taken limit s side = ([], sym (append-nil side.taken), commits_none)

pub still_taken : (limit : ℕ) (old mid new : Sitting) (before now after : CommitterSide) (told : List (ℕ × CommitOutcome)) → CommitsTaken limit old mid before now told → (new ≡ mid) × (after.taken ≡ now.taken) → CommitsTaken limit old new before after told
still_taken limit old mid new before now after told (taken, is, commits) same = (taken, same.1 ∙ is, subst (λ (s : Sitting). Commits limit old taken told s) (sym same.0) commits)

outcome_is : (answer : Result (Verdict resources) CommitFault) → outcome_by answer ≡ outcome_at (end_by answer)
outcome_is (Ok (verdict.Done event)) = refl
outcome_is (Ok (verdict.Rejected reason)) = refl
outcome_is (Err (fault.Sealed back)) = refl
outcome_is (Err (fault.NoMemory back)) = refl

pub next_taken : (limit : ℕ) (old mid new : Sitting) (before now after : CommitterSide) (told : List (ℕ × CommitOutcome)) (one : ℕ × CommitOutcome) → CommitsTaken limit old mid before now told → CommitsNext limit mid new now after one → CommitsTaken limit old new before after (told ++ one ∷ [])
next_taken limit old mid new before now after told (w, outcome) (taken, is, commits) (p, answer, next, answers, came) = (
  taken ++ (w, p) ∷ [],
  next ∙ ap (λ (x : List (ℕ × NodeProposal)). x ++ (w, p) ∷ []) is ∙ append_assoc before.taken taken ((w, p) ∷ []),
  subst (λ (o : CommitOutcome). Commits limit old (taken ++ (w, p) ∷ []) (told ++ (w, o) ∷ []) new) (sym (came ∙ outcome_is answer)) (commits_one commits w p (end_by answer) (committed_by p limit mid new answer answers)),
)

-- what is committed with one seat, piece by piece
commits_then : {limit : ℕ} {a b c : Sitting} {ys : List (ℕ × NodeProposal)} {more : List (ℕ × CommitOutcome)} (xs : List (ℕ × NodeProposal)) (told : List (ℕ × CommitOutcome)) → Commits limit a xs told b → Commits limit b ys more c →
    Commits limit a (xs ++ ys) (told ++ more) c
commits_then xs told x commits_none = rw (append-nil xs, append-nil told) x
commits_then xs told x (commits_one {taken = taken} {told = more} before worker p end one) =
    rw (sym (append_assoc xs taken ((worker, p) ∷ [])), sym (append_assoc told more ((worker, outcome_at end) ∷ []))) (commits_one (commits_then xs told x before) worker p end one)

-- a seat that was answered nothing, of lanes out of which nothing was taken
pub committing_none : (name : Option LanesId) (limit : ℕ) (side : CommitterSide) (seat : Sitting) (posted : List (ℕ × CommitOutcome)) → Some side.lanes ≡ name → side.taken ≡ [] → seat.past ≡ [] → posted ≡ [] → IsCommitting name limit side seat posted
committing_none name limit side seat posted named none fresh empty =
    let same : sitting seat.seat [] ≡ seat = ap (sitting seat.seat) (sym fresh) in
    let nothing : Commits limit (sitting seat.seat []) side.taken [] (sitting seat.seat []) = rw none commits_none in
    (named, (seat.seat, rw empty (subst (λ (s : Sitting). Commits limit (sitting seat.seat []) side.taken [] s) same nothing)))

-- more was taken out of the lanes and committed
pub committing_more : (name : Option LanesId) (limit : ℕ) (before after : CommitterSide) (old new : Sitting) (was posted told : List (ℕ × CommitOutcome)) → IsCommitting name limit before old was → after.lanes ≡ before.lanes → CommitsTaken limit old new before after told →
    posted ≡ was ++ told → IsCommitting name limit after new posted
committing_more name limit before after old new was posted told (named, (n, commits)) same (taken, is, more) noted = (ap Some same ∙ named, (n, rw (is, noted) (commits_then before.taken was commits more)))
