-- How lanes are closed.
use Rattle.cap_workers.proofs.Prelude.{◌≡◌, ℕ, ◌+◌, ◌<◌, Option, Some, List, [], ◌∷◌, ◌++◌, inl, inr, refl, sym, ◌∙◌, ap, subst, arith, append-nil, NodeProposal, Sitting}
use Rattle.std.proofs.lemmas.Bool.Decides.{nat_tests}
use Rattle.std.specs.Prelude.{◌≤◌, Bool, true, false, ◌==◌, if◌then◌else◌}
use Rattle.std.specs.List.{All}
use Rattle.std.proofs.lemmas.List.Elements.{All-cons, All-drop, All-head, All-nil}
use Rattle.cap_base.specs.Members.{IsIn}
use Rattle.cap_base.proofs.lists.Members.{in_left, in_right}
use Rattle.cap_lanes.specs.Items.{tagged}
use Rattle.cap_lanes.specs.Sides.{AllOf, CommitterSide, LanesId, WorkerSide, eight_workers, ends_of, put_by, worker_side}
use Rattle.cap_workers.specs.declared.gate.CommitOutcome.{CommitOutcome}
use Rattle.cap_workers.specs.Lanes.{IsCommitting, IsLane, IsNewLane, LanesClose, LanesEnd, StayIn}

-- all of them are of one name
pub all_of : (z : LanesId) (name : Option LanesId) (es : List WorkerSide) → Some z ≡ name → All (IsLane name) es → AllOf z es
all_of z name [] named all = tt
all_of z name (e ∷ es) named all =
    let own : Some e.lanes ≡ Some z = (All-head (IsLane name) e es all).0 ∙ sym named in
    let same : e.lanes ≡ z = cc own in
    (same, all_of z name es named (All-drop (IsLane name) 1 (e ∷ es) all))

-- what nobody's lane holds
none_step : (b : Bool) (x ps : List NodeProposal) (n : ℕ) → (if b then 1 else 0) + n ≡ 0 → (n ≡ 0 → ps ≡ []) → (if b then x else []) ++ ps ≡ []
none_step true x ps n z h = absurd (omega (arith, z))
none_step false x ps n z h = let none : 0 + n ≡ 0 = z in h (omega (arith, none))

put_none : (w : ℕ) (es : List WorkerSide) → ends_of w es ≡ 0 → put_by w es ≡ []
put_none w [] z = refl
put_none w (e ∷ es) z = none_step (e.worker == w) e.put (put_by w es) (ends_of w es) z (put_none w es)

-- an end is counted
counts_own : (b : Bool) (n : ℕ) → b ≡ true → 1 ≤ (if b then 1 else 0) + n
counts_own true n is = omega arith
counts_own false n is = absurd (cc is)

counts_later : (b : Bool) (n : ℕ) → 1 ≤ n → 1 ≤ (if b then 1 else 0) + n
counts_later true n less = omega arith
counts_later false n less = let same : 1 ≤ 0 + n = omega (arith, less) in same

own_number : (n : ℕ) → (n == n) ≡ true
own_number n = grind (arith, nat_tests)

is_counted : (e : WorkerSide) (es : List WorkerSide) → IsIn e es → 1 ≤ ends_of e.worker es
is_counted e [] m = absurd m
is_counted e (x ∷ xs) (inl same) = counts_own (x.worker == e.worker) (ends_of e.worker xs) (rw same (own_number e.worker))
is_counted e (x ∷ xs) (inr later) = counts_later (x.worker == e.worker) (ends_of e.worker xs) (is_counted e xs later)

-- what the one lane of a worker holds
alone_step : (b : Bool) (x ps own : List NodeProposal) (n : ℕ) → (if b then 1 else 0) + n ≡ 1 → 1 ≤ n → (n ≡ 1 → ps ≡ own) → (if b then x else []) ++ ps ≡ own
alone_step true x ps own n one some h = absurd (omega (arith, one, some))
alone_step false x ps own n one some h = let rest : 0 + n ≡ 1 = one in h (omega (arith, rest))

first_step : (b : Bool) (x ps : List NodeProposal) (n : ℕ) → b ≡ true → (if b then 1 else 0) + n ≡ 1 → (n ≡ 0 → ps ≡ []) → (if b then x else []) ++ ps ≡ x
first_step true x ps n is one h = let none : n ≡ 0 = omega (arith, one) in rw (h none) (append-nil x)
first_step false x ps n is one h = absurd (cc is)

put_alone : (e : WorkerSide) (es : List WorkerSide) → IsIn e es → ends_of e.worker es ≡ 1 → put_by e.worker es ≡ e.put
put_alone e [] m one = absurd m
put_alone e (x ∷ xs) (inl same) one =
    first_step (x.worker == e.worker) x.put (put_by e.worker xs) (ends_of e.worker xs) (rw same (own_number e.worker)) one (put_none e.worker xs) ∙ ap (λ (l : WorkerSide). l.put) same
put_alone e (x ∷ xs) (inr later) one =
    alone_step (x.worker == e.worker) x.put (put_by e.worker xs) e.put (ends_of e.worker xs) one (is_counted e xs later) (put_alone e xs later)

lane_in : (name : Option LanesId) (e : WorkerSide) (es : List WorkerSide) → IsIn e es → All (IsLane name) es → e.worker < 8
lane_in name e [] m all = absurd m
lane_in name e (x ∷ xs) (inl same) all = subst (λ (l : WorkerSide). l.worker < 8) same (All-head (IsLane name) x xs all).1
lane_in name e (x ∷ xs) (inr later) all = lane_in name e xs later (All-drop (IsLane name) 1 (x ∷ xs) all)

-- the lanes are closed, and the committer's seat comes to the others
pub closed_lanes : (name : Option LanesId) (limit : ℕ) (seats seats' : List Sitting) (side : CommitterSide) (seat : Sitting) (posted : List (ℕ × CommitOutcome)) (left : List (ℕ × NodeProposal)) (ended more ends : List WorkerSide) → seats' ≡ seats ++ seat ∷ [] → ends ≡ ended ++ more → IsCommitting name limit side seat posted → All (IsLane name) ends →
    ((w : ℕ) → tagged w side.taken ++ tagged w left ≡ put_by w ends) → left ≡ [] → ((w : ℕ) → w < 8 → ends_of w ends ≡ 1) → LanesEnd limit seats' ended
closed_lanes name limit seats seats' side seat posted left ended more ends seats_are is committing lanes each none once =
    let all : (w : ℕ) → tagged w side.taken ≡ put_by w ends = λ w. sym (append-nil (tagged w side.taken)) ∙ subst (λ (ps : List (ℕ × NodeProposal)). tagged w side.taken ++ tagged w ps ≡ put_by w ends) none (each w) in
    let closed : LanesClose limit (seats ++ seat ∷ []) ends = record {
      seat = seat;
      member = in_right seat seats (seat ∷ []) (inl refl);
      taken = side.taken;
      posted = posted;
      committed = committing.1;
      each = λ e member. all e.worker ∙ put_alone e ends member (once e.worker (lane_in name e ends member lanes));
      once = once;
    } in
    rw seats_are (inr (more, subst (λ (es : List WorkerSide). LanesClose limit (seats ++ seat ∷ []) es) is closed))

pub one_stays : (seats seats' : List Sitting) (seat : Sitting) → seats' ≡ seats ++ seat ∷ [] → StayIn seats seats'
one_stays seats seats' seat is = rw is (λ s member. in_left s seats (seat ∷ []) member)

-- lanes into which nothing was put are of their name
pub new_lanes : (name : Option LanesId) (z : LanesId) (putters : List WorkerSide) → Some z ≡ name → putters ≡ eight_workers z → All (IsNewLane name) putters
new_lanes name z putters named is =
    let P : WorkerSide → Type 0 = IsNewLane name in
    let l : ℕ → WorkerSide = λ n. worker_side z n [] in
    let new : (n : ℕ) → n < 8 → P (l n) = λ n less. ((named, less), refl) in
    let r6 : List WorkerSide = l 7 ∷ [] in
    let r5 : List WorkerSide = l 6 ∷ r6 in
    let r4 : List WorkerSide = l 5 ∷ r5 in
    let r3 : List WorkerSide = l 4 ∷ r4 in
    let r2 : List WorkerSide = l 3 ∷ r3 in
    let r1 : List WorkerSide = l 2 ∷ r2 in
    let r0 : List WorkerSide = l 1 ∷ r1 in
    let all : All P (eight_workers z) =
    All-cons P (l 0) r0 (new 0 (omega arith)) (All-cons P (l 1) r1 (new 1 (omega arith)) (All-cons P (l 2) r2 (new 2 (omega arith)) (All-cons P (l 3) r3 (new 3 (omega arith))
    (All-cons P (l 4) r4 (new 4 (omega arith)) (All-cons P (l 5) r5 (new 5 (omega arith)) (All-cons P (l 6) r6 (new 6 (omega arith)) (All-cons P (l 7) [] (new 7 (omega arith)) (All-nil P)))))))) in
    subst (λ (ls : List WorkerSide). All P ls) (sym is) all
