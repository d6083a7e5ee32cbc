-- Laws of the definitions: proposals and choices, and which containers and applications there are over runs.
use Rattle.std.specs.Prelude.{◌≡◌, ◌↔◌, ℕ, ◌+◌, ◌≤◌, Bool, List, None, ◌++◌, map, filter, count_by, not, ◌==◌}
use Rattle.std.specs.List.{range_with_len}
use Rattle.cap_model.specs.Flat.{Flat, Container, Reservation}
use Rattle.cap_model.specs.Sight.{Sight, sight_of}
use Rattle.cap_model.specs.Admission.{NodeProposal, IsAdmissible, reason_number, reasons, reason_of}
use Rattle.cap_model.specs.Choice.{rank_cmp, rank_of, IsNodeChoice, IsChoiceFrom}
use Rattle.cap_model.specs.Candidates.{choice_on, choice_from}
use Rattle.std.specs.declared.cmp.Ordering.TheVariants.{Equal}
use Rattle.cap_model.specs.Ending.{is_among}
use Rattle.cap_model.specs.declared.event.Event.{Event}
use Rattle.cap_model.specs.Events.{Step, Run, grant_proposal, reserve_proposal, after_grant, after_reserve, after_event, ever_granted, ever_ended}
use Rattle.cap_base.specs.Members.{IsRising}

-- a proposal has no reason to be rejected exactly where it is admissible
abbrev pub RejectedExactly : Type 0
RejectedExactly = (K : ℕ) (sight : Sight K) (p : NodeProposal) → (reason_of sight p ≡ None) ↔ IsAdmissible sight p

-- the tests of a proposal stand in the order of the numbers of their reasons, so that of several that hold the smallest number is answered
abbrev pub ReasonsAreInOrder : Type 0
ReasonsAreInOrder = (K : ℕ) (sight : Sight K) (p : NodeProposal) → map (λ test. reason_number test.1) (reasons sight p) ≡ range_with_len 1 13

-- a proposal that has no reason to be rejected is a step: a grant takes the next container number
abbrev pub PassedIsStep : Type 0
PassedIsStep =
    (K : ℕ) (old : Flat K)
    → ((c : Container) → c.number ≡ old.nodes.next_container → reason_of (sight_of old) (grant_proposal c) ≡ None → Step old (Event.Grant c) (after_grant old c))
    × ((r : Reservation) → reason_of (sight_of old) (reserve_proposal r) ≡ None → Step old (Event.Reserve r) (after_reserve old r))

-- two admissible proposals of one node are never of one rank
abbrev pub OneOfEachRank : Type 0
OneOfEachRank =
    (K : ℕ) (sight : Sight K) (p q : NodeProposal) → IsAdmissible sight p → IsAdmissible sight q → p.node ≡ q.node → rank_cmp (rank_of sight p) (rank_of sight q) ≡ Equal → p ≡ q

-- the choice on a node, computed from all that might be proposed there, is the choice
abbrev pub ChoiceIsComputed : Type 0
ChoiceIsComputed = (K : ℕ) (sight : Sight K) (n : ℕ) → IsNodeChoice sight n (choice_on sight n)

-- and so is the choice from a starting node
abbrev pub ChoiceFromIsComputed : Type 0
ChoiceFromIsComputed = (K : ℕ) (sight : Sight K) (start : ℕ) → IsChoiceFrom sight start (choice_from sight start)

-- the cluster after a step is determined by the event
abbrev pub StepIsDetermined : Type 0
StepIsDetermined = (K : ℕ) (old new : Flat K) (event : Event K) → Step old event new → new ≡ after_event old event

-- a run leads to one state: the cluster after so many events of a run is the one that is so
abbrev pub RunLeadsToOneState : Type 0
RunLeadsToOneState = (K : ℕ) (events : List (Event K)) (old a b : Flat K) → Run old events a → Run old events b → a ≡ b

-- the numbers of containers
abbrev pub container_numbers : List Container → List ℕ
container_numbers containers = map (λ c. c.number) containers

-- the live containers have distinct numbers below the next
abbrev pub HasDistinctNumbers : {K : ℕ} → Flat K → Type 0
HasDistinctNumbers cluster = IsRising 1 (container_numbers cluster.nodes.live) cluster.nodes.next_container

-- a step keeps the numbers of live containers distinct and below the next
abbrev pub NumbersStayDistinct : Type 0
NumbersStayDistinct = (K : ℕ) (old new : Flat K) (event : Event K) → HasDistinctNumbers old → Step old event new → HasDistinctNumbers new

-- the containers that a run grants have rising numbers, from the first that was free at its start: none is granted twice
abbrev pub GrantedOnce : Type 0
GrantedOnce =
    (K : ℕ) (events : List (Event K)) (old new : Flat K) → Run old events new → IsRising old.nodes.next_container (container_numbers (ever_granted events)) new.nodes.next_container

-- of the containers that pass any test, those live at the close and those ever ended are as many as those live at the opening and those
-- ever granted: none is lost, none is doubled
abbrev pub ContainersBalance : Type 0
ContainersBalance =
    (K : ℕ) (events : List (Event K)) (old new : Flat K) → HasDistinctNumbers old → Run old events new → (test : Container → Bool) →
    count_by test new.nodes.live + count_by test (ever_ended old events) ≡ count_by test old.nodes.live + count_by test (ever_granted events)

-- no container is ended twice in a run
abbrev pub EndedOnce : Type 0
EndedOnce =
    (K : ℕ) (events : List (Event K)) (old new : Flat K) → HasDistinctNumbers old → Run old events new → (n : ℕ) → count_by (λ c. c.number == n) (ever_ended old events) ≤ 1

-- the closing live containers are the opening ones with the granted, without the ended, in this order
abbrev pub LiveIsWhatWasNotEnded : Type 0
LiveIsWhatWasNotEnded =
    (K : ℕ) (events : List (Event K)) (old new : Flat K) → HasDistinctNumbers old → Run old events new →
    new.nodes.live ≡ filter (λ c. not (is_among (ever_ended old events) c)) (old.nodes.live ++ ever_granted events)

-- the active applications have rising numbers below the next
abbrev pub HasAppNumbers : {K : ℕ} → Flat K → Type 0
HasAppNumbers cluster = IsRising 1 (map (λ app. app.number) cluster.apps.active) cluster.apps.next

-- a step keeps the numbers of applications distinct and below the next
abbrev pub AppNumbersStayDistinct : Type 0
AppNumbersStayDistinct = (K : ℕ) (old new : Flat K) (event : Event K) → HasAppNumbers old → Step old event new → HasAppNumbers new
