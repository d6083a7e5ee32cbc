-- The ends that are told are those of the containers that ended.
use Rattle.cap_laws.proofs.Prelude.{◌≡◌, ℕ, ◌+◌, ◌<◌, Bool, true, false, List, [], ◌∷◌, refl, sym, ◌∙◌, ap, inl, inr, arith, ◌⊎◌, None, IsSome, not, ◌&&◌, ◌==◌, filter, count_by, nat_tests, append-nil, Cause, End, Request, Reply, after_grant, after_reserve, after_finish_master, Flat, App, Container, app_at, containers_on, containers_of, is_among, released_by, ended_by, Event, Step, Run, after_event, ended_between, ever_ended, IsBounded, new_ends, ends_of, ever_new_ends, NewEndsAreOfTheEnded, IsIn, sum_of_zeros, one_where, count_append, count_kept, find_gone, not_none, there_or_not}
use Rattle.cap_laws.proofs.lists.Tables.{used, next_rises}
use Rattle.cap_laws.proofs.calls.Steps.{Effect, by_step}
use Rattle.cap_laws.proofs.calls.Moves.{step_moves}
use Rattle.cap_laws.proofs.numbers.ContainerNumbers.{asks_keep}
use Rattle.cap_laws.proofs.numbers.Balance.{step_is_determined, none_ended, ended_by_thinning}
use Rattle.cap_laws.proofs.numbers.AppNumbers.{never_back}
use Rattle.cap_laws.proofs.telling.News.{new_of, ends, ends_told, nothing_either}
use Rattle.cap_laws.proofs.telling.ToldRuns.{quiet, not_live, none_ends}
use Rattle.cap_laws.proofs.bounds.BoundedRuns.{step_stays_bounded}
use Rattle.cap_laws.proofs.ending.NamedEnds.{count_ended, count_lost, count_ends, count_of}

module _ (n number : ℕ) where
  -- a container of the application and of the number
  abbrev it : Container → Bool
  it c = c.app == n && c.number == number

  abbrev told : List End → ℕ
  told es = count_by (λ (e : End). e.container == number) es

  nobody : (t : Container → Bool) (cs : List Container) → ((c : Container) → IsIn c cs → t c ≡ true → c.app == n ≡ false) → count_by it (filter t cs) ≡ 0
  nobody t cs f = count_kept it t cs ∙ sum_of_zeros (λ (c : Container). one_where (t c && it c)) cs (λ c m. by c (t c) (c.app == n) refl refl (f c m))
    where
      by : (c : Container) (a b : Bool) → t c ≡ a → c.app == n ≡ b → (t c ≡ true → c.app == n ≡ false) → one_where (t c && it c) ≡ 0
      by c true true e g h = let no = h e in absurd (cc (no, g))
      by c true false e g h = λ i. one_where (e i && (g i && (c.number == number)))
      by c false b e g h = λ i. one_where (e i && it c)

  module _ {K : ℕ} (old : Flat K) (b : IsBounded old) where
    still : (new : Flat K) → new.nodes.live ≡ old.nodes.live → count_by it (ended_between old new) ≡ 0
    still new e = ap (count_by it) (none_ended old new [] (e ∙ sym (append-nil old.nodes.live)))

    -- where live containers go of which some were the application's, as many are told of each number
    gone_ends : (cause : Cause) (gone : List Container) (new : Flat K) → new.nodes.live ≡ filter (λ c. not (is_among gone c)) old.nodes.live → new.nodes.next_container ≡ old.nodes.next_container →
        count_by it gone ≡ count_by it (filter (λ c. not (not (is_among gone c))) old.nodes.live) → told (ends_of cause n gone) ≡ count_by it (ended_between old new)
    gone_ends cause gone new live next all =
        count_ends cause n number gone ∙ all ∙ ap (count_by it) (sym (ended_by_thinning old new b.numbers (record { test = λ c. not (is_among gone c); live = live; next = next })))

    -- of an application that finishes nothing is told, and it is not there
    finish_ends : (app : ℕ) → IsSome (app_at (after_finish_master old app) n) → 0 ≡ count_by it (ended_between old (after_finish_master old app))
    finish_ends app h =
        let gone = containers_of old.nodes app in
        sym (nobody (λ c. c.app == app) old.nodes.live other)
        ∙ count_lost it (λ c. c.app == app) 1 old.nodes.live old.nodes.next_container b.numbers
        ∙ ap (count_by it) (sym (ended_by_thinning old (after_finish_master old app) b.numbers (record { test = λ c. not (is_among gone c); live = refl; next = refl })))
      where
        by : (e : Bool) → app == n ≡ e → app == n ≡ false
        by true e = absurd (not_none (app_at (after_finish_master old app) n) (find_gone (λ (a : App). a.number) app n e old.apps.active) h)
        by false e = e

        other : (c : Container) → IsIn c old.nodes.live → c.app == app ≡ true → c.app == n ≡ false
        other c m e = let no = by (app == n) refl in grind (arith, nat_tests, e, no)

    call_ends : (by : ℕ) (new : Flat K) {request : Request K} {reply : Reply K} → Effect old request reply new → IsSome (app_at new n) → told (new_of ends old n (Event.Call by request reply)) ≡ count_by it (ended_between old new)
    call_ends by new (Effect.nothing quiet) h = rw (quiet by n).1 (sym (still old refl))
    call_ends by new (Effect.allocate app id asks releases there fresh) h =
        let s = asks_keep app asks old in
        let gone = released_by old app releases in
        rw fresh (gone_ends Cause.Released gone new (ap (filter (λ c. not (is_among gone c))) s.live) s.next (count_ended it (λ c. c.app == app) releases 1 old.nodes.live old.nodes.next_container b.numbers))
    call_ends by new (Effect.finish_master app) h = finish_ends app h
    call_ends by new (Effect.heartbeat node id ended fresh) h =
        rw fresh (gone_ends Cause.EndedOnNode (ended_by old node ended) new refl refl (count_ended it (λ c. c.node == node) ended 1 old.nodes.live old.nodes.next_container b.numbers))
    call_ends by new (Effect.node_gone node) h = gone_ends Cause.NodeLost (containers_on old.nodes node) new refl refl (count_lost it (λ c. c.node == node) 1 old.nodes.live old.nodes.next_container b.numbers)
    call_ends by new _ h = sym (still new refl)

    step_ends : (event : Event K) (new : Flat K) → Step old event new → IsSome (app_at new n) → told (new_ends old n event) ≡ count_by it (ended_between old new)
    step_ends event new s h =
        ap told (ends_told.new_is old n event)
        ∙ by_step old (λ e x. IsSome (app_at x n) → told (new_of ends old n e) ≡ count_by it (ended_between old x)) (λ by request reply x call h. call_ends by x call h)
        (λ c admissible at h. ap told (nothing_either (c.app == n)) ∙ sym (ap (count_by it) (none_ended old (after_grant old c) (c ∷ []) refl))) (λ r admissible h. sym (still (after_reserve old r) refl)) event new s h

  run_ends : {K : ℕ} (events : List (Event K)) (old new : Flat K) → IsBounded old → Run old events new → IsSome (app_at new n) → told (ever_new_ends old n events) ≡ count_by it (ever_ended old events)
  run_ends {K} [] old new b run h = refl
  run_ends {K} (event ∷ events) old new b (mid, step, run) h = joined (by (there_or_not (app_at mid n)) (there_or_not (app_at old n))) (run_ends events mid new (step_stays_bounded K old mid event b step) run h)
    where
      at : mid ≡ after_event old event
      at = step_is_determined K old mid event step

      by : (IsSome (app_at mid n) ⊎ (app_at mid n ≡ None)) → (IsSome (app_at old n) ⊎ (app_at old n ≡ None)) → told (new_ends old n event) ≡ count_by it (ended_between old mid)
      by (inl a) o = step_ends old b event mid step a
      by (inr a) (inl o) =
          let below : n < mid.apps.next = omega (arith, used (λ (x : App). x.number) old.apps.active old.apps.next n b.formed.apps o, next_rises (step_moves old mid event step)) in
          absurd (not_none (app_at new n) (never_back events mid new n a below run) h)
      by (inr a) (inr o) =
          ap told (ends_told.new_is old n event ∙ (quiet ends old n b.formed.apps (none_ends old n b.formed o) o event mid step).1)
          ∙ sym (nobody (λ c. not (is_among mid.nodes.live c)) old.nodes.live (λ c m e. not_live old n b.formed o c m))

      joined : told (new_ends old n event) ≡ count_by it (ended_between old mid) → told (ever_new_ends mid n events) ≡ count_by it (ever_ended mid events) → told (ever_new_ends old n (event ∷ events)) ≡ count_by it (ever_ended old (event ∷ events))
      joined first rest =
          count_append (λ (e : End). e.container == number) (new_ends old n event) (ever_new_ends (after_event old event) n events)
          ∙ (λ i. first i + (ap (λ c. told (ever_new_ends c n events)) (sym at) ∙ rest ∙ ap (λ c. count_by it (ever_ended c events)) at) i)
          ∙ ap (λ c. count_by it (ended_between old c) + count_by it (ever_ended (after_event old event) events)) at
          ∙ sym (count_append it (ended_between old (after_event old event)) (ever_ended (after_event old event) events))

pub new_ends_are_of_the_ended : NewEndsAreOfTheEnded
new_ends_are_of_the_ended K events old new n b run h number = run_ends n number events old new b run h ∙ sym (count_of n number (ever_ended old events))
