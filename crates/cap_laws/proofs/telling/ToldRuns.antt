-- Over whole runs grants and ends are told in order, each once.
use Rattle.cap_laws.proofs.Prelude.{◌≡◌, ℕ, ◌<◌, Bool, true, false, List, [], ◌∷◌, ◌++◌, refl, sym, ◌∙◌, ap, subst, inl, inr, arith, ◌⊎◌, Option, Some, None, IsSome, cond, not, ◌==◌, filter, find, map, cons_option, option_map_or, nat_tests, append_assoc, append-nil, map-append, filter-append, Cause, Grant, Request, Reply, Flat, App, Container, app_at, containers_of, containers_on, named_among, released_by, ended_by, Event, Step, Run, after_event, after_grant, news_of, granted_by, ever_granted, AreThere, IsWellFormed, container_numbers, HasAppNumbers, new_grants, ever_new_grants, GrantsAreToldOverRuns, NewGrantsAreOfTheGranted, ends_of, EndsAreToldOverRuns, IsIn, found, of_filter, each_of, filter_none, not_none, there_or_not}
use Rattle.cap_laws.proofs.lists.Tables.{numbers_move, used, next_rises, spent}
use Rattle.cap_laws.proofs.calls.Steps.{Effect, by_step}
use Rattle.cap_laws.proofs.calls.Moves.{step_moves, allocate_change, ends_change, grant_change}
use Rattle.cap_laws.proofs.numbers.AppNumbers.{never_back, kept_change}
use Rattle.cap_laws.proofs.numbers.Balance.{step_is_determined}
use Rattle.cap_laws.proofs.choice.Proposers.{seen_is}
use Rattle.cap_laws.proofs.bounds.Formed.{step_formed}
use Rattle.cap_laws.proofs.telling.News.{News, IsNews, AreTold, untold, told_of, new_of, grants, ends, grants_are, ends_are, grants_told, ends_told}
use Rattle.cap_laws.proofs.telling.Telling.{told_in_order}

-- what some numbers name among containers are some of them

in_cons : (c : Container) (o : Option Container) (xs : List Container) → IsIn c (cons_option o xs) → (o ≡ Some c) ⊎ IsIn c xs
in_cons c None xs m = inr m
in_cons c (Some d) xs (inl e) = inl (ap (λ x. Some x) e)
in_cons c (Some d) xs (inr m) = inr m

pub named_in : (ns : List ℕ) (live : List Container) (c : Container) → IsIn c (named_among ns live) → IsIn c live
named_in [] live c m = absurd m
named_in (n ∷ ns) live c m =
    elim (in_cons c (find (λ d. d.number == n) live) (named_among ns (filter (λ d. not (d.number == n)) live)) m) [
      | inl e ↦ (found (λ (d : Container). d.number == n) live c e).0
      | inr h ↦ (of_filter (λ (d : Container). not (d.number == n)) live c (named_in ns (filter (λ d. not (d.number == n)) live) c h)).1
    ]

-- who is not there is told nothing, and of who goes nothing is told or added

module _ {N : Type 0} (k : News N) {K : ℕ} (old : Flat K) (n : ℕ) where
  abbrev pub IsQuietAt : Event K → Type 0
  IsQuietAt event = (told_of k old n event ≡ []) × (new_of k old n event ≡ [])

  module _ (numbers : HasAppNumbers old) (none_ends : (cause : Cause) (gone : List Container) → ((c : Container) → IsIn c gone → IsIn c old.nodes.live) → k.ends cause n gone ≡ []) (missing : app_at old n ≡ None) where
    -- no application that is there has the number
    other : (m : ℕ) → IsSome (app_at old m) → (b : Bool) → m == n ≡ b → m == n ≡ false
    other m there true e = let same : m ≡ n = grind (arith, nat_tests, e) in absurd (not_none (app_at old m) (ap (app_at old) same ∙ missing) there)
    other m there false e = e

    call_quiet : (by : ℕ) (new : Flat K) {request : Request K} {reply : Reply K} → Effect old request reply new → IsQuietAt (Event.Call by request reply)
    call_quiet by new (Effect.nothing quiet) = let q = quiet by n in rw (q.0, q.1) (refl, refl)
    call_quiet by new (Effect.allocate m id asks releases there fresh) =
        rw (other m there (m == n) refl, fresh) (refl, none_ends Cause.Released (released_by old m releases) (λ c i. (of_filter (λ (x : Container). x.app == m) old.nodes.live c (named_in releases (containers_of old.nodes m) c i)).1))
    call_quiet by new (Effect.heartbeat node id ended fresh) =
        rw fresh (refl, none_ends Cause.EndedOnNode (ended_by old node ended) (λ c i. (of_filter (λ (x : Container). x.node == node) old.nodes.live c (named_in ended (containers_on old.nodes node) c i)).1))
    call_quiet by new (Effect.node_gone node) = (refl, none_ends Cause.NodeLost (containers_on old.nodes node) (λ c i. (of_filter (λ (x : Container). x.node == node) old.nodes.live c i).1))
    call_quiet by new _ = (refl, refl)

    pub quiet : (event : Event K) (new : Flat K) → Step old event new → IsQuietAt event
    quiet event new s =
        by_step old (λ e x. IsQuietAt e) (λ by request reply x call. call_quiet by x call)
        (λ c admissible number. rw (other c.app (there (seen_is old numbers c.app (admissible.0).registered).at) (c.app == n) refl) (refl, refl)) (λ r admissible. (refl, refl)) event new s
      where
        there : {o : Option App} {a : App} → o ≡ Some a → IsSome o
        there e = cc e

  module _ (there : IsSome (app_at old n)) where
    call_going : (by : ℕ) (new : Flat K) {request : Request K} {reply : Reply K} → app_at new n ≡ None → Effect old request reply new → IsQuietAt (Event.Call by request reply)
    call_going by new e (Effect.nothing quiet) = let q = quiet by n in rw (q.0, q.1) (refl, refl)
    call_going by new e (Effect.allocate m id asks releases some fresh) = absurd (kept_change old new (allocate_change old m id asks releases) n there e)
    call_going by new e (Effect.heartbeat node id ended fresh) = absurd (kept_change old new (ends_change Cause.EndedOnNode (ended_by old node ended) old new refl refl) n there e)
    call_going by new e (Effect.node_gone node) = absurd (kept_change old new (ends_change Cause.NodeLost (containers_on old.nodes node) old new refl refl) n there e)
    call_going by new e _ = (refl, refl)

    going : (event : Event K) (new : Flat K) → Step old event new → app_at new n ≡ None → IsQuietAt event
    going event new s =
        by_step old (λ event x. app_at x n ≡ None → IsQuietAt event) (λ by request reply x call e. call_going by x e call)
        (λ c admissible number e. absurd (kept_change old (after_grant old c) (grant_change old c) n there e)) (λ r admissible e. (refl, refl)) event new s

-- the law of a run, for what holds of its states

-- a first step and the rest, put together
told_joined : {A : Type 0} (told rest left before after new more : List A) → told ++ after ≡ before ++ new → rest ++ left ≡ after ++ more → (told ++ rest) ++ left ≡ before ++ (new ++ more)
told_joined told rest left before after new more first tail =
    append_assoc told rest left ∙ ap (λ xs. told ++ xs) tail ∙ sym (append_assoc told after more) ∙ ap (λ xs. xs ++ more) first ∙ append_assoc before new more

-- what holds of each state of a run, and says that no end is told of live containers to an application that is not there
record IsKept {N : Type 0} (k : News N) {K : ℕ} (Good : Flat K → Type 0) : Type 0 where
  numbers : (c : Flat K) → Good c → HasAppNumbers c
  stays : (old mid : Flat K) (event : Event K) → Good old → Step old event mid → Good mid
  none_ends : (c : Flat K) (n : ℕ) → Good c → app_at c n ≡ None → (cause : Cause) (gone : List Container) → ((x : Container) → IsIn x gone → IsIn x c.nodes.live) → k.ends cause n gone ≡ []

module _ {N : Type 0} {k : News N} {K : ℕ} {told new : Flat K → ℕ → Event K → List N} {ever_told ever_new : Flat K → ℕ → List (Event K) → List N} {Good : Flat K → Type 0}
    (is : IsNews k) (are : AreTold k told new ever_told ever_new) (good : IsKept k Good) (n : ℕ) where
  nothing : (old : Flat K) (event : Event K) → IsQuietAt k old n event → (told old n event ≡ []) × (new old n event ≡ [])
  nothing old event q = (are.told_is old n event ∙ q.0, are.new_is old n event ∙ q.1)

  quietly : (old mid : Flat K) (event : Event K) → Good old → Step old event mid → app_at old n ≡ None → (told old n event ≡ []) × (new old n event ≡ [])
  quietly old mid event g step e = nothing old event (quiet k old n (good.numbers old g) (good.none_ends old n g e) e event mid step)

  -- after an event of which nothing is told and to which nothing is added
  then_nothing : (old mid : Flat K) (event : Event K) (events : List (Event K)) → Step old event mid → (told old n event ≡ []) × (new old n event ≡ []) → (ever_told mid n events ≡ []) × (ever_new mid n events ≡ []) →
      (ever_told old n (event ∷ events) ≡ []) × (ever_new old n (event ∷ events) ≡ [])
  then_nothing old mid event events step q rest =
      let at = step_is_determined K old mid event step in
      let more = are.more old n event events in
      (more.0 ∙ (λ i. (q.0) i ++ (ap (λ c. ever_told c n events) (sym at) ∙ rest.0) i), more.1 ∙ (λ i. (q.1) i ++ (ap (λ c. ever_new c n events) (sym at) ∙ rest.1) i))

  never : (events : List (Event K)) (old close : Flat K) → Good old → app_at old n ≡ None → n < old.apps.next → Run old events close → (ever_told old n events ≡ []) × (ever_new old n events ≡ [])
  never [] old close g e h run = are.start old n
  never (event ∷ events) old close g e h (mid, step, run) =
      let still = spent (step_moves old mid event step) n e h in
      then_nothing old mid event events step (quietly old mid event g step e) (never events mid close (good.stays old mid event g step) (still.0) (still.1) run)

  -- the law
  abbrev IsToldOver : List (Event K) → Flat K → Flat K → Type 0
  IsToldOver events old close = (left : List N) × (ever_told old n events ++ left ≡ untold k old n ++ ever_new old n events) × (IsSome (app_at close n) → left ≡ untold k close n)

  -- where nothing is told and nothing added, all is left
  untouched : (events : List (Event K)) (old : Flat K) → (ever_told old n events ≡ []) × (ever_new old n events ≡ []) → ever_told old n events ++ untold k old n ≡ untold k old n ++ ever_new old n events
  untouched events old e = ap (λ xs. xs ++ untold k old n) (e.0) ∙ sym (append-nil (untold k old n)) ∙ ap (λ xs. untold k old n ++ xs) (sym (e.1))

  run_tells : (events : List (Event K)) (old close : Flat K) → Good old → Run old events close → IsToldOver events old close
  run_tells [] old close g run = (untold k old n, untouched [] old (are.start old n), λ h. ap (λ (c : Flat K). untold k c n) run)
  run_tells (event ∷ events) old close g (mid, step, run) = by (run_tells events mid close (good.stays old mid event g step) run) (there_or_not (app_at mid n)) (there_or_not (app_at old n))
    where
      none : (c : Flat K) → app_at c n ≡ None → untold k c n ≡ []
      none c e = ap (λ o. option_map_or k.of o []) e

      joined : IsToldOver events mid close → told old n event ++ untold k mid n ≡ untold k old n ++ new old n event → IsToldOver (event ∷ events) old close
      joined rest first =
          let more = are.more old n event events in (
            rest.0,
            ap (λ xs. xs ++ rest.0) (more.0)
                ∙ told_joined (told old n event) (ever_told (after_event old event) n events) (rest.0) (untold k old n) (untold k mid n) (new old n event) (ever_new (after_event old event) n events) first
                (subst (λ c. ever_told c n events ++ rest.0 ≡ untold k mid n ++ ever_new c n events) (step_is_determined K old mid event step) (rest.1))
                ∙ ap (λ xs. untold k old n ++ xs) (sym (more.1)),
            rest.2,
          )

      by : IsToldOver events mid close → (IsSome (app_at mid n) ⊎ (app_at mid n ≡ None)) → (IsSome (app_at old n) ⊎ (app_at old n ≡ None)) → IsToldOver (event ∷ events) old close
      by rest (inl a) b = joined rest (told_in_order is are old mid n event step a)
      by rest (inr a) (inr b) =
          let q = quietly old mid event g step b in
          joined rest ((λ i. (q.0) i ++ none mid a i) ∙ sym (λ i. none old b i ++ (q.1) i))
      by rest (inr a) (inl b) =
          let below : n < mid.apps.next = omega (arith, used (λ (x : App). x.number) old.apps.active old.apps.next n (good.numbers old g) b, next_rises (step_moves old mid event step)) in (
            untold k old n,
            untouched (event ∷ events) old (then_nothing old mid event events step (nothing old event (going k old n b event mid step a)) (never events mid close (good.stays old mid event g step) a below run)),
            λ h. absurd (not_none (app_at close n) (never_back events mid close n a below run) h),
          )

module _ {K : ℕ} where
  -- of a well-formed cluster no live container is of an application that is not there
  pub not_live : (old : Flat K) (n : ℕ) → IsWellFormed old → app_at old n ≡ None → (c : Container) → IsIn c old.nodes.live → c.app == n ≡ false
  not_live old n w missing c m = by (c.app == n) refl
    where
      by : (b : Bool) → c.app == n ≡ b → b ≡ false
      by true e =
          let same : c.app ≡ n = grind (arith, nat_tests, e) in
          absurd (not_none (app_at old c.app) (ap (app_at old) same ∙ missing) (each_of (λ (x : Container). AreThere old x.app x.node) old.nodes.live w.live c m).0)
      by false e = refl

  pub none_ends : (old : Flat K) (n : ℕ) → IsWellFormed old → app_at old n ≡ None → (cause : Cause) (gone : List Container) → ((c : Container) → IsIn c gone → IsIn c old.nodes.live) → ends_of cause n gone ≡ []
  none_ends old n w missing cause gone live =
      ap (map (λ c. record { container = c.number; cause = cause })) (filter_none (λ (c : Container). c.app == n) gone (λ c m. not_live old n w missing c (live c m)))

  grants_kept : IsKept grants (λ (c : Flat K). HasAppNumbers c)
  grants_kept = record { numbers = λ c g. g; stays = λ old mid event g step. numbers_move (step_moves old mid event step) g; none_ends = λ c n g e cause gone live. refl }

  ends_kept : IsKept ends (λ (c : Flat K). IsWellFormed c)
  ends_kept = record { numbers = λ c w. w.apps; stays = step_formed; none_ends = none_ends }

pub grants_are_told_over_runs : GrantsAreToldOverRuns
grants_are_told_over_runs K events old new n r run = run_tells grants_are grants_told grants_kept n events old new r run

pub ends_are_told_over_runs : EndsAreToldOverRuns
ends_are_told_over_runs K events old new n w run = run_tells ends_are ends_told ends_kept n events old new w run

-- the grants that are added are those of the containers granted

added_by : {K : ℕ} (old : Flat K) (n : ℕ) (event : Event K) → map (λ g. g.container) (new_grants old n event) ≡ container_numbers (filter (λ c. c.app == n) (granted_by event))
added_by old n (Event.Call by request reply) = refl
added_by old n (Event.Grant c) = by (c.app == n)
  where
    by : (b : Bool) → map (λ g. g.container) (cond b (news_of old c ∷ []) []) ≡ container_numbers (cond b (c ∷ []) [])
    by true = refl
    by false = refl
added_by old n (Event.Reserve r) = refl

added : {K : ℕ} (events : List (Event K)) (old : Flat K) (n : ℕ) → map (λ g. g.container) (ever_new_grants old n events) ≡ container_numbers (filter (λ c. c.app == n) (ever_granted events))
added [] old n = refl
added (event ∷ events) old n =
    map-append (λ (g : Grant). g.container) (new_grants old n event) (ever_new_grants (after_event old event) n events)
    ∙ (λ i. added_by old n event i ++ added events (after_event old event) n i)
    ∙ sym (map-append (λ (c : Container). c.number) (filter (λ c. c.app == n) (granted_by event)) (filter (λ c. c.app == n) (ever_granted events)))
    ∙ ap container_numbers (sym (filter-append (λ (c : Container). c.app == n) (granted_by event) (ever_granted events)))

pub new_grants_are_of_the_granted : NewGrantsAreOfTheGranted
new_grants_are_of_the_granted K events old n = added events old n
