-- Limits stay met but for a Refresh, and after each run they are met or nothing has risen since they were.
use Rattle.cap_laws.proofs.Prelude.{◌≡◌, ℕ, ◌≤◌, Bool, true, false, List, [], ◌∷◌, ◌++◌, refl, sym, ◌∙◌, ap, subst, inl, inr, arith, ◌⊎◌, Option, Some, None, IfSome, find, option_map, bytes_eq, All, list_any, cases_Bool, append_assoc, append-nil, bytes_eq-Decides, amount, QueueRow, fits, times, fits_amounts, amounts_fit, IsIn, found, each_of, of_each, or_left, or_right, Flat, app_at, queue_at, use_of, queue_use, user_use, sight_of, NodeProposal, IsWithinLimits, Event, Step, Run, after_grant, after_reserve, grant_proposal, reserve_proposal, FitsMaximum, IsQueueBounded, IsWellFormed, IsBounded, in_queue, of_user, raises, QuietRun, NotRisen, MeetsMaximum, MeetsUserLimit, LimitsAreMetOrNotRisen, counts, refreshes, LimitsStayMet, QueuesStayBounded, QuietRunsRaiseNothing, LimitsOverRuns}
use Rattle.cap_laws.proofs.calls.Steps.{by_step}
use Rattle.cap_laws.proofs.calls.Lessening.{lessened}
use Rattle.cap_laws.proofs.calls.Refreshing.{find_kept}
use Rattle.cap_laws.proofs.choice.Proposers.{found_by_path}
use Rattle.cap_laws.proofs.bounds.BoundedRuns.{runs_are_bounded}
use Rattle.cap_laws.proofs.bounds.CallBounds.{use_falls}
use Rattle.cap_laws.proofs.bounds.Formed.{KeepsQueue, QueuesMove, step_queues, places_of, step_formed}
use Rattle.cap_laws.proofs.bounds.Growing.{IsGrown, grant_grows, reserve_grows, not_grown, maximum_met, limit_met}

-- what is at most what fits, fits
less_in_maximum : (less more : List ℕ) (most : Option (List ℕ)) → ((k : ℕ) → amount less k ≤ amount more k) → FitsMaximum more most → FitsMaximum less most
less_in_maximum less more None h f = tt
less_in_maximum less more (Some most) h f = amounts_fit less most (λ k. let a = h k in let b = fits_amounts more most f k in omega (arith, a, b))

-- what is used by those that count
abbrev used : {K : ℕ} → (List ℕ → List ℕ → Bool) → Flat K → List ℕ
used test cluster = use_of cluster (λ a. test a.leaf a.user)

-- A limit of the queue of a path, on what some use there: a grant or a reservation that counts leaves it met, and it is the same
-- where a queue changes its state alone.
record IsLimit (K : ℕ) (test : List ℕ → List ℕ → Bool) (most : QueueRow → Option (List ℕ)) (path : List ℕ) : Type 0 where
  met : (old new : Flat K) (p : NodeProposal) → IsGrown old new p → IsWellFormed old → IsWithinLimits (sight_of old) p → (q : QueueRow) → IsIn q old.settings.queues → q.path ≡ path →
      counts test (app_at old p.app) ≡ true → FitsMaximum (used test new) (most q)
  same : (f : QueueRow → QueueRow) → KeepsQueue f → (q : QueueRow) → most (f q) ≡ most q

-- what a user may use in a leaf queue
abbrev user_limit : QueueRow → Option (List ℕ)
user_limit q = Some (times q.factor q.guaranteed)

module _ {K : ℕ} where
  -- a use is no more than before
  abbrev IsNoMore : (List ℕ → List ℕ → Bool) → Flat K → Flat K → Type 0
  IsNoMore test old new = (k : ℕ) → amount (used test new) k ≤ amount (used test old) k

  -- at a step that raises nothing of it, a use stays or falls
  step_no_more : (test : List ℕ → List ℕ → Bool) (old new : Flat K) (event : Event K) → IsWellFormed old → Step old event new → raises test old event ≡ false → IsNoMore test old new
  step_no_more test old new event w s r =
      let h = places_of old w in
      by_step old (λ e x. raises test old e ≡ false → IsNoMore test old x) (λ by request reply x call r. use_falls old x (lessened old x call) h test)
      (λ c admissible number r. not_grown old (after_grant old c) (grant_proposal c) (grant_grows old c) test r)
      (λ x admissible r. not_grown old (after_reserve old x) (reserve_proposal x) (reserve_grows old x) test r) event new s r

  run_no_more : (test : List ℕ → List ℕ → Bool) (events : List (Event K)) (old new : Flat K) → IsWellFormed old → QuietRun test old events new → IsNoMore test old new
  run_no_more test [] old new w q = subst (IsNoMore test old) q (λ k. omega arith)
  run_no_more test (event ∷ events) old new w (mid, step, quiet, q) =
      λ k.
      let first = step_no_more test old mid event w step quiet k in
      let rest = run_no_more test events mid new (step_formed old mid event w step) q k in
      omega (arith, first, rest)

  -- a queue that is found is one of the queues, and of that path
  row_at : (cluster : Flat K) (path : List ℕ) (q : QueueRow) → queue_at cluster path ≡ Some q → IsIn q cluster.settings.queues × (q.path ≡ path)
  row_at cluster path q e =
      let f = found (λ (r : QueueRow). bytes_eq r.path path) cluster.settings.queues q e in
      (f.0, (bytes_eq-Decides q.path path).0 f.1)

  its_maximum : (path : List ℕ) → IsLimit K (in_queue path) (λ q. q.maximum) path
  its_maximum path = record {
    met = λ old new p grown w within q m at e.
        subst (λ x. FitsMaximum (queue_use new x) q.maximum) at
        (maximum_met old new p grown w within q m (subst (λ x. counts (in_queue x) (app_at old p.app) ≡ true) (sym at) e));
    same = λ f k. k.maximum;
  }

  its_user_limit : (path user : List ℕ) → IsLimit K (of_user path user) user_limit path
  its_user_limit path user = record {
    met = λ old new p grown w within q m at e.
        subst (λ x. FitsMaximum (user_use new x user) (user_limit q)) at
        (limit_met old new p grown w within q m user (subst (λ x. counts (of_user x user) (app_at old p.app) ≡ true) (sym at) e));
    same = λ f k q i. Some (times (k.factor q i) (k.guaranteed q i));
  }

  module _ (test : List ℕ → List ℕ → Bool) (most : QueueRow → Option (List ℕ)) (path : List ℕ) where
    -- where there is a queue of that path, its limit is met
    abbrev Meets : Flat K → Type 0
    Meets cluster = IfSome (queue_at cluster path) (λ q. FitsMaximum (used test cluster) (most q))

    meets : (cluster : Flat K) → ((q : QueueRow) → IsIn q cluster.settings.queues → q.path ≡ path → FitsMaximum (used test cluster) (most q)) → Meets cluster
    meets cluster f = by (queue_at cluster path) refl
      where
        by : (o : Option QueueRow) → queue_at cluster path ≡ o → IfSome o (λ q. FitsMaximum (used test cluster) (most q))
        by None g = tt
        by (Some q) g = let r = row_at cluster path q g in f q r.0 r.1

    kept : (old new : Flat K) → IsLimit K test most path → QueuesMove false old new → IsNoMore test old new → Meets old → Meets new
    kept old new l s less m = subst (λ o. IfSome o (λ q. FitsMaximum (used test new) (most q))) (sym queue_after) (by (queue_at old path) m)
      where
        queue_after : queue_at new path ≡ option_map s.change (queue_at old path)
        queue_after = ap (find (λ (q : QueueRow). bytes_eq q.path path)) s.queues ∙ find_kept s.change s.path path old.settings.queues

        by : (o : Option QueueRow) → IfSome o (λ q. FitsMaximum (used test old) (most q)) → IfSome (option_map s.change o) (λ q. FitsMaximum (used test new) (most q))
        by None h = tt
        by (Some q) h = subst (FitsMaximum (used test new)) (sym (l.same s.change (s.keeps refl) q)) (less_in_maximum (used test new) (used test old) (most q) less h)

    -- what counts leaves the limit met, whatever it was before
    raised : (old new : Flat K) (event : Event K) → IsLimit K test most path → IsWellFormed old → Step old event new → raises test old event ≡ true → Meets new
    raised old new event l w s r =
        by_step old (λ e x. raises test old e ≡ true → Meets x) (λ by request reply x call r. absurd (cc r))
        (λ c admissible number r. meets (after_grant old c) (λ q m at. l.met old (after_grant old c) (grant_proposal c) (grant_grows old c) w (admissible.0) q m at r))
        (λ x admissible r. meets (after_reserve old x) (λ q m at. l.met old (after_reserve old x) (reserve_proposal x) (reserve_grows old x) w (admissible.0) q m at r)) event new s r

    stays_met : (old new : Flat K) (event : Event K) → IsLimit K test most path → IsWellFormed old → refreshes event ≡ false → Step old event new → Meets old → Meets new
    stays_met old new event l w e s m = elim (cases_Bool (raises test old event)) [
      | inl r ↦ raised old new event l w s r
      | inr r ↦ kept old new l (subst (λ b. QueuesMove b old new) e (step_queues old new event s)) (step_no_more test old new event w s r) m
    ]

    run_stays_met : (events : List (Event K)) (old new : Flat K) → IsLimit K test most path → IsWellFormed old → list_any refreshes events ≡ false → Run old events new → Meets old → Meets new
    run_stays_met [] old new l w e run m = subst Meets run m
    run_stays_met (event ∷ events) old new l w e (mid, step, run) m =
        run_stays_met events mid new l (step_formed old mid event w step) (or_right (refreshes event) (list_any refreshes events) e) run
        (stays_met old mid event l w (or_left (refreshes event) (list_any refreshes events) e) step m)

  -- of all queues of a cluster, and of a queue of its
  maxima_met : (cluster : Flat K) → All (IsQueueBounded cluster) cluster.settings.queues → (path : List ℕ) → MeetsMaximum path cluster
  maxima_met cluster b path =
      meets (in_queue path) (λ q. q.maximum) path cluster
      (λ q m at. subst (λ x. FitsMaximum (queue_use cluster x) q.maximum) at (each_of (IsQueueBounded cluster) cluster.settings.queues b q m).maximum)

  limits_met : (cluster : Flat K) → All (IsQueueBounded cluster) cluster.settings.queues → (path user : List ℕ) → MeetsUserLimit path user cluster
  limits_met cluster b path user =
      meets (of_user path user) user_limit path cluster
      (λ q m at. subst (λ x. FitsMaximum (user_use cluster x user) (user_limit q)) at ((each_of (IsQueueBounded cluster) cluster.settings.queues b q m).users user))

  all_met : (cluster : Flat K) → IsWellFormed cluster → ((path : List ℕ) → MeetsMaximum path cluster) → ((path user : List ℕ) → MeetsUserLimit path user cluster) → All (IsQueueBounded cluster) cluster.settings.queues
  all_met cluster w maxima users =
      of_each (IsQueueBounded cluster) cluster.settings.queues
      (λ q m.
      let at = found_by_path cluster.settings.queues q w.tree.distinct m in
      record {
        maximum = subst (λ o. IfSome o (λ (x : QueueRow). FitsMaximum (queue_use cluster q.path) x.maximum)) at (maxima q.path);
        users = λ user. subst (λ o. IfSome o (λ (x : QueueRow). fits (user_use cluster q.path user) (times x.factor x.guaranteed) ≡ true)) at (users q.path user);
      })

  -- one event more
  quiet_more : (test : List ℕ → List ℕ → Bool) (events : List (Event K)) (old mid new : Flat K) (event : Event K) → QuietRun test old events mid → Step mid event new → raises test mid event ≡ false → QuietRun test old (events ++ event ∷ []) new
  quiet_more test [] old mid new event q s r = subst (λ x. QuietRun test x (event ∷ []) new) (sym q) (new, s, r, refl)
  quiet_more test (e ∷ events) old mid new event (next, step, quiet, q) s r = (next, step, quiet, quiet_more test events next mid new event q s r)

  -- two runs in a row
  pub run_on : (first rest : List (Event K)) (old mid new : Flat K) → Run old first mid → Run mid rest new → Run old (first ++ rest) new
  run_on [] rest old mid new run on = subst (λ x. Run x rest new) (sym run) on
  run_on (event ∷ first) rest old mid new (next, step, run) on = (next, step, run_on first rest next mid new run on)

  one_more : (IsMet : Flat K → Type 0) (test : List ℕ → List ℕ → Bool) (opening mid new : Flat K) (events : List (Event K)) (event : Event K) → Run opening events mid → Step mid event new →
      (raises test mid event ≡ true → IsMet new) → IsMet mid ⊎ NotRisen IsMet test opening events mid → IsMet new ⊎ NotRisen IsMet test opening (events ++ event ∷ []) new
  one_more IsMet test opening mid new events event run s met h = elim (cases_Bool (raises test mid event)) [ inl r ↦ inl (met r) | inr r ↦ inr (by r h) ]
    where
      by : raises test mid event ≡ false → IsMet mid ⊎ NotRisen IsMet test opening events mid → NotRisen IsMet test opening (events ++ event ∷ []) new
      by r (inl m) = record { before = events; after = event ∷ []; since = mid; parts = refl; run = run; met = inr m; quiet = (new, s, r, refl) }
      by r (inr n) = record {
        before = n.before;
        after = n.after ++ event ∷ [];
        since = n.since;
        parts = ap (λ xs. xs ++ event ∷ []) n.parts ∙ append_assoc n.before n.after (event ∷ []);
        run = n.run;
        met = n.met;
        quiet = quiet_more test n.after n.since mid new event n.quiet s r;
      }

  nothing_yet : (IsMet : Flat K → Type 0) (test : List ℕ → List ℕ → Bool) (opening : Flat K) → NotRisen IsMet test opening [] opening
  nothing_yet IsMet test opening = record { before = []; after = []; since = opening; parts = refl; run = refl; met = inl refl; quiet = refl }

  step_met : (opening mid new : Flat K) (events : List (Event K)) (event : Event K) → IsWellFormed mid → Run opening events mid → Step mid event new → LimitsAreMetOrNotRisen opening events mid →
      LimitsAreMetOrNotRisen opening (events ++ event ∷ []) new
  step_met opening mid new events event w run s l = record {
    maxima = λ path. one_more (MeetsMaximum path) (in_queue path) opening mid new events event run s (raised (in_queue path) (λ q. q.maximum) path mid new event (its_maximum path) w s) (l.maxima path);
    users = λ path user. one_more (MeetsUserLimit path user) (of_user path user) opening mid new events event run s (raised (of_user path user) user_limit path mid new event (its_user_limit path user) w s) (l.users path user);
  }

  -- after some events that were made, others are
  go_on : (done events : List (Event K)) (opening old new : Flat K) → IsWellFormed old → Run opening done old → LimitsAreMetOrNotRisen opening done old → Run old events new →
      LimitsAreMetOrNotRisen opening (done ++ events) new
  go_on done [] opening old new w run l r = subst (LimitsAreMetOrNotRisen opening (done ++ [])) r (subst (λ xs. LimitsAreMetOrNotRisen opening xs old) (sym (append-nil done)) l)
  go_on done (event ∷ events) opening old new w run l (next, step, r) =
      subst (λ xs. LimitsAreMetOrNotRisen opening xs new) (append_assoc done (event ∷ []) events)
      (go_on (done ++ event ∷ []) events opening next new (step_formed old next event w step) (run_on done (event ∷ []) opening old next run (next, step, refl)) (step_met opening old next done event w run step l) r)

pub limits_stay_met : LimitsStayMet
limits_stay_met K events old new w e run = (
  (λ path. run_stays_met (in_queue path) (λ q. q.maximum) path events old new (its_maximum path) w e run),
  (λ path user. run_stays_met (of_user path user) user_limit path events old new (its_user_limit path user) w e run),
)

pub queues_stay_bounded : QueuesStayBounded
queues_stay_bounded K old new event w b e s =
    all_met new (step_formed old new event w s)
    (λ path. stays_met (in_queue path) (λ q. q.maximum) path old new event (its_maximum path) w e s (maxima_met old b path))
    (λ path user. stays_met (of_user path user) user_limit path old new event (its_user_limit path user) w e s (limits_met old b path user))

pub quiet_runs_raise_nothing : QuietRunsRaiseNothing
quiet_runs_raise_nothing K events old new w = (
  (λ path q. amounts_fit (queue_use new path) (queue_use old path) (run_no_more (in_queue path) events old new w q)),
  (λ path user q. amounts_fit (user_use new path user) (user_use old path user) (run_no_more (of_user path user) events old new w q)),
)

pub limits_over_runs : LimitsOverRuns
limits_over_runs K events old new w run =
    go_on [] events old old new w refl (record { maxima = λ path. inr (nothing_yet (MeetsMaximum path) (in_queue path) old); users = λ path user. inr (nothing_yet (MeetsUserLimit path user) (of_user path user) old) }) run

-- every state of a run from a bounded cluster: its bounds, and its limits
pub states_of_runs : (K : ℕ) (first rest : List (Event K)) (old new : Flat K) → IsBounded old → Run old (first ++ rest) new →
    (mid : Flat K) × Run old first mid × Run mid rest new × IsBounded mid × LimitsAreMetOrNotRisen old first mid × IsBounded new × LimitsAreMetOrNotRisen old (first ++ rest) new
states_of_runs K first rest old new b run =
    let r = runs_are_bounded K first rest old new b run in
    (r.0, r.1, r.2, r.3, limits_over_runs K first old r.0 b.formed r.1, r.4, limits_over_runs K (first ++ rest) old new b.formed run)
