-- Container numbers are never used twice.
use Rattle.cap_laws.proofs.Prelude.{◌≡◌, ℕ, Bool, true, List, [], ◌∷◌, ◌++◌, refl, sym, ◌∙◌, ap, subst, arith, not, filter, Ask, Request, Reply, Flat, Container, containers_on, containers_of, after_asks, is_among, after_processed_allocate, released_by, ended_by, granted_by, ever_granted, IsRising, container_numbers, HasDistinctNumbers, NumbersStayDistinct, GrantedOnce, filter_whole, rising_kept, rising_more}
use Rattle.cap_laws.proofs.calls.Steps.{Effect, by_step, over_asks}

module _ {K : ℕ} where
  -- the new cluster has the containers of the old one that pass a test, and the same next number
  pub record IsThinned (old new : Flat K) : Type 0 where
    pub test : Container → Bool
    pub live : new.nodes.live ≡ filter test old.nodes.live
    pub next : new.nodes.next_container ≡ old.nodes.next_container

  -- the same containers and the same next number
  pub record HasSameContainers (old new : Flat K) : Type 0 where
    pub live : new.nodes.live ≡ old.nodes.live
    pub next : new.nodes.next_container ≡ old.nodes.next_container

  pub thinned_same : (old new : Flat K) → HasSameContainers old new → IsThinned old new
  thinned_same old new s = record { test = λ c. true; live = s.live ∙ sym (filter_whole (λ c. true) old.nodes.live (λ c m. refl)); next = s.next }

  pub asks_keep : (n : ℕ) (asks : List Ask) (cluster : Flat K) → HasSameContainers cluster (after_asks n asks cluster)
  asks_keep n asks cluster = over_asks (HasSameContainers cluster) n (λ c ask same. record { live = same.live; next = same.next }) asks cluster (record { live = refl; next = refl })

  pub processed_allocate_thins : (old : Flat K) (n id : ℕ) (asks : List Ask) (releases : List ℕ) → IsThinned old (after_processed_allocate old n id asks releases)
  processed_allocate_thins old n id asks releases =
      let s = asks_keep n asks old in
      let gone = released_by old n releases in
      record { test = λ c. not (is_among gone c); live = ap (λ cs. filter (λ c. not (is_among gone c)) cs) s.live; next = s.next }

  -- a call ends some containers, and makes none
  pub call_thins : (old new : Flat K) {request : Request K} {reply : Reply K} → Effect old request reply new → IsThinned old new
  call_thins old new (Effect.allocate app id asks releases there fresh) = processed_allocate_thins old app id asks releases
  call_thins old new (Effect.finish_master app) = record { test = λ c. not (is_among (containers_of old.nodes app) c); live = refl; next = refl }
  call_thins old new (Effect.heartbeat node id ended fresh) = record { test = λ c. not (is_among (ended_by old node ended) c); live = refl; next = refl }
  call_thins old new (Effect.node_gone node) = record { test = λ c. not (is_among (containers_on old.nodes node) c); live = refl; next = refl }
  call_thins old new _ = thinned_same old new (record { live = refl; next = refl })

  pub thinned_numbers : (old new : Flat K) → IsThinned old new → HasDistinctNumbers old → HasDistinctNumbers new
  thinned_numbers old new t r =
      let a : IsRising 1 (container_numbers (filter t.test old.nodes.live)) old.nodes.next_container = rising_kept (λ (z : Container). z.number) t.test 1 old.nodes.live old.nodes.next_container r in
      let b : IsRising 1 (container_numbers new.nodes.live) old.nodes.next_container = subst (λ cs. IsRising 1 (container_numbers cs) old.nodes.next_container) (sym t.live) a in
      subst (λ n. IsRising 1 (container_numbers new.nodes.live) n) (sym t.next) b

pub numbers_stay_distinct : NumbersStayDistinct
numbers_stay_distinct K old new event r step =
    by_step old (λ e x. HasDistinctNumbers x) (λ by request reply x call. thinned_numbers old x (call_thins old x call) r)
    (λ c admissible number. rising_more (λ (z : Container). z.number) 1 old.nodes.live c old.nodes.next_container number r) (λ reservation admissible. r) event new step

pub granted_once : GrantedOnce
granted_once K [] old new e = let n : old.nodes.next_container ≡ new.nodes.next_container = ap (λ (c : Flat K). c.nodes.next_container) e in omega (arith, n)
granted_once K (event ∷ events) old new (mid, step, run) =
    by_step old (λ e x. RisesFrom x.nodes.next_container [] → RisesFrom old.nodes.next_container (granted_by e))
    (λ by request reply x call rest. subst (λ n. RisesFrom n []) (call_thins old x call).next rest)
    (λ c admissible number rest. (omega (arith, number), subst (λ n. RisesFrom n []) (omega (arith, number)) rest)) (λ r admissible rest. rest) event mid step (granted_once K events mid new run)
  where
    RisesFrom : ℕ → List Container → Type 0
    RisesFrom n granted = IsRising n (container_numbers (granted ++ ever_granted events)) new.nodes.next_container
