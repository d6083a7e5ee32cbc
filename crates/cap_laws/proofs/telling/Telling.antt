-- Grants and ends are told in order, each once.
use Rattle.cap_laws.proofs.Prelude.{◌≡◌, ℕ, Bool, true, false, List, [], ◌∷◌, ◌++◌, refl, sym, ◌∙◌, ap, subst, inl, inr, arith, Option, Some, None, IsSome, cond, not, ◌==◌, length, ◌-◌, find, map, filter, unwrap_or, option_map, option_and_then, if◌then◌else◌, option_map_or, option_or, cases_Bool, nat_tests, append-nil, find-append, Ask, Cause, AllocateReply, Request, Reply, Flat, App, Container, app_at, containers_on, after_asks, put_ask, with_ends, new_app, nothing_told, after_telling, after_processed_allocate, kept_reply, released_by, ended_by, Event, Step, after_grant, news_of, take_one, GrantsAreToldInOrder, EndsAreToldInOrder, found, map_twice, find_changed, find_others, find_gone, and_true, kept_if, not_none}
use Rattle.cap_laws.proofs.calls.Steps.{Effect, by_step, over_asks}
use Rattle.cap_laws.proofs.telling.News.{News, IsNews, AreTold, untold, told_of, new_of, grants_are, ends_are, grants_told, ends_told}

-- the application that is found by a number has it, and so the test on another number is that of the two
pub its_number : (n : ℕ) (xs : List App) (a : App) → find (λ x. x.number == n) xs ≡ Some a → a.number ≡ n
its_number n xs a e = let same = (found (λ (x : App). x.number == n) xs a e).1 in grind (arith, nat_tests, same)

pub its_test : (m n : ℕ) (a : App) → a.number ≡ n → (a.number == m) ≡ (m == n)
its_test m n a e = grind (arith, nat_tests, e)

-- the lookups of a change, of one that goes and of one that comes, for any news that applications keep
module _ {N : Type 0} (of : App → List N) (n : ℕ) where
  abbrev in_app : Option App → List N
  in_app o = option_map_or of o []

  -- what is told of the changed one, and what is left, is what there was and what was added
  changed : (f : App → App) → ((a : App) → (f a).number ≡ a.number) → (xs : List App) (telling : Option App → List N) (added : List N) →
      ((a : App) → a.number ≡ n → telling (Some (f a)) ++ of (f a) ≡ of a ++ added) → IsSome (find (λ a. a.number == n) (map f xs)) →
      telling (find (λ a. a.number == n) (map f xs)) ++ in_app (find (λ a. a.number == n) (map f xs)) ≡ in_app (find (λ a. a.number == n) xs) ++ added
  changed f same xs telling added e h =
      let at = find_changed (λ (a : App). a.number) f same n xs in
      ap (λ o. telling o ++ in_app o) at ∙ by (find (λ a. a.number == n) xs) (its_number n xs) (subst (λ o. IsSome o) at h)
    where
      by : (o : Option App) → ((a : App) → o ≡ Some a → a.number ≡ n) → IsSome (option_map f o) → telling (option_map f o) ++ in_app (option_map f o) ≡ in_app o ++ added
      by None at h = absurd (cc h)
      by (Some a) at h = e a (at a refl)

  kept : (f : App → App) → ((a : App) → (f a).number ≡ a.number) → ((a : App) → of (f a) ≡ of a) → (xs : List App) →
      in_app (find (λ a. a.number == n) (map f xs)) ≡ in_app (find (λ a. a.number == n) xs)
  kept f same e xs = ap in_app (find_changed (λ (a : App). a.number) f same n xs) ∙ by (find (λ a. a.number == n) xs)
    where
      by : (o : Option App) → in_app (option_map f o) ≡ in_app o
      by None = refl
      by (Some a) = e a

  goes : (m : ℕ) (xs : List App) → IsSome (find (λ a. a.number == n) (filter (λ a. not (a.number == m)) xs)) →
      in_app (find (λ a. a.number == n) (filter (λ a. not (a.number == m)) xs)) ≡ in_app (find (λ a. a.number == n) xs)
  goes m xs h = elim (cases_Bool (m == n)) [
    | inl e ↦ absurd (not_none _ (find_gone (λ (a : App). a.number) m n e xs) h)
    | inr e ↦ ap in_app (find_others (λ (a : App). a.number) m n e xs)
  ]

  comes : (xs : List App) (a : App) → of a ≡ [] → in_app (find (λ x. x.number == n) (xs ++ a ∷ [])) ≡ in_app (find (λ x. x.number == n) xs)
  comes xs a e = ap in_app (find-append (λ (x : App). x.number == n) xs (a ∷ [])) ∙ by (find (λ x. x.number == n) xs) (a.number == n)
    where
      by : (o : Option App) (b : Bool) → in_app (option_or o (cond b (Some a) None)) ≡ in_app o
      by None true = e
      by None false = refl
      by (Some x) b = refl

module _ {N : Type 0} (k : News N) (is : IsNews k) (n : ℕ) where
  ended : (cause : Cause) (gone : List Container) (a : App) → a.number ≡ n → k.of (with_ends cause gone a) ≡ k.of a ++ k.ends cause n gone
  ended cause gone a e = is.ending cause gone a ∙ ap (λ m. k.of a ++ k.ends cause m gone) e

  module _ {K : ℕ} where
    asks_keep : (m : ℕ) (asks : List Ask) (c : Flat K) → untold k (after_asks m asks c) n ≡ untold k c n
    asks_keep m asks c =
        over_asks (λ x. untold k x n ≡ untold k c n) m
        (λ x ask same.
        let put : App → App = λ a. record a { asks = put_ask ask a.asks } in
        kept k.of n (λ a. if a.number == m then put a else a) (λ a. kept_if (a.number == m) (λ (y : App). y.number) (put a) a refl)
        (λ a. kept_if (a.number == m) k.of (put a) a (is.asking (put_ask ask a.asks) a)) x.apps.active ∙ same)
        asks c refl

    -- containers end
    ends_tell : (cause : Cause) (gone : List Container) (old new : Flat K) → new.apps.active ≡ map (with_ends cause gone) old.apps.active → IsSome (app_at new n) → untold k new n ≡ untold k old n ++ k.ends cause n gone
    ends_tell cause gone old new e h =
        ap (λ xs. in_app k.of n (find (λ a. a.number == n) xs)) e
        ∙ changed k.of n (with_ends cause gone) (λ a. refl) old.apps.active (λ o. []) (k.ends cause n gone) (ended cause gone) (subst (λ xs. IsSome (find (λ (a : App). a.number == n) xs)) e h)

    -- an allocate tells its own application, and nobody else
    pub allocate_tells : (m id : ℕ) (asks : List Ask) (releases : List ℕ) (old : Flat K) → IsSome (app_at (after_processed_allocate old m id asks releases) n) →
        let new = after_processed_allocate old m id asks releases in
        option_map_or k.from (if m == n then Some (kept_reply new m) else None) [] ++ untold k new n ≡ untold k old n ++ k.ends Cause.Released n (released_by old m releases)
    allocate_tells m id asks releases old h =
        ap (λ o. option_map_or k.from o [] ++ untold k new n) (its (m == n) refl)
        ∙ ap (λ o. telling o ++ in_app k.of n o) at
        ∙ changed k.of n both same x.apps.active telling (k.ends Cause.Released n gone) each (subst (λ o. IsSome o) at h)
        ∙ ap (λ xs. xs ++ k.ends Cause.Released n gone) (asks_keep m asks old)
      where
        new : Flat K
        new = after_processed_allocate old m id asks releases

        x : Flat K
        x = after_asks m asks old

        gone : List Container
        gone = released_by old m releases

        tell : App → App
        tell = after_telling id (length releases - length gone)

        both : App → App
        both a = if a.number == m then tell (with_ends Cause.Released gone a) else with_ends Cause.Released gone a

        same : (a : App) → (both a).number ≡ a.number
        same a = kept_if (a.number == m) (λ (y : App). y.number) (tell (with_ends Cause.Released gone a)) (with_ends Cause.Released gone a) refl

        reply_in : Option App → AllocateReply
        reply_in o = unwrap_or (option_and_then (λ (app : App). app.kept) o) nothing_told

        telling : Option App → List N
        telling o = option_map_or k.from (if m == n then Some (reply_in o) else None) []

        at : app_at new n ≡ find (λ a. a.number == n) (map both x.apps.active)
        at = ap (find (λ (a : App). a.number == n)) (map_twice (λ (a : App). if a.number == m then tell a else a) (with_ends Cause.Released gone) x.apps.active)

        its : (b : Bool) → m == n ≡ b → (if b then Some (kept_reply new m) else None) ≡ (if b then Some (kept_reply new n) else None)
        its true e = let s : m ≡ n = grind (arith, nat_tests, e) in ap (λ i. Some (kept_reply new i)) s
        its false e = refl

        each : (a : App) → a.number ≡ n → telling (Some (both a)) ++ k.of (both a) ≡ k.of a ++ k.ends Cause.Released n gone
        each a e =
            let y = with_ends Cause.Released gone a in
            ap (λ b. option_map_or k.from (if m == n then Some (reply_in (Some (cond b (tell y) y))) else None) [] ++ k.of (cond b (tell y) y)) (its_test m n a e)
            ∙ by y (m == n) ∙ ended Cause.Released gone a e
          where
            by : (y : App) (b : Bool) → option_map_or k.from (if b then Some (reply_in (Some (cond b (tell y) y))) else None) [] ++ k.of (cond b (tell y) y) ≡ k.of y
            by y true = is.telling id (length releases - length gone) y
            by y false = refl

    module _ (old : Flat K) where
      -- what the event tells, with what is then left to tell, is what was left before with what it adds
      abbrev IsToldAt : Event K → Flat K → Type 0
      IsToldAt event new = IsSome (app_at new n) → told_of k old n event ++ untold k new n ≡ untold k old n ++ new_of k old n event

      as_before : {xs : List N} → xs ≡ untold k old n → xs ≡ untold k old n ++ []
      as_before e = e ∙ sym (append-nil (untold k old n))

      call_tells : (by : ℕ) (new : Flat K) {request : Request K} {reply : Reply K} → Effect old request reply new → IsToldAt (Event.Call by request reply) new
      call_tells by new (Effect.nothing quiet) h = let q = quiet by n in rw (q.0, q.1) (as_before refl)
      call_tells by new (Effect.submit path user e) h = as_before (comes k.of n old.apps.active (new_app old.apps.next path user) (is.entering old.apps.next path user))
      call_tells by new (Effect.register_master app) h =
          let register : App → App = λ a. record a { registered = true } in
          as_before (kept k.of n (λ a. if a.number == app then register a else a) (λ a. kept_if (a.number == app) (λ (x : App). x.number) (register a) a refl)
          (λ a. kept_if (a.number == app) k.of (register a) a (is.registering a)) old.apps.active)
      call_tells by new (Effect.allocate m id asks releases there fresh) h = rw (fresh, and_true (m == n)) (allocate_tells m id asks releases old h)
      call_tells by new (Effect.finish_master app) h = as_before (goes k.of n app old.apps.active h)
      call_tells by new (Effect.heartbeat node id ended fresh) h = rw fresh (ends_tell Cause.EndedOnNode (ended_by old node ended) old new refl h)
      call_tells by new (Effect.node_gone node) h = ends_tell Cause.NodeLost (containers_on old.nodes node) old new refl h
      call_tells by new _ h = as_before refl

      grant_tells : (c : Container) → IsToldAt (Event.Grant c) (after_grant old c)
      grant_tells c h =
          changed k.of n granted (λ a. kept_if (a.number == c.app) (λ (x : App). x.number) (granting a) a refl) old.apps.active (λ o. []) (if c.app == n then k.grants (news_of old c) else [])
          (λ a e. ap (λ b. k.of (cond b (granting a) a)) (its_test c.app n a e) ∙ by a (c.app == n)) h
        where
          granting : App → App
          granting a = record a { asks = take_one c.key a.asks; grants = a.grants ++ news_of old c ∷ [] }

          granted : App → App
          granted a = if a.number == c.app then granting a else a

          by : (a : App) (b : Bool) → k.of (cond b (granting a) a) ≡ k.of a ++ (if b then k.grants (news_of old c) else [])
          by a true = is.granting (take_one c.key a.asks) (news_of old c) a
          by a false = sym (append-nil (k.of a))

      pub step_tells : (event : Event K) (new : Flat K) → Step old event new → IsToldAt event new
      step_tells event new s = by_step old IsToldAt (λ by request reply x call. call_tells by x call) (λ c admissible number. grant_tells c) (λ r admissible h. as_before refl) event new s

-- for the functions that say what is told
pub told_in_order : {N : Type 0} {k : News N} {K : ℕ} {told new : Flat K → ℕ → Event K → List N} {ever_told ever_new : Flat K → ℕ → List (Event K) → List N} → IsNews k → AreTold k told new ever_told ever_new →
    (old mid : Flat K) (n : ℕ) (event : Event K) → Step old event mid → IsSome (app_at mid n) → told old n event ++ untold k mid n ≡ untold k old n ++ new old n event
told_in_order {k = k} is are old mid n event s h = rw (are.told_is old n event, are.new_is old n event) (step_tells k is n old event mid s h)

pub grants_are_told_in_order : GrantsAreToldInOrder
grants_are_told_in_order K old new n event step h = told_in_order grants_are grants_told old new n event step h

pub ends_are_told_in_order : EndsAreToldInOrder
ends_are_told_in_order K old new n event step h = told_in_order ends_are ends_told old new n event step h
