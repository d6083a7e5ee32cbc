-- The nearest node that takes an ask, as the applications are walked over.
use Rattle.cap_choice.proofs.Prelude.{◌≡◌, ℕ, suc, ◌+◌, ◌<◌, ◌≤◌, Bool, true, false, cond, List, [], ◌∷◌, length, filter, not, Some, None, refl, sym, ◌∙◌, ap, subst, inl, inr, arith, ◌⊎◌, Option, unwrap_or, slice_get, slice_get_within, cases_lt, is_gt, is_lt, nat_cmp_total, on_total, then_total, lists_total, level_cmp_total, IsTotalOrder, ordering_reverse, Ordering, Less, Equal, Greater, ask_key_cmp, ask_key_cmp_total, not_after_itself, Ask, AppSight, NodeSight, Sight, NodeProposal, ProposalKind, choice_on, IsIn, each_of, found, ◌==◌, AreByKey, IsOffer, IsSeenApp, IsWhole, Offer, proposal_of, IsOpen, IsPassed, TakesAt, node_after, AreImpossible, IsReserved, IsShut, IsShutFor, IsTurn, HasNoNextApp, IsNextApp, IsWaiter, app_cmp, levels_to, ComesBefore, ComesUpTo, IsNearest, IsNearestBefore, IsNearestUpTo}
use Rattle.cap_choice.proofs.Admitting.{holds_none}
use Rattle.cap_choice.proofs.Choosing.{index_in, least_chosen, not_after_key, not_after_later, offer_waits, same_app, served_cmp, slice_get_in}
use Rattle.cap_choice.proofs.Passing.{fewer, reserved_passed, ring_node_is, shut_passed}

less_not_greater : Less ≡ Greater → ⊥
less_not_greater e = cc e

module _ {K : ℕ} (sight : Sight K) where
  pub app_cmp_total : IsTotalOrder (app_cmp sight)
  app_cmp_total = then_total (on_total (λ app. levels_to sight app.leaf) (lists_total level_cmp_total)) (on_total (λ app. app.number) nat_cmp_total)

  turned : (a b : AppSight) → app_cmp sight a b ≡ Greater → app_cmp sight b a ≡ Less
  turned a b e = app_cmp_total.antisymm b a ∙ ap ordering_reverse e

  -- what is served before an application, and is served later or shut, is shut
  before_next : (next : AppSight) (o : Offer) → ComesBefore sight (Some next) o → (is_gt (app_cmp sight next o.app) ≡ false) ⊎ IsShut sight o.app → IsShut sight o.app
  before_next next o before (inl not_after) = let after = app_cmp_total.antisymm next o.app ∙ ap ordering_reverse before in absurd (cc (not_after, after))
  before_next next o before (inr shut) = shut

  -- less that is looked at
  other_asks : (first : ℕ) (old new : Offer → Type 0) (turn : ℕ) (proposal : Option NodeProposal) → ((o : Offer) → IsOffer sight o → new o → old o) → IsNearest sight first old turn proposal → IsNearest sight first new turn proposal
  other_asks first old new turn proposal sub near = record {
    within = near.within;
    passed = λ o is n. near.passed o is (sub o is n);
    chosen = near.chosen;
    none = near.none;
  }

  module _ (whole : IsWhole sight) (first : ℕ) where
    -- nothing is nearer where the first nodes hold reservations
    pub nothing_nearer : (old new : Offer → Type 0) (least turn : ℕ) (proposal : Option NodeProposal) → IsTurn IsReserved sight.nodes first 0 least → turn ≤ least → IsNearest sight first old turn proposal → IsNearest sight first new turn proposal
    nothing_nearer old new least turn proposal held few near = record {
      within = near.within;
      passed = λ o is n. reserved_passed sight whole first turn least o held few;
      chosen = near.chosen;
      none = near.none;
    }

    -- where all hold reservations there is none
    pub all_held : (asks : Offer → Type 0) (least count : ℕ) → IsTurn IsReserved sight.nodes first 0 least → count ≡ length sight.nodes → count ≤ least → IsNearest sight first asks count None
    all_held asks least count held count_is many = record {
      within = omega (arith, count_is);
      passed = λ o is n. reserved_passed sight whole first count least o held many;
      chosen = λ less. absurd (omega (arith, less, count_is));
      none = λ _. refl;
    }

    -- an ask of an application that is shut is passed over
    app_shut_passed : (turn : ℕ) (o : Offer) → IsOffer sight o → IsShut sight o.app → IsPassed sight first turn o
    app_shut_passed turn o is shut = shut_passed sight whole first o is turn (shut o.ask is.member)

    -- nor where only asks of such applications are looked at yet
    pub none_yet : (asks : Offer → Type 0) (count : ℕ) → count ≡ length sight.nodes → ((o : Offer) → IsOffer sight o → asks o → IsShut sight o.app) → IsNearest sight first asks count None
    none_yet asks count count_is shut = record {
      within = omega (arith, count_is);
      passed = λ o is n. app_shut_passed count o is (shut o is n);
      chosen = λ less. absurd (omega (arith, less, count_is));
      none = λ _. refl;
    }

    -- with asks of such applications
    pub with_shut : (old new : Offer → Type 0) (turn : ℕ) (proposal : Option NodeProposal) → ((o : Offer) → IsOffer sight o → new o → old o ⊎ IsShut sight o.app) → IsNearest sight first old turn proposal → IsNearest sight first new turn proposal
    with_shut old new turn proposal sub near = record {
      within = near.within;
      passed = λ o is n. elim (sub o is n) [ inl earlier ↦ near.passed o is earlier | inr shut ↦ app_shut_passed turn o is shut ];
      chosen = near.chosen;
      none = near.none;
    }

    -- an application, and so many of its asks
    module _ (app : AppSight) (waits : IsWaiter sight app) where
      keys : AreByKey app.asks
      keys = each_of (λ (a : AppSight). AreByKey a.asks) sight.apps whole.asks app (found (λ (a : AppSight). a.number == app.number) sight.apps app waits.found).0

      abbrev at_key : Ask → Offer
      at_key x = record { app = app; ask = x }

      pub no_asks : (turn : ℕ) (proposal : Option NodeProposal) → IsNearestBefore sight first (Some app) turn proposal → IsNearestUpTo sight first app 0 turn proposal
      no_asks turn proposal near = other_asks first (ComesBefore sight (Some app)) (ComesUpTo sight app 0) turn proposal (λ o is n. by o n) near
        where
          by : (o : Offer) → ComesUpTo sight app 0 o → ComesBefore sight (Some app) o
          by o (inl less) = less
          by o (inr b) = absurd (let e = b.early in omega (arith, e))

      -- where each of them is shut
      pub all_shut : (turn : ℕ) (proposal : Option NodeProposal) → IsShut sight app → IsNearestBefore sight first (Some app) turn proposal → IsNearestUpTo sight first app (length app.asks) turn proposal
      all_shut turn proposal shut near = record { within = near.within; passed = by; chosen = near.chosen; none = near.none }
        where
          by : (o : Offer) → IsOffer sight o → ComesUpTo sight app (length app.asks) o → IsPassed sight first turn o
          by o is (inl less) = near.passed o is less
          by o is (inr b) = shut_passed sight whole first o is turn (subst (λ (a : AppSight). IsShutFor sight a o.ask) (sym b.same) (shut o.ask (slice_get_in app.asks b.index o.ask b.at)))

      -- with asks that no node takes
      pub impossible_passed : (from to turn : ℕ) (proposal : Option NodeProposal) → AreImpossible sight app.asks from to → IsNearestUpTo sight first app from turn proposal → IsNearestUpTo sight first app to turn proposal
      impossible_passed from to turn proposal none near = record { within = near.within; passed = by; chosen = near.chosen; none = near.none }
        where
          by : (o : Offer) → IsOffer sight o → ComesUpTo sight app to o → IsPassed sight first turn o
          by o is (inl less) = near.passed o is (inl less)
          by o is (inr b) = elim (cases_lt b.index from) [
            | inl early ↦ near.passed o is (inr (record { same = b.same; index = b.index; early = early; at = b.at }))
            | inr late ↦ shut_passed sight whole first o is turn (inl (none.passed b.index o.ask late b.early b.at))
          ]

      -- where none is left
      pub all_asks : (from turn : ℕ) (proposal : Option NodeProposal) → length app.asks ≤ from → IsNearestUpTo sight first app from turn proposal → IsNearestUpTo sight first app (length app.asks) turn proposal
      all_asks from turn proposal many near = other_asks first (ComesUpTo sight app from) (ComesUpTo sight app (length app.asks)) turn proposal (λ o is n. by o n) near
        where
          by : (o : Offer) → ComesUpTo sight app (length app.asks) o → ComesUpTo sight app from o
          by o (inl less) = inl less
          by o (inr b) = inr (record { same = b.same; index = b.index; early = (let e = b.early in omega (arith, e, many)); at = b.at })

      -- the others are before it, or served no earlier
      module _ (i : ℕ) (x : Ask) (at : slice_get app.asks i ≡ Some x) where
        of_same : (p : Offer) → p.app ≡ app → IsIn p.ask p.app.asks → ComesUpTo sight app i p ⊎ (is_gt (served_cmp sight (at_key x) p) ≡ false)
        of_same p same m =
            let j = index_in app.asks p.ask (subst (λ (a : AppSight). IsIn p.ask a.asks) same m) in
            elim (cases_lt (j.0) i) [
              | inl early ↦ inl (inr (record { same = same; index = j.0; early = early; at = j.1 }))
              | inr late ↦ inr (later (j.0) (j.1) late)
            ]
          where
            not_before : (j : ℕ) → slice_get app.asks j ≡ Some p.ask → i ≤ j → is_gt (ask_key_cmp x.key p.ask.key) ≡ false
            not_before j there le = elim (cases_lt i j) [
              | inl less ↦ ap is_gt (keys.rise i j x p.ask less at there)
              | inr more ↦
                  let e : i ≡ j = omega (arith, le, more) in
                  let ask : x ≡ p.ask = ap (λ o. unwrap_or o x) (sym at ∙ ap (slice_get app.asks) e ∙ there) in
                  subst (λ (y : Ask). is_gt (ask_key_cmp x.key y.key) ≡ false) ask (not_after_itself ask_key_cmp ask_key_cmp_total x.key)
            ]

            later : (j : ℕ) → slice_get app.asks j ≡ Some p.ask → i ≤ j → is_gt (served_cmp sight (at_key x) p) ≡ false
            later j there le = subst (λ (a : AppSight). is_gt (served_cmp sight (at_key x) (record { app = a; ask = p.ask })) ≡ false) (sym same) (not_after_key sight app x p.ask (not_before j there le))

        before_or_not : (p : Offer) → IsOffer sight p → ComesUpTo sight app i p ⊎ (is_gt (served_cmp sight (at_key x) p) ≡ false)
        before_or_not p is = by (app_cmp sight p.app app) refl
          where
            by : (c : Ordering) → app_cmp sight p.app app ≡ c → ComesUpTo sight app i p ⊎ (is_gt (served_cmp sight (at_key x) p) ≡ false)
            by Less e = inl (inl e)
            by Equal e = of_same p (same_app sight p.app app is.found waits.found e) is.member
            by Greater e = inr (not_after_later sight (at_key x) p waits.found is.found (turned p.app app e))

        -- one ask more
        one_ask_more : (o : Offer) → ComesUpTo sight app (i + 1) o → ComesUpTo sight app i o ⊎ (o ≡ at_key x)
        one_ask_more o (inl less) = inl (inl less)
        one_ask_more o (inr b) = elim (cases_lt b.index i) [
          | inl early ↦ inl (inr (record { same = b.same; index = b.index; early = early; at = b.at }))
          | inr late ↦
              inr (
              let e : b.index ≡ i = (let lt = b.early in omega (arith, lt, late)) in
              let ask : o.ask ≡ x = ap (λ y. unwrap_or y o.ask) (sym b.at ∙ ap (slice_get app.asks) e ∙ at) in
              λ k. record { app = b.same k; ask = ask k })
        ]

        -- which no node before the nearest admits
        pub ask_passed : (turn : ℕ) (proposal : Option NodeProposal) → IsPassed sight first turn (at_key x) → IsNearestUpTo sight first app i turn proposal → IsNearestUpTo sight first app (i + 1) turn proposal
        ask_passed turn proposal p near = record {
          within = near.within;
          passed = λ o is n. elim (one_ask_more o n) [ inl earlier ↦ near.passed o is earlier | inr same ↦ subst (IsPassed sight first turn) (sym same) p ];
          chosen = near.chosen;
          none = near.none;
        }

        -- or which one takes
        module _ (is : IsOffer sight (at_key x)) (is_open : IsOpen sight (at_key x)) (old new : ℕ) (before : Option NodeProposal) (near : IsNearestUpTo sight first app i old before)
            (less : new < old) (p : IsPassed sight first new (at_key x)) (kind : ProposalKind) (takes_it : TakesAt sight first new x kind)
            (proposal : NodeProposal) (made : (node : NodeSight) → node_after sight.nodes first new ≡ Some node → proposal ≡ proposal_of kind node.number (at_key x)) where
          chosen_there : (node : NodeSight) → node_after sight.nodes first new ≡ Some node → Some proposal ≡ choice_on sight node.number
          chosen_there node there =
              let at_node = ring_node_is sight whole first new node there in
              let unreserved = holds_none sight node (at_key x) at_node whole is kind (takes_it node there) in
              ap (λ q. Some q) (made node there)
              ∙ least_chosen sight node.number (at_key x) kind (is_open node kind at_node (takes_it node there)) (λ q l q_is b. elim (before_or_not q q_is) [
                | inl earlier ↦ absurd (near.passed q q_is earlier new node less there unreserved l b)
                | inr later ↦ later
              ])

          pub ask_taken : IsNearestUpTo sight first app (i + 1) new (Some proposal)
          ask_taken = record {
            within = let w = near.within in omega (arith, less, w);
            passed = λ o o_is n. elim (one_ask_more o n) [
              | inl earlier ↦ fewer sight whole first o o_is new old (omega (arith, less)) (near.passed o o_is earlier)
              | inr same ↦ subst (IsPassed sight first new) (sym same) p
            ];
            chosen = λ _ node there. (cc, chosen_there node there);
            none = λ many. absurd (let w = near.within in omega (arith, many, less, w));
          }

      -- all of its asks, and the application that comes next: offers between are of applications that are shut
      of_earlier : (o : Offer) → IsOffer sight o → (c : Ordering) → app_cmp sight o.app app ≡ c → (c ≡ Greater → IsShut sight o.app) → ComesUpTo sight app (length app.asks) o ⊎ IsShut sight o.app
      of_earlier o is Less e late = inl (inl e)
      of_earlier o is Equal e late =
          let same = same_app sight o.app app is.found waits.found e in
          let j = index_in app.asks o.ask (subst (λ (a : AppSight). IsIn o.ask a.asks) same is.member) in
          inl (inr (record { same = same; index = j.0; early = slice_get_within app.asks (j.0) o.ask (j.1); at = j.1 }))
      of_earlier o is Greater e late = inr (late refl)

      pub then_next : (next : AppSight) → IsNextApp sight (Some app) next → (o : Offer) → IsOffer sight o → ComesBefore sight (Some next) o → ComesUpTo sight app (length app.asks) o ⊎ IsShut sight o.app
      then_next next is_next o is before = of_earlier o is (app_cmp sight o.app app) refl (λ late. before_next next o before (is_next.first o.app (offer_waits sight o is) (turned o.app app late)))

      pub then_none : HasNoNextApp sight (Some app) → (o : Offer) → IsOffer sight o → ComesUpTo sight app (length app.asks) o ⊎ IsShut sight o.app
      then_none none o is = of_earlier o is (app_cmp sight o.app app) refl (λ late. none o.app (offer_waits sight o is) (turned o.app app late))

    -- before the first application all are shut
    pub first_of_all : (app : AppSight) → IsNextApp sight None app → (o : Offer) → IsOffer sight o → ComesBefore sight (Some app) o → IsShut sight o.app
    first_of_all app is_next o is before = before_next app o before (is_next.first o.app (offer_waits sight o is) tt)

    pub no_first : HasNoNextApp sight None → (o : Offer) → IsOffer sight o → IsShut sight o.app
    no_first none o is = none o.app (offer_waits sight o is) tt

  -- how many applications are not served before one

  abbrev pub left : AppSight → AppSight → Bool
  left app other = not (is_lt (app_cmp sight other app))

  abbrev pub apps_left : Option AppSight → ℕ
  apps_left None = 0
  apps_left (Some app) = length (filter (left app) sight.apps)

  kept : (b : Bool) (x : AppSight) (xs : List AppSight) → length (cond b (x ∷ xs) xs) ≡ cond b (suc (length xs)) (length xs)
  kept true x xs = refl
  kept false x xs = refl

  module _ (p q : AppSight → Bool) (sub : (x : AppSight) → p x ≡ true → q x ≡ true) where
    no_more_kept : (xs : List AppSight) → length (filter p xs) ≤ length (filter q xs)
    no_more_kept [] = omega arith
    no_more_kept (x ∷ xs) = by (p x) refl (q x) refl (no_more_kept xs)
      where
        by : (b : Bool) → p x ≡ b → (c : Bool) → q x ≡ c → length (filter p xs) ≤ length (filter q xs) → length (cond b (x ∷ filter p xs) (filter p xs)) ≤ length (cond c (x ∷ filter q xs) (filter q xs))
        by true e true f r = omega (arith, r)
        by true e false f r = absurd (let t = sub x e in cc (t, f))
        by false e true f r = omega (arith, r)
        by false e false f r = r

    fewer_kept : (y : AppSight) (xs : List AppSight) → IsIn y xs → p y ≡ false → q y ≡ true → length (filter p xs) < length (filter q xs)
    fewer_kept y [] m n k = absurd m
    fewer_kept y (x ∷ xs) (inl same) n k =
        let here = ap p same ∙ n in
        let there = ap q same ∙ k in
        let r = no_more_kept xs in
        subst (λ b. length (cond b (x ∷ filter p xs) (filter p xs)) < length (filter q (x ∷ xs))) (sym here)
        (subst (λ c. length (filter p xs) < length (cond c (x ∷ filter q xs) (filter q xs))) (sym there) (omega (arith, r)))
    fewer_kept y (x ∷ xs) (inr m) n k = by (p x) refl (q x) refl (fewer_kept y xs m n k)
      where
        by : (b : Bool) → p x ≡ b → (c : Bool) → q x ≡ c → length (filter p xs) < length (filter q xs) → length (cond b (x ∷ filter p xs) (filter p xs)) < length (cond c (x ∷ filter q xs) (filter q xs))
        by true e true f r = omega (arith, r)
        by true e false f r = absurd (let t = sub x e in cc (t, f))
        by false e true f r = omega (arith, r)
        by false e false f r = r

  in_apps : (app : AppSight) → IsSeenApp sight app → IsIn app sight.apps
  in_apps app at = (found (λ (a : AppSight). a.number == app.number) sight.apps app at).0

  itself_left : (app : AppSight) → left app app ≡ true
  itself_left app = by (app_cmp sight app app) (app_cmp_total.antisymm app app)
    where
      by : (c : Ordering) → c ≡ ordering_reverse c → not (is_lt c) ≡ true
      by Less e = absurd (cc e)
      by Equal e = refl
      by Greater e = refl

  some_kept : (p : AppSight → Bool) (y : AppSight) (xs : List AppSight) → IsIn y xs → p y ≡ true → 0 < length (filter p xs)
  some_kept p y [] m k = absurd m
  some_kept p y (x ∷ xs) (inl same) k = subst (λ b. 0 < length (cond b (x ∷ filter p xs) (filter p xs))) (sym (ap p same ∙ k)) (omega arith)
  some_kept p y (x ∷ xs) (inr m) k = by (p x) (some_kept p y xs m k)
    where
      by : (b : Bool) → 0 < length (filter p xs) → 0 < length (cond b (x ∷ filter p xs) (filter p xs))
      by true r = omega arith
      by false r = r

  pub none_left : (app : AppSight) → IsWaiter sight app → apps_left None < apps_left (Some app)
  none_left app waits = some_kept (left app) app sight.apps (in_apps app waits.found) (itself_left app)

  pub fewer_left : (app next : AppSight) → IsWaiter sight app → IsNextApp sight (Some app) next → apps_left (Some next) < apps_left (Some app)
  fewer_left app next waits is_next = fewer_kept (left next) (left app) still app sight.apps (in_apps app waits.found) (ap (λ c. not (is_lt c)) is_next.later) (itself_left app)
    where
      still : (x : AppSight) → left next x ≡ true → left app x ≡ true
      still x h = by (app_cmp sight x app) refl
        where
          by : (c : Ordering) → app_cmp sight x app ≡ c → not (is_lt c) ≡ true
          by Less e = absurd (let t = app_cmp_total.trans x app next e is_next.later in cc (h, t))
          by Equal e = refl
          by Greater e = refl
