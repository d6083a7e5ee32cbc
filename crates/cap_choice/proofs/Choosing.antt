-- The choice on a node is the first ask, in the order of service, that is admitted there.
use Rattle.cap_choice.proofs.Prelude.{◌≡◌, ℕ, zero, suc, ◌≤◌, true, false, List, [], ◌∷◌, length, Some, None, refl, sym, ◌∙◌, ap, subst, inl, inr, arith, ◌==◌, Option, drop, map, option_and_then, option_map, unwrap_or, bytes_eq, slice_get, is_gt, ordering_reverse, ordering_then, nat_cmp, nat_cmp_equal, nat_cmp_total, slice_cmp, lists_total, Ordering, Less, Equal, Greater, level_cmp, level_cmp_total, nat_tests, bytes_eq-Decides, ProposalKind, Ask, ask_key_cmp, ask_at, same_key, same_key_is, holds_of, Sight, AppSight, queues_to, seen_app, NodeProposal, IsAdmissible, leaf_path, level_of, rank_cmp, rank_of, is_after, choice_on, choice_is_computed, rank_cmp_total, one_of_each_rank, not_after_itself, IsNodeChoice, IsIn, found, IsOffer, IsSeenApp, Offer, grant_of, proposal_of, IsAdmittedAs, app_cmp, levels_to, IsWaiter}

pub slice_get_in : {A : Type 0} (xs : List A) (i : ℕ) (x : A) → slice_get xs i ≡ Some x → IsIn x xs
slice_get_in [] i x e = absurd (cc e)
slice_get_in (y ∷ xs) zero x e = inl (ap (λ o. unwrap_or o y) e)
slice_get_in (y ∷ xs) (suc i) x e = inr (slice_get_in xs i x e)

pub index_in : {A : Type 0} (xs : List A) (x : A) → IsIn x xs → (i : ℕ) × (slice_get xs i ≡ Some x)
index_in [] x m = absurd m
index_in (y ∷ xs) x (inl e) = (zero, ap (λ z. Some z) e)
index_in (y ∷ xs) x (inr m) = let r = index_in xs x m in (suc (r.0), r.1)

-- neither after the other
level : (a b : Ordering) → a ≡ ordering_reverse b → is_gt a ≡ false → is_gt b ≡ false → a ≡ Equal
level Less b e f g = by b e g
  where
    by : (b : Ordering) → Less ≡ ordering_reverse b → is_gt b ≡ false → Less ≡ Equal
    by Less e g = absurd (cc e)
    by Equal e g = absurd (cc e)
    by Greater e g = absurd (cc g)
level Equal b e f g = refl
level Greater b e f g = absurd (cc f)

-- tests in a row

not_after_then : (a b : Ordering) → is_gt a ≡ false → is_gt b ≡ false → is_gt (ordering_then a b) ≡ false
not_after_then Less b g h = refl
not_after_then Equal b g h = h
not_after_then Greater b g h = absurd (cc g)

earlier_not_after : (a b c : Ordering) → ordering_then a b ≡ Less → is_gt (ordering_then a (ordering_then b c)) ≡ false
earlier_not_after Less b c e = refl
earlier_not_after Equal Less c e = refl
earlier_not_after Equal Equal c e = absurd (cc e)
earlier_not_after Equal Greater c e = absurd (cc e)
earlier_not_after Greater b c e = absurd (cc e)

less_not_after : (a : Ordering) → a ≡ Less → is_gt a ≡ false
less_not_after a e = ap is_gt e

second_equal : (a b : Ordering) → ordering_then a b ≡ Equal → b ≡ Equal
second_equal Equal b h = h
second_equal Less b h = absurd (cc h)
second_equal Greater b h = absurd (cc h)

module _ {K : ℕ} (sight : Sight K) where
  pub one_on_node : (n : ℕ) (a b : Option NodeProposal) → IsNodeChoice sight n a → IsNodeChoice sight n b → a ≡ b
  one_on_node n None None h g = refl
  one_on_node n None (Some q) h g = absurd (h q g.0 g.1)
  one_on_node n (Some p) None h g = absurd (g p h.0 h.1)
  one_on_node n (Some p) (Some q) h g =
      let same = level (rank_cmp (rank_of sight p) (rank_of sight q)) (rank_cmp (rank_of sight q) (rank_of sight p)) (rank_cmp_total.antisymm (rank_of sight p) (rank_of sight q)) (h.2 q g.0 g.1) (g.2 p h.0 h.1) in
      ap (λ x. Some x) (one_of_each_rank K sight p q h.1 g.1 (h.0 ∙ sym g.0) same)

  -- which of two asks is served first on every node
  abbrev pub served_cmp : Offer → Offer → Ordering
  served_cmp o p = rank_cmp (rank_of sight (grant_of 0 o)) (rank_of sight (grant_of 0 p))

  -- what is admissible is a proposal of one of the asks
  record IsOfOffer (q : NodeProposal) : Type 0 where
    pub offer : Offer
    pub is_offer : IsOffer sight offer
    pub is : proposal_of q.kind q.node offer ≡ q

  module _ (q : NodeProposal) (app : AppSight) (at : seen_app sight app.number ≡ Some app) (number : app.number ≡ q.app) where
    of_ask : (o : Option Ask) → ask_at q.key app.asks ≡ o → holds_of (λ ask. bytes_eq ask.resource q.resource) o ≡ true → IsOfOffer q
    of_ask None e h = absurd (cc h)
    of_ask (Some ask) e h =
        let f = found (λ (x : Ask). same_key x.key q.key) app.asks ask e in
        let key : ask.key ≡ q.key = same_key_is ask.key q.key f.1 in
        let resource : ask.resource ≡ q.resource = (bytes_eq-Decides ask.resource q.resource).0 h in
        record {
          offer = record { app = app; ask = ask };
          is_offer = record { found = at; member = f.0 };
          is = λ i. record { kind = q.kind; app = number i; key = key i; node = q.node; resource = resource i };
        }

  of_app : (q : NodeProposal) (o : Option AppSight) → seen_app sight q.app ≡ o → holds_of (λ ask. bytes_eq ask.resource q.resource) (option_and_then (λ app. ask_at q.key app.asks) o) ≡ true → IsOfOffer q
  of_app q None e h = absurd (cc h)
  of_app q (Some app) e h =
      let f = found (λ (x : AppSight). x.number == q.app) sight.apps app e in
      let number : app.number ≡ q.app = (let t = f.1 in grind (arith, nat_tests, t)) in
      of_ask q app (ap (seen_app sight) number ∙ e) number (ask_at q.key app.asks) refl h

  of_offer : (q : NodeProposal) → IsAdmissible sight q → IsOfOffer q
  of_offer q a = of_app q (seen_app sight q.app) refl a.0.resource

  module _ (n : ℕ) where
    on_node : (q : NodeProposal) (c : IsOfOffer q) → q.node ≡ n → IsAdmissible sight q → IsAdmissible sight (proposal_of q.kind n c.offer)
    on_node q c node a = subst (IsAdmissible sight) (sym (ap (λ m. proposal_of q.kind m c.offer) (sym node) ∙ c.is)) a

    -- the ask that is admitted, and served after none that is, is the choice
    pub least_chosen : (o : Offer) (k : ProposalKind) → IsAdmissible sight (proposal_of k n o) →
        ((p : Offer) (l : ProposalKind) → IsOffer sight p → IsAdmissible sight (proposal_of l n p) → is_gt (served_cmp o p) ≡ false) → Some (proposal_of k n o) ≡ choice_on sight n
    least_chosen o k a least = one_on_node n (Some (proposal_of k n o)) (choice_on sight n) (refl, a, λ q node b. not_before q node b (of_offer q b)) (choice_is_computed K sight n)
      where
        not_before : (q : NodeProposal) → q.node ≡ n → IsAdmissible sight q → IsOfOffer q → is_after sight (proposal_of k n o) q ≡ false
        not_before q node b c = subst (λ x. is_after sight (proposal_of k n o) x ≡ false) c.is (least c.offer q.kind c.is_offer (on_node q c node b))

    pub none_chosen : ((p : Offer) → IsOffer sight p → IsAdmittedAs sight n p None) → None ≡ choice_on sight n
    none_chosen none = one_on_node n None (choice_on sight n) (λ q node a. let c = of_offer q a in none c.offer c.is_offer q.kind (on_node q c node a)) (choice_is_computed K sight n)

  -- an ask is not served after itself
  pub not_after_same : (o : Offer) → is_gt (served_cmp o o) ≡ false
  not_after_same o = not_after_itself rank_cmp rank_cmp_total (rank_of sight (grant_of 0 o))

  leaf_is : (o : Offer) → IsSeenApp sight o.app → leaf_path sight (grant_of 0 o) ≡ o.app.leaf
  leaf_is o at = ap (λ x. unwrap_or (option_map (λ (a : AppSight). a.leaf) x) []) at

  -- nor after one of an application that is served later
  pub not_after_later : (o p : Offer) → IsSeenApp sight o.app → IsSeenApp sight p.app → app_cmp sight o.app p.app ≡ Less → is_gt (served_cmp o p) ≡ false
  not_after_later o p at there less =
      (λ i. is_gt (ordering_then (slice_cmp level_cmp (map level_of (drop 1 (queues_to sight (leaf_is o at i)))) (map level_of (drop 1 (queues_to sight (leaf_is p there i))))) (ordering_then (nat_cmp o.app.number p.app.number) (ask_key_cmp o.ask.key p.ask.key))))
      ∙ earlier_not_after (slice_cmp level_cmp (levels_to sight o.app.leaf) (levels_to sight p.app.leaf)) (nat_cmp o.app.number p.app.number) (ask_key_cmp o.ask.key p.ask.key) less

  -- nor after one of the same application with no smaller key
  pub not_after_key : (app : AppSight) (x y : Ask) → is_gt (ask_key_cmp x.key y.key) ≡ false → is_gt (served_cmp (record { app = app; ask = x }) (record { app = app; ask = y })) ≡ false
  not_after_key app x y h =
      let levels = map level_of (drop 1 (queues_to sight (leaf_path sight (grant_of 0 (record { app = app; ask = x }))))) in
      not_after_then (slice_cmp level_cmp levels levels) (ordering_then (nat_cmp app.number app.number) (ask_key_cmp x.key y.key)) (not_after_itself (slice_cmp level_cmp) (lists_total level_cmp_total) levels)
      (not_after_then (nat_cmp app.number app.number) (ask_key_cmp x.key y.key) (not_after_itself nat_cmp nat_cmp_total app.number) h)

  -- two applications that are alike in the order of service are the same
  pub same_app : (a b : AppSight) → IsSeenApp sight a → IsSeenApp sight b → app_cmp sight a b ≡ Equal → a ≡ b
  same_app a b at there e =
      let number = nat_cmp_equal a.number b.number (second_equal (slice_cmp level_cmp (levels_to sight a.leaf) (levels_to sight b.leaf)) (nat_cmp a.number b.number) e) in
      ap (λ o. unwrap_or o a) (sym at ∙ ap (seen_app sight) number ∙ there)

  -- an application of an ask is one that waits
  pub some_ask : (asks : List Ask) (x : Ask) → IsIn x asks → 1 ≤ length asks
  some_ask [] x m = absurd m
  some_ask (y ∷ asks) x m = omega arith

  pub offer_waits : (o : Offer) → IsOffer sight o → IsWaiter sight o.app
  offer_waits o is = record { found = is.found; some = some_ask o.app.asks o.ask is.member }
