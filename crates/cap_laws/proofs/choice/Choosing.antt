-- The computed choice is the choice.
use Rattle.cap_laws.proofs.Prelude.{◌≡◌, ℕ, Bool, true, false, List, [], ◌∷◌, refl, sym, ap, subst, inl, inr, arith, Option, Some, None, is_none, bytes_eq, option_and_then, cond, flat_map, ◌==◌, option_or, bytes_eq-Decides, nat_tests, Ask, same_key, ask_at, holds_of, Sight, AppSight, NodeSight, seen_app, NodeProposal, IsAdmissible, reason_of, ProposalKind, Reason, rank_cmp, rank_of, is_after, ring_from, IsNodeChoice, IsFirstChoice, proposals_of, admissible_on, sooner, first_served, choice_on, first_choice, ChoiceIsComputed, ChoiceFromIsComputed, rank_cmp_total, not_after_trans, not_after_other, not_after_itself, and_parts, IsIn, found, in_filter, in_flat_map, of_filter, of_flat_map}
use Rattle.cap_laws.proofs.choice.Reasons.{rejected_exactly}

module _ {K : ℕ} (sight : Sight K) where
  -- nothing is in the list, or this is, and nothing in it is served before this
  abbrev IsServed : List NodeProposal → Option NodeProposal → Type 0
  IsServed ps None = (q : NodeProposal) → IsIn q ps → ⊥
  IsServed ps (Some p) = IsIn p ps × ((q : NodeProposal) → IsIn q ps → is_after sight p q ≡ false)

  itself : (p q : NodeProposal) → p ≡ q → is_after sight p q ≡ false
  itself p q e = subst (λ x. is_after sight p x ≡ false) e (not_after_itself rank_cmp rank_cmp_total (rank_of sight p))

  served_by : (p r : NodeProposal) (ps : List NodeProposal) → IsServed ps (Some r) → (b : Bool) → is_after sight p r ≡ b → IsServed (p ∷ ps) (cond b (Some r) (Some p))
  served_by p r ps s true e = (
    inr (s.0),
    λ q m. elim m [ inl h ↦ subst (λ x. is_after sight r x ≡ false) h (not_after_other rank_cmp rank_cmp_total (rank_of sight p) (rank_of sight r) e) | inr h ↦ s.1 q h ],
  )
  served_by p r ps s false e = (
    inl refl,
    λ q m. elim m [ inl h ↦ itself p q h | inr h ↦ not_after_trans rank_cmp rank_cmp_total (rank_of sight p) (rank_of sight r) (rank_of sight q) e (s.1 q h) ],
  )

  served_next : (p : NodeProposal) (ps : List NodeProposal) (o : Option NodeProposal) → IsServed ps o → IsServed (p ∷ ps) (sooner sight p o)
  served_next p ps None s = (inl refl, λ q m. elim m [ inl h ↦ itself p q h | inr h ↦ absurd (s q h) ])
  served_next p ps (Some r) s = served_by p r ps s (is_after sight p r) refl

  served : (ps : List NodeProposal) → IsServed ps (first_served sight ps)
  served [] = λ q m. m
  served (p ∷ ps) = served_next p ps (first_served sight ps) (served ps)

  module _ (n : ℕ) where
    -- an ask's proposals have the node's number
    node_of : (app : AppSight) (ask : Ask) (p : NodeProposal) → IsIn p (proposals_of n app ask) → p.node ≡ n
    node_of app ask p (inl e) = ap (λ (x : NodeProposal). x.node) (sym e)
    node_of app ask p (inr (inl e)) = ap (λ (x : NodeProposal). x.node) (sym e)
    node_of app ask p (inr (inr m)) = absurd m

    node_is : (p : NodeProposal) → IsIn p (flat_map (λ app. flat_map (proposals_of n app) app.asks) sight.apps) → p.node ≡ n
    node_is p m =
        let a = of_flat_map (λ (app : AppSight). flat_map (proposals_of n app) app.asks) sight.apps p m in
        let b = of_flat_map (proposals_of n a.0) a.0.asks p a.1 in
        node_of a.0 b.0 p b.1

    module _ (p : NodeProposal) (at : p.node ≡ n) where
      made : (app : AppSight) (ask : Ask) → app.number ≡ p.app → ask.key ≡ p.key → ask.resource ≡ p.resource → (k : ProposalKind) → k ≡ p.kind → IsIn p (proposals_of n app ask)
      made app ask a b c ProposalKind.Grant e = inl (λ i. record { kind = e i; app = a i; key = b i; node = sym at i; resource = c i })
      made app ask a b c ProposalKind.Reserve e = inr (inl (λ i. record { kind = e i; app = a i; key = b i; node = sym at i; resource = c i }))

      key_is : (ask : Ask) → same_key ask.key p.key ≡ true → ask.key ≡ p.key
      key_is ask h =
          let both = and_parts (ask.key.priority == p.key.priority) (ask.key.request == p.key.request) h in
          let a : ask.key.priority ≡ p.key.priority = grind (arith, nat_tests, both.0) in
          let b : ask.key.request ≡ p.key.request = grind (arith, nat_tests, both.1) in
          λ i. record { priority = a i; request = b i }

      asked_in : (app : AppSight) → app.number ≡ p.app → (o : Option Ask) → ask_at p.key app.asks ≡ o → holds_of (λ ask. bytes_eq ask.resource p.resource) o ≡ true → IsIn p (flat_map (proposals_of n app) app.asks)
      asked_in app a None e h = absurd (cc h)
      asked_in app a (Some ask) e h =
          let f = found (λ (x : Ask). same_key x.key p.key) app.asks ask e in
          in_flat_map (proposals_of n app) app.asks ask p (f.0) (made app ask a (key_is ask (f.1)) ((bytes_eq-Decides ask.resource p.resource).0 h) p.kind refl)

      asked : (o : Option AppSight) → seen_app sight p.app ≡ o → holds_of (λ ask. bytes_eq ask.resource p.resource) (option_and_then (λ app. ask_at p.key app.asks) o) ≡ true →
          IsIn p (flat_map (λ app. flat_map (proposals_of n app) app.asks) sight.apps)
      asked None e h = absurd (cc h)
      asked (Some app) e h =
          let f = found (λ (x : AppSight). x.number == p.app) sight.apps app e in
          let number : app.number ≡ p.app = grind (arith, nat_tests, f.1) in
          in_flat_map (λ (x : AppSight). flat_map (proposals_of n x) x.asks) sight.apps app p (f.0) (asked_in app number (ask_at p.key app.asks) refl h)

      in_admissible : IsAdmissible sight p → IsIn p (admissible_on sight n)
      in_admissible a =
          in_filter (λ (x : NodeProposal). is_none (reason_of sight x)) (flat_map (λ app. flat_map (proposals_of n app) app.asks) sight.apps) p
          (asked (seen_app sight p.app) refl a.0.resource) (ap is_none ((rejected_exactly K sight p).1 a))

    nothing_is : (o : Option Reason) → is_none o ≡ true → o ≡ None
    nothing_is None h = refl
    nothing_is (Some x) h = absurd (cc h)

    chosen : (o : Option NodeProposal) → IsServed (admissible_on sight n) o → IsNodeChoice sight n o
    chosen None s = λ q e a. s q (in_admissible q e a)
    chosen (Some p) s =
        let f = of_filter (λ (x : NodeProposal). is_none (reason_of sight x)) (flat_map (λ app. flat_map (proposals_of n app) app.asks) sight.apps) p (s.0) in
        (node_is p (f.1), (rejected_exactly K sight p).0 (nothing_is (reason_of sight p) (f.0)), λ q e a. s.1 q (in_admissible q e a))

    pub node_choice : IsNodeChoice sight n (choice_on sight n)
    node_choice = chosen (choice_on sight n) (served (admissible_on sight n))

  next_node : (node : NodeSight) (nodes : List NodeSight) (rest : Option NodeProposal) → IsFirstChoice sight nodes rest → (o : Option NodeProposal) → IsNodeChoice sight node.number o →
      IsFirstChoice sight (node ∷ nodes) (option_or o rest)
  next_node node nodes rest r None c = inr (c, r)
  next_node node nodes rest r (Some p) c = inl (refl, c)

  first_of_nodes : (nodes : List NodeSight) → IsFirstChoice sight nodes (first_choice sight nodes)
  first_of_nodes [] = refl
  first_of_nodes (node ∷ nodes) = next_node node nodes (first_choice sight nodes) (first_of_nodes nodes) (choice_on sight node.number) (node_choice node.number)

pub choice_is_computed : ChoiceIsComputed
choice_is_computed K sight n = node_choice sight n

pub choice_from_is_computed : ChoiceFromIsComputed
choice_from_is_computed K sight start = first_of_nodes sight (ring_from start sight.nodes)
