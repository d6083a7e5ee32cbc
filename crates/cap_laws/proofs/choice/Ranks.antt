-- No two admissible proposals of one node are of one rank.
use Rattle.cap_laws.proofs.Prelude.{◌≡◌, ℕ, ◌<◌, true, List, refl, sym, ◌∙◌, ap, Option, Some, None, bytes_eq, option_and_then, nat_cmp, ordering_then, MatchOrdering, Ordering, Less, Equal, Greater, ranked, bytes_eq-Decides, Ask, ask_at, fits, holds_of, Sight, seen_app, seen_node, NodeProposal, NeedsOf, IsAdmissible, proposed_ask, fits_free, ProposalKind, rank_cmp, rank_of, OneOfEachRank}

equal_numbers : (x y : ℕ) (r : Ordering) → r ≡ Equal → MatchOrdering r (x < y) (x ≡ y) (y < x) → x ≡ y
equal_numbers x y Less e m = absurd (cc e)
equal_numbers x y Equal e m = m
equal_numbers x y Greater e m = absurd (cc e)

pub nat_cmp_equal : (x y : ℕ) → nat_cmp x y ≡ Equal → x ≡ y
nat_cmp_equal x y e = equal_numbers x y (nat_cmp x y) e (ranked x y (nat_cmp x y) refl)

then_equal : (a b : Ordering) → ordering_then a b ≡ Equal → (a ≡ Equal) × (b ≡ Equal)
then_equal Less b e = absurd (cc e)
then_equal Equal b e = (refl, e)
then_equal Greater b e = absurd (cc e)

same_resource : (o : Option Ask) (r s : List ℕ) → holds_of (λ ask. bytes_eq ask.resource r) o ≡ true → holds_of (λ ask. bytes_eq ask.resource s) o ≡ true → r ≡ s
same_resource None r s h g = absurd (cc h)
same_resource (Some ask) r s h g = sym ((bytes_eq-Decides ask.resource r).0 h) ∙ (bytes_eq-Decides ask.resource s).0 g

module _ {K : ℕ} (sight : Sight K) (p q : NodeProposal) where
  -- a resource that fits what the node has left is granted, one that does not is reserved
  same_kind : (k l : ProposalKind) → fits_free sight p ≡ fits_free sight q → NeedsOf sight p k → NeedsOf sight q l → k ≡ l
  same_kind ProposalKind.Grant ProposalKind.Grant e a b = refl
  same_kind ProposalKind.Reserve ProposalKind.Reserve e a b = refl
  same_kind ProposalKind.Grant ProposalKind.Reserve e a b = absurd (cc (a.0, b.2, e))
  same_kind ProposalKind.Reserve ProposalKind.Grant e a b = absurd (cc (a.2, b.0, e))

  pub same_proposal : IsAdmissible sight p → IsAdmissible sight q → p.node ≡ q.node → rank_cmp (rank_of sight p) (rank_of sight q) ≡ Equal → p ≡ q
  same_proposal a b node e =
      let below = then_equal _ _ (then_equal _ _ e).1 in
      let key = then_equal _ _ below.1 in
      let app : p.app ≡ q.app = nat_cmp_equal p.app q.app below.0 in
      let priority : p.key.priority ≡ q.key.priority = nat_cmp_equal p.key.priority q.key.priority key.0 in
      let request : p.key.request ≡ q.key.request = nat_cmp_equal p.key.request q.key.request key.1 in
      let same_key : p.key ≡ q.key = λ i. record { priority = priority i; request = request i } in
      let ask : proposed_ask sight p ≡ proposed_ask sight q = λ i. option_and_then (λ a. ask_at (same_key i) a.asks) (seen_app sight (app i)) in
      let other : holds_of (λ ask. bytes_eq ask.resource q.resource) (proposed_ask sight p) ≡ true = ap (λ o. holds_of (λ (ask : Ask). bytes_eq ask.resource q.resource) o) ask ∙ b.0.resource in
      let resource : p.resource ≡ q.resource = same_resource (proposed_ask sight p) p.resource q.resource a.0.resource other in
      let free : fits_free sight p ≡ fits_free sight q = λ i. holds_of (λ node. fits (resource i) node.free) (seen_node sight (node i)) in
      let kind : p.kind ≡ q.kind = same_kind p.kind q.kind free a.1 b.1 in
      λ i. record { kind = kind i; app = app i; key = same_key i; node = node i; resource = resource i }

pub one_of_each_rank : OneOfEachRank
one_of_each_rank K sight p q a b node e = same_proposal sight p q a b node e
