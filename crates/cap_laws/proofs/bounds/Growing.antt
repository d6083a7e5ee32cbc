-- An admissible grant or reservation leaves the queues and the user that it counts for within their limits, and nodes within their totals.
use Rattle.cap_laws.proofs.Prelude.{◌≡◌, ℕ, ◌+◌, ◌≤◌, ◌<◌, Bool, true, false, List, [], ◌∷◌, ◌++◌, refl, sym, ◌∙◌, ap, subst, inl, inr, arith, ◌⊎◌, Option, Some, None, is_some, is_none, not, ◌||◌, ◌==◌, filter, map, option_map, unwrap_or, bytes_eq, if◌then◌else◌, All, sum_by, cases_lt, and_parts, cases_Bool, nat_tests, bytes_eq-Decides, sum_by-cons, sum_by_push, sum_by-filter_both, amount, less, amount-plus, amount-less, QueueRow, holds_of, fits, times, same_key, Flat, ClusterNode, Container, Reservation, app_at, node_at, use_of, queue_use, user_use, node_held, node_free, sight_of, node_sight, queue_sight, seen_node, seen_queue, QueueSight, NodeSight, NodeProposal, IsWithinLimits, leaf_path, user_name, room_replaced, use_after, fits_free, grant_proposal, reserve_proposal, after_grant, after_reserve, IsRising, FitsMaximum, IsNodeBounded, IsWellFormed, in_queue, of_user, IsIn, in_filter, each_of, of_each, sum_by_agree, found_by_number, counts, same_counts, counted, live_part, reserved_part, use_amount, use_past, held_amount, held_past, fits_amounts, amounts_fit}
use Rattle.cap_laws.proofs.calls.Moves.{grant_change}
use Rattle.cap_laws.proofs.calls.Lessening.{change_stands}
use Rattle.cap_laws.proofs.choice.Proposers.{IsSeen, seen_is, node_seen, IsReplaced, replaced_is, maximum_stays, leaf_seen}

-- a term is at most a sum that has it
pub in_sum : {A : Type 0} (f : A → ℕ) (xs : List A) (x : A) → IsIn x xs → f x ≤ sum_by f xs
in_sum f [] x m = absurd m
in_sum f (y ∷ xs) x (inl e) = let s : f y ≡ f x = ap f e in omega (arith, s, sum_by-cons f y xs)
in_sum f (y ∷ xs) x (inr m) = omega (arith, in_sum f xs x m, sum_by-cons f y xs)

module _ {K : ℕ} (old new : Flat K) (p : NodeProposal) where
  -- a use grows by the proposal's resource, less what it replaces, where the proposal's application counts
  abbrev pub IsGrown : Type 0
  IsGrown =
      (test : List ℕ → List ℕ → Bool) (k : ℕ) → k < K →
      amount (use_of new (λ a. test a.leaf a.user)) k + counted old test k p.app (room_replaced (sight_of old) p) ≤ amount (use_of old (λ a. test a.leaf a.user)) k + counted old test k p.app p.resource

  -- where the application does not count, the use does not grow
  pub not_grown : IsGrown → (test : List ℕ → List ℕ → Bool) → counts test (app_at old p.app) ≡ false → (k : ℕ) → amount (use_of new (λ a. test a.leaf a.user)) k ≤ amount (use_of old (λ a. test a.leaf a.user)) k
  not_grown grown test e k =
      elim (cases_lt k K) [
        | inl b ↦
            let nothing : counted old test k p.app p.resource ≡ 0 = ap (λ b. if b then amount p.resource k else 0) e in
            let g = grown test k b in
            omega (arith, nothing, g)
        | inr past ↦ omega (arith, use_past new test k past)
      ]

  module _ (grown : IsGrown) (formed : IsWellFormed old) (within : IsWithinLimits (sight_of old) p) where
    seen : IsSeen old p.app
    seen = seen_is old formed.apps p.app within.registered

    -- where it counts, the use is at most the one that was tested
    inside : (test : List ℕ → List ℕ → Bool) (most : List ℕ) → counts test (app_at old p.app) ≡ true → fits (use_after (sight_of old) p (use_of old (λ a. test a.leaf a.user))) most ≡ true →
        fits (use_of new (λ a. test a.leaf a.user)) most ≡ true
    inside test most e h =
        let used = use_of old (λ a. test a.leaf a.user) in
        let back = room_replaced (sight_of old) p in
        amounts_fit (use_of new (λ a. test a.leaf a.user)) most
        (λ k. elim (cases_lt k K) [
          | inl b ↦
              let more : counted old test k p.app p.resource ≡ amount p.resource k = ap (λ b. if b then amount p.resource k else 0) e in
              let gone : counted old test k p.app back ≡ amount back k = ap (λ b. if b then amount back k else 0) e in
              let g = grown test k b in
              let f = fits_amounts (use_after (sight_of old) p used) most h k in
              let sum = amount-plus (less used back) p.resource k in
              let difference = amount-less used back k in
              omega (arith, more, gone, g, f, sum, difference)
          | inr past ↦ omega (arith, use_past new test k past)
        ])

    -- whether the application counts, by its leaf queue and its user
    counts_is : (test : List ℕ → List ℕ → Bool) → counts test (app_at old p.app) ≡ test seen.app.leaf seen.app.user
    counts_is test = ap (counts test) seen.at

    leaf_is : leaf_path (sight_of old) p ≡ seen.app.leaf
    leaf_is = ap (λ o. unwrap_or (option_map (λ (a : Rattle.cap_model.specs.Sight.AppSight). a.leaf) o) []) seen.seen

    user_is : user_name (sight_of old) p ≡ seen.app.user
    user_is = ap (λ o. unwrap_or (option_map (λ (a : Rattle.cap_model.specs.Sight.AppSight). a.user) o) []) seen.seen

    module _ (q : QueueRow) (m : IsIn q old.settings.queues) where
      -- where the application is in the queue or under it, the queue is within its maximum
      pub maximum_met : counts (in_queue q.path) (app_at old p.app) ≡ true → FitsMaximum (queue_use new q.path) q.maximum
      maximum_met e = by q.maximum (maximum_stays old p seen.app leaf_is within.maxima q m (sym (counts_is (in_queue q.path)) ∙ e))
        where
          by : (o : Option (List ℕ)) → is_none o || holds_of (fits (use_after (sight_of old) p (queue_use old q.path))) o ≡ true → FitsMaximum (queue_use new q.path) o
          by None t = tt
          by (Some most) t = inside (in_queue q.path) most e t

      -- where it is the user's, and in the leaf queue, the user is within the user limit
      pub limit_met : (user : List ℕ) → counts (of_user q.path user) (app_at old p.app) ≡ true → fits (user_use new q.path user) (times q.factor q.guaranteed) ≡ true
      limit_met user e =
          let both = and_parts (bytes_eq q.path seen.app.leaf) (bytes_eq user seen.app.user) (sym (counts_is (of_user q.path user)) ∙ e) in
          let leaf : leaf_path (sight_of old) p ≡ q.path = leaf_is ∙ sym ((bytes_eq-Decides q.path seen.app.leaf).0 (both.0)) in
          let name : user_name (sight_of old) p ≡ user = user_is ∙ sym ((bytes_eq-Decides user seen.app.user).0 (both.1)) in
          let found : seen_queue (sight_of old) (leaf_path (sight_of old) p) ≡ Some (queue_sight old q) = ap (seen_queue (sight_of old)) leaf ∙ leaf_seen old q formed.tree.distinct m in
          let tested : fits (use_after (sight_of old) p (user_use old q.path user)) (times q.factor q.guaranteed) ≡ true =
          sym (λ i. holds_of (λ (x : QueueSight). fits (use_after (sight_of old) p (x.used_by (name i))) (times x.row.factor x.row.guaranteed)) (found i)) ∙ within.user in
          inside (of_user q.path user) (times q.factor q.guaranteed) e tested

module _ {K : ℕ} (old : Flat K) where
  counted_nothing : (test : List ℕ → List ℕ → Bool) (k app : ℕ) → counted old test k app [] ≡ 0
  counted_nothing test k app = by (counts test (app_at old app))
    where
      by : (b : Bool) → (if b then amount [] k else 0) ≡ 0
      by true = refl
      by false = refl

  pub reserve_grows : (r : Reservation) → IsGrown old (after_reserve old r) (reserve_proposal r)
  reserve_grows r test k h =
      let new = use_amount (after_reserve old r) test k h in
      let before = use_amount old test k h in
      let more = sum_by_push (λ (x : Reservation). counted old test k x.app x.resource) old.nodes.reserved r in
      let none = counted_nothing test k r.app in
      omega (arith, new, before, more, none)

  -- the reservations that stay, with what is replaced, are at most all
  without_replaced : (c : Container) (test : List ℕ → List ℕ → Bool) (k : ℕ) →
      reserved_part old test k (filter (λ (r : Reservation). not (r.node == c.node)) old.nodes.reserved) + counted old test k c.app (room_replaced (sight_of old) (grant_proposal c)) ≤ reserved_part old test k old.nodes.reserved
  without_replaced c test k = by (replaced_is old (grant_proposal c))
    where
      here : Reservation → Bool
      here r = r.node == c.node

      weight : Reservation → ℕ
      weight r = counted old test k r.app r.resource

      parts : sum_by weight (filter here old.nodes.reserved) + sum_by weight (filter (λ r. not (here r)) old.nodes.reserved) ≡ sum_by weight old.nodes.reserved
      parts = sum_by-filter_both here (λ r. not (here r)) (λ r. refl) weight old.nodes.reserved

      by : IsReplaced old (grant_proposal c) →
          sum_by weight (filter (λ r. not (here r)) old.nodes.reserved) + counted old test k c.app (room_replaced (sight_of old) (grant_proposal c)) ≤ sum_by weight old.nodes.reserved
      by (IsReplaced.nothing e) =
          let none : counted old test k c.app (room_replaced (sight_of old) (grant_proposal c)) ≡ 0 = ap (counted old test k c.app) e ∙ counted_nothing test k c.app in
          omega (arith, parts, none)
      by (IsReplaced.reservation g e) =
          let r = g.reservation in
          let node = g.node in
          let at : r.node == c.node ≡ true = grind (arith, nat_tests, node) in
          let app : r.app ≡ c.app = (let t = (and_parts (r.app == c.app) (same_key r.key c.key) g.for).0 in grind (arith, nat_tests, t)) in
          let this : counted old test k c.app (room_replaced (sight_of old) (grant_proposal c)) ≡ weight r = λ i. counted old test k (sym app i) (e i) in
          let some = in_sum weight (filter here old.nodes.reserved) r (in_filter here old.nodes.reserved r g.among at) in
          omega (arith, parts, this, some)

  pub grant_grows : (c : Container) → IsGrown old (after_grant old c) (grant_proposal c)
  grant_grows c test k h =
      let new = after_grant old c in
      let same : (app : ℕ) (resource : List ℕ) → counted new test k app resource ≡ counted old test k app resource =
      λ app resource. ap (λ b. if b then amount resource k else 0) (same_counts test (app_at new app) (app_at old app) (change_stands old new (grant_change old c) app)) in
      let live : live_part new test k (old.nodes.live ++ c ∷ []) ≡ live_part old test k (old.nodes.live ++ c ∷ []) =
      sum_by_agree (λ (x : Container). counted new test k x.app x.resource) (λ x. counted old test k x.app x.resource) (old.nodes.live ++ c ∷ []) (λ x m. same x.app x.resource) in
      let stay = filter (λ (r : Reservation). not (r.node == c.node)) old.nodes.reserved in
      let reserved : reserved_part new test k stay ≡ reserved_part old test k stay =
      sum_by_agree (λ (x : Reservation). counted new test k x.app x.resource) (λ x. counted old test k x.app x.resource) stay (λ x m. same x.app x.resource) in
      let after = use_amount new test k h in
      let before = use_amount old test k h in
      let more = sum_by_push (λ (x : Container). counted old test k x.app x.resource) old.nodes.live c in
      let fewer = without_replaced c test k in
      omega (arith, after, before, live, reserved, more, fewer)

  -- what fits what a node has left keeps it within its total
  pub nodes_grow : IsRising 1 (map (λ node. node.number) old.nodes.present) old.nodes.next_node → (c : Container) → fits_free (sight_of old) (grant_proposal c) ≡ true →
      All (IsNodeBounded old) old.nodes.present → All (IsNodeBounded (after_grant old c)) old.nodes.present
  nodes_grow r c f b = of_each (IsNodeBounded (after_grant old c)) old.nodes.present (λ node m. by node m (each_of (IsNodeBounded old) old.nodes.present b node m) (cases_Bool (c.node == node.number)))
    where
      new : Flat K
      new = after_grant old c

      held : ℕ → ℕ → Container → ℕ
      held n k x = if x.node == n then amount x.resource k else 0

      room : (node : ClusterNode) → IsIn node old.nodes.present → c.node == node.number ≡ true → fits c.resource (node_free old node) ≡ true
      room node m e = seen (seen_node (sight_of old) c.node) refl f
        where
          seen : (o : Option NodeSight) → seen_node (sight_of old) c.node ≡ o → holds_of (λ (x : NodeSight). fits c.resource x.free) o ≡ true → fits c.resource (node_free old node) ≡ true
          seen None g t = absurd (cc t)
          seen (Some s) g t =
              let n = node_seen old c.node (ap is_some g) in
              let number : c.node ≡ node.number = grind (arith, nat_tests, e) in
              let this : node_at old c.node ≡ Some node = ap (node_at old) number ∙ found_by_number (λ (x : ClusterNode). x.number) 1 old.nodes.present old.nodes.next_node node r m in
              let same : n.node ≡ node = ap (λ o. unwrap_or o node) (sym n.at ∙ this) in
              let sight : s ≡ node_sight old node = ap (λ o. unwrap_or o s) (sym g ∙ n.seen) ∙ ap (node_sight old) same in
              subst (λ (x : NodeSight). fits c.resource x.free ≡ true) sight t

      by : (node : ClusterNode) → IsIn node old.nodes.present → IsNodeBounded old node → ((c.node == node.number ≡ true) ⊎ (c.node == node.number ≡ false)) → IsNodeBounded new node
      by node m bounded (inl e) =
          amounts_fit (node_held new node.number) node.total
          (λ k. elim (cases_lt k K) [
            | inl h ↦
                let this : held node.number k c ≡ amount c.resource k = ap (λ b. if b then amount c.resource k else 0) e in
                let more = sum_by_push (held node.number k) old.nodes.live c in
                let after = held_amount new node.number k h in
                let before = held_amount old node.number k h in
                let free = amount-less node.total (node_held old node.number) k in
                let g = fits_amounts c.resource (node_free old node) (room node m e) k in
                let t = fits_amounts (node_held old node.number) node.total bounded k in
                omega (arith, this, more, after, before, free, g, t)
            | inr p ↦ omega (arith, held_past new node.number k p)
          ])
      by node m bounded (inr e) =
          amounts_fit (node_held new node.number) node.total
          (λ k. elim (cases_lt k K) [
            | inl h ↦
                let this : held node.number k c ≡ 0 = ap (λ b. if b then amount c.resource k else 0) e in
                let more = sum_by_push (held node.number k) old.nodes.live c in
                let after = held_amount new node.number k h in
                let before = held_amount old node.number k h in
                let t = fits_amounts (node_held old node.number) node.total bounded k in
                omega (arith, this, more, after, before, t)
            | inr p ↦ omega (arith, held_past new node.number k p)
          ])
