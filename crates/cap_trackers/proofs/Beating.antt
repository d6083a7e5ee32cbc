-- A heartbeat that is not refused.
use Rattle.cap_trackers.proofs.Prelude.{◌≡◌, ℕ, ◌+◌, ◌-◌, Bool, true, false, List, [], ◌∷◌, length, map, Option, Some, None, refl, sym, ◌∙◌, ap, subst, arith, cond, not, filter, find, count_by, ◌==◌, ◌&&◌, if◌then◌else◌, unwrap_or, option_and_then, nat_tests, length-filter, length-filter_both, Cause, Request, Refusal, Flat, ClusterNode, Container, NodeTable, node_at, with_node, node_in, containers_on, HeartbeatReply, IsRising, earliest, next_response, is_current, is_repeated, is_bad_id, is_among, after_ends, heartbeat_refusal, is_repeated_heartbeat, ended_by, beat_of, after_processed_heartbeat, after_heartbeat, no_beat, after_beat, HasDistinctNumbers, reply_to, after_request, IsIn, found, rising_kept, found_by_number, filter_same, filter_twice, filter_whole, map_same, among_itself, is_named, count_named, among_named, and_true, first_holds}
use Rattle.cap_model.specs.declared.reply.ReplyWith.TheVariants as Reply
use Rattle.cap_trackers.proofs.Answering.{granted_is, refused_is}

turn : (a b : Bool) → cond (not a) b false ≡ cond b (not a) false
turn true true = refl
turn true false = refl
turn false true = refl
turn false false = refl

counted : (xs : List Container) → length xs ≡ count_by (λ c. true) xs
counted xs = ap length (sym (filter_whole (λ c. true) xs (λ c m. refl))) ∙ length-filter (λ c. true) xs

is_not_bad : (b : Bool) → earliest ((b, Refusal.BadResponseId) ∷ (false, Refusal.UnknownNode) ∷ []) ≡ None → b ≡ false
is_not_bad true e = absurd (cc e)
is_not_bad false e = refl

-- what the table of nodes shows is what the flat cluster has
pub node_shown : {K : ℕ} (cluster : Flat K) (nodes : NodeTable) (n : ℕ) (x : ClusterNode) → nodes ≡ cluster.nodes → Some x ≡ node_in nodes n → node_at cluster n ≡ Some x
node_shown cluster nodes n x is found = ap (λ (t : NodeTable). node_in t n) (sym is) ∙ sym found

pub node_missing : {K : ℕ} (cluster : Flat K) (nodes : NodeTable) (n : ℕ) → nodes ≡ cluster.nodes → None ≡ node_in nodes n → node_at cluster n ≡ None
node_missing cluster nodes n is missing = ap (λ (t : NodeTable). node_in t n) (sym is) ∙ sym missing

-- the tests of a heartbeat, of a node that is there and of one that is not
module _ {K : ℕ} (cluster : Flat K) (n id : ℕ) where
  pub is_again : (x : ClusterNode) (b : Bool) → node_at cluster n ≡ Some x → is_repeated x.response x.kept id ≡ b → is_repeated_heartbeat cluster n id ≡ b
  is_again x b there e = rw there e

  pub unrefused : (x : ClusterNode) → node_at cluster n ≡ Some x → is_bad_id x.response x.kept id ≡ false → heartbeat_refusal cluster n id ≡ None
  unrefused x there good = rw (there, good) refl

  pub unknown_refused : (ended : List ℕ) → node_at cluster n ≡ None → (Reply.Refused Refusal.UnknownNode ≡ reply_to cluster (Request.Heartbeat n id ended)) × (cluster ≡ after_request cluster (Request.Heartbeat n id ended))
  unknown_refused ended none = refused_is cluster (Request.Heartbeat n id ended) Refusal.UnknownNode (rw none refl)

  pub bad_refused : (ended : List ℕ) (x : ClusterNode) → node_at cluster n ≡ Some x → is_bad_id x.response x.kept id ≡ true →
      (Reply.Refused Refusal.BadResponseId ≡ reply_to cluster (Request.Heartbeat n id ended)) × (cluster ≡ after_request cluster (Request.Heartbeat n id ended))
  bad_refused ended x there bad = refused_is cluster (Request.Heartbeat n id ended) Refusal.BadResponseId (rw (there, bad) refl)

module _ {K : ℕ} (cluster : Flat K) (n id : ℕ) where
  -- what a node keeps, where the heartbeat repeats the last one
  pub repeats_it : (x : ClusterNode) (reply : HeartbeatReply) → Some reply ≡ (if is_repeated x.response x.kept id then x.kept else None) → (is_repeated x.response x.kept id ≡ true) × (x.kept ≡ Some reply)
  repeats_it x reply e = by (is_repeated x.response x.kept id) refl e
    where
      by : (b : Bool) → is_repeated x.response x.kept id ≡ b → Some reply ≡ (if b then x.kept else None) → (is_repeated x.response x.kept id ≡ true) × (x.kept ≡ Some reply)
      by true f h = (f, sym h)
      by false f h = absurd (cc h)

  -- and where it gives none, it repeats nothing
  pub repeats_none : (x : ClusterNode) → None ≡ (if is_repeated x.response x.kept id then x.kept else None) → is_repeated x.response x.kept id ≡ false
  repeats_none x e = by x.kept refl (is_repeated x.response x.kept id) refl e
    where
      by : (o : Option HeartbeatReply) → x.kept ≡ o → (b : Bool) → is_repeated x.response x.kept id ≡ b → None ≡ (if b then x.kept else None) → is_repeated x.response x.kept id ≡ false
      by None f b g h = ap (λ k. is_repeated x.response k id) f
      by (Some r) f true g h = absurd (cc (h, f))
      by (Some r) f false g h = g

  -- the id is the one that the node answered last
  answered_last : heartbeat_refusal cluster n id ≡ None → is_repeated_heartbeat cluster n id ≡ false → (x : ClusterNode) → node_at cluster n ≡ Some x → x.response ≡ id
  answered_last none fresh x e =
      let good : is_bad_id x.response x.kept id ≡ false = is_not_bad (is_bad_id x.response x.kept id) (rw e at none) in
      let new : is_repeated x.response x.kept id ≡ false = rw e at fresh in
      let current : id == x.response ≡ true = first_holds (is_current x.response id) (is_repeated x.response x.kept id) good new in
      grind (arith, nat_tests, current)

  module _ (ended : List ℕ) where
    abbrev pub heard : Flat K
    heard = after_ends Cause.EndedOnNode (ended_by cluster n ended) cluster

    -- those that are left on the node
    pub left_there : HasDistinctNumbers cluster → length (containers_on heard.nodes n) + length (ended_by cluster n ended) ≡ length (containers_on cluster.nodes n)
    left_there rising =
        let there = containers_on cluster.nodes n in
        let gone = ended_by cluster n ended in
        let left : containers_on heard.nodes n ≡ filter (λ c. not (is_among gone c)) there =
        filter_twice (λ c. c.node == n) (λ c. not (is_among gone c)) (λ c. cond (not (is_among gone c)) (c.node == n) false) cluster.nodes.live (λ c. refl)
        ∙ filter_same (λ c. cond (not (is_among gone c)) (c.node == n) false) (λ c. cond (c.node == n) (not (is_among gone c)) false) cluster.nodes.live (λ c m. turn (is_among gone c) (c.node == n))
        ∙ sym (filter_twice (λ c. not (is_among gone c)) (λ c. c.node == n) (λ c. cond (c.node == n) (not (is_among gone c)) false) cluster.nodes.live (λ c. refl)) in
        let named : filter (is_among gone) there ≡ filter (is_named ended) there =
        filter_same (is_among gone) (is_named ended) there (λ c m. among_named ended there c ∙ ap (λ b. is_named ended c && b) (among_itself there c m) ∙ and_true (is_named ended c)) in
        let ordered = rising_kept (λ (x : Container). x.number) (λ c. c.node == n) 1 cluster.nodes.live cluster.nodes.next_container rising in
        let count : length gone ≡ length (filter (is_named ended) there) = counted gone ∙ count_named (λ c. true) ended 1 there cluster.nodes.next_container ordered ∙ sym (counted (filter (is_named ended) there)) in
        let all = length-filter_both (is_among gone) (λ c. not (is_among gone c)) (λ c. refl) there in
        let l = ap length left in
        let m = ap length named in
        omega (arith, count, all, l, m)

    -- where nodes have distinct numbers, a heartbeat that is processed is answered by the next id
    pub processed : IsRising 1 (map (λ node. node.number) cluster.nodes.present) cluster.nodes.next_node → HasDistinctNumbers cluster → heartbeat_refusal cluster n id ≡ None → is_repeated_heartbeat cluster n id ≡ false →
        (left new : Flat K) (ignored : ℕ) → left ≡ heard → ignored + length (ended_by cluster n ended) ≡ length ended →
        new ≡ with_node n (after_beat ignored (length (containers_on left.nodes n))) left → new ≡ after_processed_heartbeat cluster n id ended
    processed nodes rising none fresh left new ignored left_is count is =
        is
        ∙ ap (λ x. with_node n (after_beat ignored (length (containers_on x.nodes n))) x) left_is
        ∙ ap (λ ps. record heard { nodes = record heard.nodes { present = ps } }) (map_same (change (after_beat ignored (length (containers_on heard.nodes n)))) (change (λ node. record node { response = next_response id; kept = Some (beat_of cluster n id ended) })) cluster.nodes.present (λ x m. by x m (x.number == n) refl))
      where
        change : (ClusterNode → ClusterNode) → ClusterNode → ClusterNode
        change f node = if node.number == n then f node else node

        ignored_is : ignored ≡ length ended - length (ended_by cluster n ended)
        ignored_is = omega (arith, count)

        live_is : length (containers_on heard.nodes n) ≡ length (containers_on cluster.nodes n) - length (ended_by cluster n ended)
        live_is = let l = left_there rising in omega (arith, l)

        by : (x : ClusterNode) → IsIn x cluster.nodes.present → (b : Bool) → x.number == n ≡ b →
            (if b then after_beat ignored (length (containers_on heard.nodes n)) x else x) ≡ (if b then record x { response = next_response id; kept = Some (beat_of cluster n id ended) } else x)
        by x m true e =
            let same : x.number ≡ n = grind (arith, nat_tests, e) in
            let there : node_at cluster n ≡ Some x = subst (λ k. find (λ (y : ClusterNode). y.number == k) cluster.nodes.present ≡ Some x) same (found_by_number (λ (y : ClusterNode). y.number) 1 cluster.nodes.present cluster.nodes.next_node x nodes m) in
            let last : x.response ≡ id = answered_last none fresh x there in
            λ i. record x { response = next_response (last i); kept = Some (record { response = next_response (last i); ignored = ignored_is i; live = live_is i }) }
        by x m false e = refl

    -- the reply is the one that is kept afterwards
    pub told_is : (new : Flat K) (reply : HeartbeatReply) → heartbeat_refusal cluster n id ≡ None → option_and_then (λ node. node.kept) (node_at new n) ≡ Some reply → new ≡ after_heartbeat cluster n id ended →
        (Reply.Heartbeat reply ≡ reply_to cluster (Request.Heartbeat n id ended)) × (new ≡ after_request cluster (Request.Heartbeat n id ended))
    told_is new reply none kept is =
        let granted = granted_is cluster (Request.Heartbeat n id ended) none in (
          sym (ap (λ o. Reply.Heartbeat (unwrap_or o no_beat)) kept)
              ∙ ap (λ (x : Flat K). Reply.Heartbeat (unwrap_or (option_and_then (λ node. node.kept) (node_at x n)) no_beat)) is
              ∙ granted.0,
          is ∙ granted.1,
        )
