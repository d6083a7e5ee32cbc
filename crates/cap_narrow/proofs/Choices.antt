-- What is chosen, without the last resource.
use Rattle.cap_narrow.proofs.Prelude.{◌≡◌, ℕ, suc, Bool, true, false, List, [], ◌∷◌, ◌++◌, length, take, drop, refl, sym, ◌∙◌, ap, subst, inl, inr, Option, Some, None, is_none, ◌%◌, map, filter, flat_map, option_map, if◌then◌else◌, All, option_or, ordering_then, is_gt, nat_cmp, slice_cmp, map-append, length-map, take-map, drop-map, Ask, ask_key_cmp, is_under, name_of, Sight, QueueSight, AppSight, NodeSight, queues_to, NodeProposal, leaf_path, reason_of, level_cmp, level_of, ring_from, is_after, proposals_of, admissible_on, sooner, first_served, choice_on, first_choice, choice_from, IsIn, each_of, of_filter, in_either, filter_same, filter_mapped, EndsInNone, narrow_ask, narrow_sight, narrow_queue_sight, narrow_app_sight, narrow_node_sight, narrow_proposal, ShowsNone, ChoicesNarrow}
use Rattle.cap_narrow.proofs.Lists.{in_drop}
use Rattle.cap_narrow.proofs.Vectors.{fullness_narrow}
use Rattle.cap_narrow.proofs.Reasons.{way_seen, leaf_seen, reason_narrow}

module _ {K : ℕ} (sight : Sight (suc K)) where
  module _ (none : ShowsNone sight) where
    -- levels compare alike
    level_same : (x y : QueueSight) → IsIn x sight.queues → IsIn y sight.queues → level_cmp (level_of (narrow_queue_sight K x)) (level_of (narrow_queue_sight K y)) ≡ level_cmp (level_of x) (level_of y)
    level_same x y m n =
        ap (λ o. ordering_then o (slice_cmp nat_cmp (name_of x.row.path) (name_of y.row.path)))
        (fullness_narrow K x.used x.row.guaranteed y.used y.row.guaranteed
        (each_of (λ (z : QueueSight). EndsInNone K z.used) sight.queues none.used x m) (each_of (λ (z : QueueSight). EndsInNone K z.used) sight.queues none.used y n)
        (each_of (λ (z : QueueSight). length z.row.guaranteed ≡ suc K) sight.queues none.guarantees x m) (each_of (λ (z : QueueSight). length z.row.guaranteed ≡ suc K) sight.queues none.guarantees y n))

    levels_same : (xs ys : List QueueSight) → ((x : QueueSight) → IsIn x xs → IsIn x sight.queues) → ((x : QueueSight) → IsIn x ys → IsIn x sight.queues) →
        slice_cmp level_cmp (map level_of (map (narrow_queue_sight K) xs)) (map level_of (map (narrow_queue_sight K) ys)) ≡ slice_cmp level_cmp (map level_of xs) (map level_of ys)
    levels_same [] [] f g = refl
    levels_same [] (y ∷ ys) f g = refl
    levels_same (x ∷ xs) [] f g = refl
    levels_same (x ∷ xs) (y ∷ ys) f g = λ i. ordering_then (level_same x y (f x (inl refl)) (g y (inl refl)) i) (levels_same xs ys (λ z m. f z (inr m)) (λ z m. g z (inr m)) i)

    module _ (p : NodeProposal) where
      below : drop 1 (queues_to (narrow_sight sight) (leaf_path (narrow_sight sight) (narrow_proposal K p))) ≡ map (narrow_queue_sight K) (drop 1 (queues_to sight (leaf_path sight p)))
      below = ap (λ leaf. drop 1 (queues_to (narrow_sight sight) leaf)) (leaf_seen sight p) ∙ ap (drop 1) (way_seen sight (leaf_path sight p)) ∙ drop-map (narrow_queue_sight K) 1 (queues_to sight (leaf_path sight p))

      below_in : (x : QueueSight) → IsIn x (drop 1 (queues_to sight (leaf_path sight p))) → IsIn x sight.queues
      below_in x m = (of_filter (λ (y : QueueSight). is_under y.row.path (leaf_path sight p)) sight.queues x (in_drop 1 (queues_to sight (leaf_path sight p)) x m)).1

    after_same : (p r : NodeProposal) → is_after (narrow_sight sight) (narrow_proposal K p) (narrow_proposal K r) ≡ is_after sight p r
    after_same p r =
        ap is_gt
        (ap (λ o. ordering_then o (ordering_then (nat_cmp p.app r.app) (ask_key_cmp p.key r.key)))
        ((λ i. slice_cmp level_cmp (map level_of (below p i)) (map level_of (below r i)))
        ∙ levels_same (drop 1 (queues_to sight (leaf_path sight p))) (drop 1 (queues_to sight (leaf_path sight r))) (below_in p) (below_in r)))

    sooner_same : (p : NodeProposal) (o : Option NodeProposal) → sooner (narrow_sight sight) (narrow_proposal K p) (option_map (narrow_proposal K) o) ≡ option_map (narrow_proposal K) (sooner sight p o)
    sooner_same p None = refl
    sooner_same p (Some r) = ap (λ b. if b then Some (narrow_proposal K r) else Some (narrow_proposal K p)) (after_same p r) ∙ by (is_after sight p r)
      where
        by : (b : Bool) → (if b then Some (narrow_proposal K r) else Some (narrow_proposal K p)) ≡ option_map (narrow_proposal K) (if b then Some r else Some p)
        by true = refl
        by false = refl

    first_same : (ps : List NodeProposal) → first_served (narrow_sight sight) (map (narrow_proposal K) ps) ≡ option_map (narrow_proposal K) (first_served sight ps)
    first_same [] = refl
    first_same (p ∷ ps) = ap (sooner (narrow_sight sight) (narrow_proposal K p)) (first_same ps) ∙ sooner_same p (first_served sight ps)

    -- the candidates on a node, written out
    of_asks : (n : ℕ) (a : AppSight) (asks : List Ask) → flat_map (proposals_of n (narrow_app_sight K a)) (map (narrow_ask K) asks) ≡ map (narrow_proposal K) (flat_map (proposals_of n a) asks)
    of_asks n a [] = refl
    of_asks n a (ask ∷ asks) = ap (λ ps. map (narrow_proposal K) (proposals_of n a ask) ++ ps) (of_asks n a asks)

    of_apps : (n : ℕ) (apps : List AppSight) → flat_map (λ (a : AppSight). flat_map (proposals_of n a) a.asks) (map (narrow_app_sight K) apps) ≡ map (narrow_proposal K) (flat_map (λ (a : AppSight). flat_map (proposals_of n a) a.asks) apps)
    of_apps n [] = refl
    of_apps n (a ∷ apps) =
        (λ i. of_asks n a a.asks i ++ of_apps n apps i) ∙ sym (map-append (narrow_proposal K) (flat_map (proposals_of n a) a.asks) (flat_map (λ (x : AppSight). flat_map (proposals_of n x) x.asks) apps))

    asks_end : (n : ℕ) (a : AppSight) (asks : List Ask) → ((ask : Ask) → IsIn ask asks → EndsInNone K ask.resource) → (p : NodeProposal) → IsIn p (flat_map (proposals_of n a) asks) → EndsInNone K p.resource
    asks_end n a [] f p m = absurd m
    asks_end n a (ask ∷ asks) f p (inl e) = subst (λ (x : NodeProposal). EndsInNone K x.resource) e (f ask (inl refl))
    asks_end n a (ask ∷ asks) f p (inr (inl e)) = subst (λ (x : NodeProposal). EndsInNone K x.resource) e (f ask (inl refl))
    asks_end n a (ask ∷ asks) f p (inr (inr m)) = asks_end n a asks (λ x g. f x (inr g)) p m

    apps_end : (n : ℕ) (apps : List AppSight) → ((a : AppSight) → IsIn a apps → All (λ (ask : Ask). EndsInNone K ask.resource) a.asks) → (p : NodeProposal) →
        IsIn p (flat_map (λ (a : AppSight). flat_map (proposals_of n a) a.asks) apps) → EndsInNone K p.resource
    apps_end n [] f p m = absurd m
    apps_end n (a ∷ apps) f p m = elim (in_either p (flat_map (proposals_of n a) a.asks) (flat_map (λ (x : AppSight). flat_map (proposals_of n x) x.asks) apps) m) [
      | inl g ↦ asks_end n a a.asks (each_of (λ (ask : Ask). EndsInNone K ask.resource) a.asks (f a (inl refl))) p g
      | inr g ↦ apps_end n apps (λ x h. f x (inr h)) p g
    ]

    admissible_same : (n : ℕ) → admissible_on (narrow_sight sight) n ≡ map (narrow_proposal K) (admissible_on sight n)
    admissible_same n =
        let all = flat_map (λ (a : AppSight). flat_map (proposals_of n a) a.asks) sight.apps in
        ap (filter (λ r. is_none (reason_of (narrow_sight sight) r))) (of_apps n sight.apps)
        ∙ filter_mapped (λ r. is_none (reason_of (narrow_sight sight) r)) (narrow_proposal K) all
        ∙ ap (map (narrow_proposal K))
        (filter_same (λ p. is_none (reason_of (narrow_sight sight) (narrow_proposal K p))) (λ p. is_none (reason_of sight p)) all
        (λ p m. ap is_none (reason_narrow sight none p (apps_end n sight.apps (each_of (λ (a : AppSight). All (λ (ask : Ask). EndsInNone K ask.resource) a.asks) sight.apps none.asks) p m))))

    on_same : (n : ℕ) → choice_on (narrow_sight sight) n ≡ option_map (narrow_proposal K) (choice_on sight n)
    on_same n = ap (first_served (narrow_sight sight)) (admissible_same n) ∙ first_same (admissible_on sight n)

    either_mapped : (o r : Option NodeProposal) → option_or (option_map (narrow_proposal K) o) (option_map (narrow_proposal K) r) ≡ option_map (narrow_proposal K) (option_or o r)
    either_mapped None r = refl
    either_mapped (Some p) r = refl

    choices_same : (nodes : List NodeSight) → first_choice (narrow_sight sight) (map (narrow_node_sight K) nodes) ≡ option_map (narrow_proposal K) (first_choice sight nodes)
    choices_same [] = refl
    choices_same (node ∷ nodes) = (λ i. option_or (on_same node.number i) (choices_same nodes i)) ∙ either_mapped (choice_on sight node.number) (first_choice sight nodes)

    ring_same : (start : ℕ) → ring_from start (map (narrow_node_sight K) sight.nodes) ≡ map (narrow_node_sight K) (ring_from start sight.nodes)
    ring_same start =
        let at = start % length sight.nodes in
        ap (λ n. drop (start % n) (map (narrow_node_sight K) sight.nodes) ++ take (start % n) (map (narrow_node_sight K) sight.nodes)) (length-map sight.nodes (narrow_node_sight K))
        ∙ (λ i. drop-map (narrow_node_sight K) at sight.nodes i ++ take-map (narrow_node_sight K) at sight.nodes i)
        ∙ sym (map-append (narrow_node_sight K) (drop at sight.nodes) (take at sight.nodes))

    pub choice_narrow : (start : ℕ) → choice_from (narrow_sight sight) start ≡ option_map (narrow_proposal K) (choice_from sight start)
    choice_narrow start = ap (first_choice (narrow_sight sight)) (ring_same start) ∙ choices_same (ring_from start sight.nodes)

pub choices_narrow : ChoicesNarrow
choices_narrow K sight start none = choice_narrow sight none start
