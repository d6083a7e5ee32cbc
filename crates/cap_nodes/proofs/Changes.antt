-- The table as nodes and containers come and go.
use Rattle.cap_nodes.proofs.Prelude.{◌≡◌, ℕ, ◌+◌, ◌≤◌, Bool, true, false, cond, List, [], ◌∷◌, ◌++◌, length, map, not, sym, ap, ◌∙◌, arith, subst, refl, Option, Some, None, filter, find, count_by, ◌==◌, IsSome, ◌||◌, option_and_then, option_map, All, sum, sum_by, list_any, AllByRecursion, All-from_recursion, amounts_fit, eqb-true, nat_tests, length-filter, sum-map, map_push, amount, by_amount, plus, less, Fits, IsWithin, amount_max, zeros, fits, sum_where, found, filter_mapped, find_mapped_at, map_twice, IsRising, HeartbeatReply, ClusterNode, Container, Reservation, sum_of_totals, after_beat, IsSound, left_of, Load, IsTied, AreTied, load_at, change_load, held_more, held_less, beaten_load, HasOne, HaveReservations, reservation_of}
use Rattle.cap_nodes.proofs.Numbered.{found-change, none_at_end, kept-change}
use Rattle.cap_nodes.proofs.Presents.{not_none}
use Rattle.cap_nodes.proofs.Sums.{where-none, filter-none, none-filter, zeros-fit, where-less-own, where-had, sum-without}
use Rattle.cap_nodes.proofs.Ties.{is_found, all_changed, all_mapped, all_kept, all_each, all_pushed, still_there, there_pushed, tied_beside, tied_with, room_fits, untied_beside, untied_from, has_one}

abbrev pub nodes_of : List Load → List ClusterNode
nodes_of loads = map (λ p. p.node) loads

-- the node of a load
pub node_of_load : (loads : List Load) (n : ℕ) (p : Load) → load_at loads n ≡ Some p → find (λ x. x.number == n) (nodes_of loads) ≡ Some p.node
node_of_load loads n p at = find_mapped_at (λ (q : Load). q.node) (λ x. x.number == n) loads ∙ ap (option_map (λ (q : Load). q.node)) at

pub node_of_none : (loads : List Load) (n : ℕ) → load_at loads n ≡ None → find (λ x. x.number == n) (nodes_of loads) ≡ None
node_of_none loads n at = find_mapped_at (λ (q : Load). q.node) (λ x. x.number == n) loads ∙ ap (option_map (λ (q : Load). q.node)) at

-- the load of a number after it changed
pub load_changed : (f : Load → Load) → ((p : Load) → (f p).node.number ≡ p.node.number) → (loads : List Load) (n : ℕ) (p : Load) → load_at loads n ≡ Some p → load_at (change_load n f loads) n ≡ Some (f p)
load_changed f same loads n p at =
    let t = (found (λ (q : Load). q.node.number == n) loads p at).1 in
    found-change (λ (q : Load). q.node.number) n f same n loads ∙ ap (option_map (λ (q : Load). cond (q.node.number == n) (f q) q)) at ∙ ap (λ b. Some (cond b (f p) p)) t

-- the reply that a node keeps is there in its place
pub kept_shown : (loads : List Load) (n : ℕ) (reply : HeartbeatReply) → option_and_then (λ (p : Load). p.node.kept) (load_at loads n) ≡ Some reply →
    option_and_then (λ (x : ClusterNode). x.kept) (find (λ x. x.number == n) (nodes_of loads)) ≡ Some reply
kept_shown loads n reply h = by (load_at loads n) refl h
  where
    by : (o : Option Load) → load_at loads n ≡ o → option_and_then (λ (p : Load). p.node.kept) o ≡ Some reply → option_and_then (λ (x : ClusterNode). x.kept) (find (λ x. x.number == n) (nodes_of loads)) ≡ Some reply
    by None e k = absurd (cc k)
    by (Some p) e k = ap (option_and_then (λ (x : ClusterNode). x.kept)) (node_of_load loads n p e) ∙ k

-- a node that is there has a load
pub record IsAt (loads : List Load) (n : ℕ) : Type 0 where
  pub load : Load
  pub at : load_at loads n ≡ Some load

pub load_of_node : (loads : List Load) (n : ℕ) → IsSome (find (λ x. x.number == n) (nodes_of loads)) → IsAt loads n
load_of_node loads n h = by (load_at loads n) refl
  where
    by : (o : Option Load) → load_at loads n ≡ o → IsAt loads n
    by (Some p) e = record { load = p; at = e }
    by None e = absurd (not_none (find (λ x. x.number == n) (nodes_of loads)) (node_of_none loads n e) h)

pub no_load : (loads : List Load) (n : ℕ) → load_at loads n ≡ None → IsSome (find (λ x. x.number == n) (nodes_of loads)) → ⊥
no_load loads n e h = not_none (find (λ x. x.number == n) (nodes_of loads)) (node_of_none loads n e) h

pub is_at : (loads : List Load) (n : ℕ) (p : Load) → load_at loads n ≡ Some p → IsSome (load_at loads n)
is_at loads n p e = rw e refl

same_node : (n m : ℕ) → n ≡ m → (n == m) ≡ true
same_node n m e = grind (arith, nat_tests)

module _ (K : ℕ) (loads : List Load) (live : List Container) (tied : AreTied K loads live) where
  -- the tie of a load
  pub tie_of : (n : ℕ) (p : Load) → load_at loads n ≡ Some p → IsTied K live p × (p.node.number ≡ n)
  tie_of n p there = let f = is_found (IsTied K live) (λ (q : Load). q.node.number == n) loads p there tied.ties in (f.0, eqb-true p.node.number n f.1)

  -- no container is live where no node is
  pub none_there : (n : ℕ) → load_at loads n ≡ None → AllByRecursion (λ (c : Container). (c.node == n) ≡ false) live
  none_there n e = all_each (λ (c : Container). IsSome (load_at loads c.node)) (λ (c : Container). (c.node == n) ≡ false) live (λ c h. by c h (c.node == n) refl) tied.homes
    where
      by : (c : Container) → IsSome (load_at loads c.node) → (b : Bool) → (c.node == n) ≡ b → (c.node == n) ≡ false
      by c h true is = absurd (not_none (load_at loads c.node) (ap (load_at loads) (eqb-true c.node n is) ∙ e) h)
      by c h false is = is

  pub live_of : (n : ℕ) (p : Load) → load_at loads n ≡ Some p → p.live ≡ length (filter (λ c. c.node == n) live)
  live_of n p there =
      let t = tie_of n p there in
      t.0.count ∙ ap (λ m. count_by (λ (c : Container). c.node == m) live) t.1 ∙ sym (length-filter (λ (c : Container). c.node == n) live)

  pub none_of : (n : ℕ) → load_at loads n ≡ None → 0 ≡ length (filter (λ c. c.node == n) live)
  none_of n e = ap (λ (cs : List Container). length cs) (sym (filter-none (λ (c : Container). c.node == n) live (none_there n e)))

  pub free_is : (n : ℕ) (p : Load) → load_at loads n ≡ Some p → less p.node.total p.held ≡ left_of (find (λ x. x.number == n) (nodes_of loads)) (sum_where K (λ c. c.node == n) (λ c. c.resource) live)
  free_is n p there =
      let t = tie_of n p there in
      ap (less p.node.total) (t.0.held ∙ ap (λ m. sum_where K (λ (c : Container). c.node == m) (λ c. c.resource) live) t.1)
      ∙ ap (λ o. left_of o (sum_where K (λ (c : Container). c.node == n) (λ c. c.resource) live)) (sym (node_of_load loads n p there))

  -- one more node
  pub with_node : (next : ℕ) (node : ClusterNode) (reservation : Option Reservation) → IsRising 1 (map (λ p. p.node.number) loads) next → node.number ≡ next → IsWithin amount_max node.total →
      AreTied K (loads ++ record { node = node; held = zeros K; live = 0; reservation = reservation } ∷ []) live
  with_node next node reservation rising is within =
      let p : Load = record { node = node; held = zeros K; live = 0; reservation = reservation } in
      let none : AllByRecursion (λ (c : Container). (c.node == node.number) ≡ false) live = none_there node.number (ap (load_at loads) is ∙ none_at_end (λ (q : Load). q.node.number) next 1 loads rising) in
      record {
        ties = all_pushed (IsTied K live) loads p tied.ties (record {
          held = sym (where-none K (λ (c : Container). c.node == node.number) (λ c. c.resource) live none);
          count = ap (λ (cs : List Container). length cs) (sym (filter-none (λ (c : Container). c.node == node.number) live none)) ∙ length-filter (λ (c : Container). c.node == node.number) live;
          fits = zeros-fit K node.total;
          within = within;
        });
        homes = all_each (λ (c : Container). IsSome (load_at loads c.node)) (λ (c : Container). IsSome (load_at (loads ++ p ∷ []) c.node)) live (λ c h. there_pushed loads p c.node h) tied.homes;
      }

  -- one more container
  pub with_one : (next n : ℕ) (p : Load) (c : Container) → IsRising 1 (map (λ q. q.node.number) loads) next → load_at loads n ≡ Some p → c.node ≡ n → Fits c.resource (less p.node.total p.held) →
      length (plus p.held c.resource) ≡ K → AreTied K (change_load n (held_more c.resource) loads) (live ++ c ∷ [])
  with_one next n p c rising there home room count =
      let t = tie_of n p there in
      let there_still : (m : ℕ) → IsSome (load_at loads m) → IsSome (load_at (change_load n (held_more c.resource) loads) m) = λ m h. still_there loads n m (held_more c.resource) (λ q. refl) h in
      record {
        ties = all_changed (IsTied K live) (IsTied K (live ++ c ∷ [])) n 1 (held_more c.resource) p loads next rising there
            (λ tie. tied_with K live c p tie (same_node c.node p.node.number (home ∙ sym t.1)) count (room_fits K live c.resource p tie room))
            (λ q tie other. tied_beside K live c q tie (grind (arith, nat_tests, other, home)))
            tied.ties;
        homes = all_pushed (λ (x : Container). IsSome (load_at (change_load n (held_more c.resource) loads) x.node)) live c
            (all_each (λ (x : Container). IsSome (load_at loads x.node)) (λ (x : Container). IsSome (load_at (change_load n (held_more c.resource) loads) x.node)) live (λ x h. there_still x.node h) tied.homes)
            (there_still c.node (subst (λ m. IsSome (load_at loads m)) (sym home) (is_at loads n p there)));
      }

  -- the home of a live container
  pub home_of : (n : ℕ) (c : Container) → find (λ x. x.number == n) live ≡ Some c → IsSome (load_at loads c.node)
  home_of n c there = (is_found (λ (x : Container). IsSome (load_at loads x.node)) (λ x. x.number == n) live c there tied.homes).0

  pub has_it : (next n : ℕ) (c : Container) (p : Load) → IsRising 1 (map (λ x. x.number) live) next → find (λ x. x.number == n) live ≡ Some c → load_at loads c.node ≡ Some p → length c.resource ≤ K → HasOne c.resource p
  has_it next n c p rising there at short =
      let t = tie_of c.node p at in
      has_one K live n next rising c there p t.0 (same_node c.node p.node.number (sym t.1)) short

  -- one container less
  pub without_one : (next high n : ℕ) (c : Container) (p : Load) → IsRising 1 (map (λ q. q.node.number) loads) next → IsRising 1 (map (λ x. x.number) live) high → find (λ x. x.number == n) live ≡ Some c →
      load_at loads c.node ≡ Some p → AreTied K (change_load c.node (held_less c.resource) loads) (filter (λ x. not (x.number == n)) live)
  without_one next high n c p rising numbers there at =
      let t = tie_of c.node p at in
      let left = filter (λ (x : Container). not (x.number == n)) live in
      record {
        ties = all_changed (IsTied K live) (IsTied K left) c.node 1 (held_less c.resource) p loads next rising at
            (λ tie. untied_from K live n high numbers c there p tie (same_node c.node p.node.number (sym t.1)))
            (λ q tie other. untied_beside K live n high numbers c there q tie (grind (arith, nat_tests, other)))
            tied.ties;
        homes = all_kept (λ (x : Container). IsSome (load_at loads x.node)) (λ (x : Container). IsSome (load_at (change_load c.node (held_less c.resource) loads) x.node)) (λ x. not (x.number == n)) live
            (λ x h _. still_there loads c.node x.node (held_less c.resource) (λ q. refl) h) tied.homes;
      }

  -- a change that leaves the number of a node, and what ties it to its containers
  pub with_same : (n : ℕ) (change : Load → Load) → ((p : Load) → (change p).node.number ≡ p.node.number) → ((p : Load) → IsTied K live p → IsTied K live (change p)) → AreTied K (change_load n change loads) live
  with_same n change number tie = record {
    ties = all_mapped (IsTied K live) (IsTied K live) n change loads tie (λ q t. t) tied.ties;
    homes = all_each (λ (x : Container). IsSome (load_at loads x.node)) (λ (x : Container). IsSome (load_at (change_load n change loads) x.node)) live
        (λ x h. still_there loads n x.node change number h) tied.homes;
  }

  -- one more heartbeat
  pub with_beat : (n ignored : ℕ) → AreTied K (change_load n (beaten_load ignored) loads) live
  with_beat n ignored = with_same n (beaten_load ignored) (λ p. refl) (λ p tie. record { held = tie.held; count = tie.count; fits = tie.fits; within = tie.within })

  -- one node less
  pub without_empty : (n : ℕ) → filter (λ c. c.node == n) live ≡ [] → AreTied K (filter (λ p. not (p.node.number == n)) loads) live
  without_empty n none = record {
    ties = all_kept (IsTied K live) (IsTied K live) (λ (p : Load). not (p.node.number == n)) loads (λ p tie _. tie) tied.ties;
    homes = both live tied.homes (none-filter (λ (c : Container). c.node == n) live none);
  }
    where
      there : (m : ℕ) (ps : List Load) → (m == n) ≡ false → IsSome (load_at ps m) → IsSome (load_at (filter (λ p. not (p.node.number == n)) ps) m)
      there m [] other h = h
      there m (q ∷ ps) other h = step (q.node.number == n) (q.node.number == m) refl refl h (there m ps other)
        where
          step : (b e : Bool) → (q.node.number == n) ≡ b → (q.node.number == m) ≡ e → IsSome (cond e (Some q) (load_at ps m)) → (IsSome (load_at ps m) → IsSome (load_at (filter (λ p. not (p.node.number == n)) ps) m)) →
              IsSome (load_at (cond (not b) (q ∷ filter (λ p. not (p.node.number == n)) ps) (filter (λ p. not (p.node.number == n)) ps)) m)
          step true true x y h more = absurd (grind (arith, nat_tests, x, y, other))
          step true false x y h more = more h
          step false true x y h more = rw y refl
          step false false x y h more = rw y (more h)

      both : (cs : List Container) → AllByRecursion (λ (c : Container). IsSome (load_at loads c.node)) cs → AllByRecursion (λ (c : Container). (c.node == n) ≡ false) cs →
          AllByRecursion (λ (c : Container). IsSome (load_at (filter (λ p. not (p.node.number == n)) loads) c.node)) cs
      both [] a b = tt
      both (c ∷ cs) a b = (there c.node loads b.0 a.0, both cs a.1 b.1)

-- changes that leave the nodes as they are
pub same_nodes : (n : ℕ) (change : Load → Load) (loads : List Load) → ((p : Load) → (change p).node ≡ p.node) → nodes_of (change_load n change loads) ≡ nodes_of loads
same_nodes n change loads keeps = kept-change (λ (p : Load). p.node.number) (λ p. p.node) n change keeps loads

pub nodes_pushed : (loads : List Load) (p : Load) → nodes_of (loads ++ p ∷ []) ≡ nodes_of loads ++ p.node ∷ []
nodes_pushed loads p = map_push (λ (q : Load). q.node) loads p

pub nodes_kept : (n : ℕ) (loads : List Load) → nodes_of (filter (λ p. not (p.node.number == n)) loads) ≡ filter (λ x. not (x.number == n)) (nodes_of loads)
nodes_kept n loads = sym (filter_mapped (λ (x : ClusterNode). not (x.number == n)) (λ (p : Load). p.node) loads)

numbers_of_nodes : (loads : List Load) → map (λ (x : ClusterNode). x.number) (nodes_of loads) ≡ map (λ p. p.node.number) loads
numbers_of_nodes loads = map_twice (λ (x : ClusterNode). x.number) (λ (p : Load). p.node) loads

-- the nodes after a change of one
abbrev changed : ℕ → (ClusterNode → ClusterNode) → List ClusterNode → List ClusterNode
changed n change nodes = map (λ node. cond (node.number == n) (change node) node) nodes

-- the nodes after a heartbeat
pub nodes_beaten : (K n ignored : ℕ) (live : List Container) (loads : List Load) → AllByRecursion (IsTied K live) loads →
    nodes_of (change_load n (beaten_load ignored) loads) ≡ changed n (after_beat ignored (length (filter (λ c. c.node == n) live))) (nodes_of loads)
nodes_beaten K n ignored live [] all = refl
nodes_beaten K n ignored live (p ∷ loads) all = by (p.node.number == n) refl (nodes_beaten K n ignored live loads all.1)
  where
    by : (b : Bool) → (p.node.number == n) ≡ b → nodes_of (change_load n (beaten_load ignored) loads) ≡ changed n (after_beat ignored (length (filter (λ c. c.node == n) live))) (nodes_of loads) →
        (cond b (beaten_load ignored p) p).node ∷ nodes_of (change_load n (beaten_load ignored) loads)
        ≡ cond b (after_beat ignored (length (filter (λ c. c.node == n) live)) p.node) p.node ∷ changed n (after_beat ignored (length (filter (λ c. c.node == n) live))) (nodes_of loads)
    by true e more =
        let same : p.live ≡ length (filter (λ (c : Container). c.node == n) live) = all.0.count ∙ ap (λ m. count_by (λ (c : Container). c.node == m) live) (eqb-true p.node.number n e) ∙ sym (length-filter (λ (c : Container). c.node == n) live) in
        rw (same, more) refl
    by false e more = rw more refl

-- what the nodes have together after it
pub totals_beaten : (K n ignored : ℕ) (loads : List Load) → sum_of_totals K (nodes_of (change_load n (beaten_load ignored) loads)) ≡ sum_of_totals K (nodes_of loads)
totals_beaten K n ignored loads = λ i. by_amount K (λ k. same k i)
  where
    same : (k : ℕ) → sum_by (λ x. amount x.total k) (nodes_of (change_load n (beaten_load ignored) loads)) ≡ sum_by (λ x. amount x.total k) (nodes_of loads)
    same k =
        let h = λ (x : ClusterNode). amount x.total k in
        let kept = kept-change (λ (p : Load). p.node.number) (λ p. h p.node) n (beaten_load ignored) (λ p. refl) loads in
        sym (sum-map h (nodes_of (change_load n (beaten_load ignored) loads))) ∙ ap sum (map_twice h (λ (p : Load). p.node) (change_load n (beaten_load ignored) loads) ∙ kept ∙ sym (map_twice h (λ (p : Load). p.node) loads)) ∙ sum-map h (nodes_of loads)

module _ (K next n : ℕ) (loads : List Load) (p : Load) (rising : IsRising 1 (map (λ q. q.node.number) loads) next) (there : load_at loads n ≡ Some p) where
  node_moved : (h : ClusterNode → ℕ) → sum_by h (nodes_of loads) ≡ sum_by h (filter (λ x. not (x.number == n)) (nodes_of loads)) + h p.node
  node_moved h = sum-without (λ (x : ClusterNode). x.number) h n 1 (nodes_of loads) next (subst (λ ns. IsRising 1 ns next) (sym (numbers_of_nodes loads)) rising) p.node (node_of_load loads n p there)

  -- what the nodes have together without one
  pub total_fits : length p.node.total ≤ K → Fits p.node.total (sum_of_totals K (nodes_of loads))
  total_fits short = where-had K (λ (x : ClusterNode). true) (λ x. x.total) (nodes_of loads) (filter (λ x. not (x.number == n)) (nodes_of loads)) p.node node_moved refl short

  pub total_without : less (sum_of_totals K (nodes_of loads)) p.node.total ≡ sum_of_totals K (nodes_of (filter (λ q. not (q.node.number == n)) loads))
  total_without =
      sym (where-less-own K (λ (x : ClusterNode). true) (λ x. x.total) (nodes_of loads) (filter (λ x. not (x.number == n)) (nodes_of loads)) p.node node_moved refl)
      ∙ ap (sum_of_totals K) (sym (nodes_kept n loads))

pub any_node : (test : List ℕ → Bool) (loads : List Load) → list_any (λ p. test p.node.host) loads ≡ list_any (λ x. test x.host) (nodes_of loads)
any_node test [] = refl
any_node test (p ∷ loads) = by (test p.node.host) (any_node test loads)
  where
    by : (b : Bool) → list_any (λ p. test p.node.host) loads ≡ list_any (λ x. test x.host) (nodes_of loads) → (b || list_any (λ p. test p.node.host) loads) ≡ (b || list_any (λ x. test x.host) (nodes_of loads))
    by true e = refl
    by false e = e

pub at_of : (loads : List Load) (n : ℕ) → IsSome (load_at loads n) → IsAt loads n
at_of loads n h = by (load_at loads n) refl h
  where
    by : (o : Option Load) → load_at loads n ≡ o → IsSome o → IsAt loads n
    by (Some p) e h = record { load = p; at = e }
    by None e h = absurd (cc h)

-- what is true of every table
pub homes_all : (K : ℕ) (loads : List Load) (live : List Container) → AreTied K loads live → All (λ (c : Container). IsSome (find (λ x. x.number == c.node) (nodes_of loads))) live
homes_all K loads live tied =
    All-from_recursion (λ (c : Container). IsSome (find (λ x. x.number == c.node) (nodes_of loads))) live
    (all_each (λ (c : Container). IsSome (load_at loads c.node)) (λ (c : Container). IsSome (find (λ x. x.number == c.node) (nodes_of loads))) live
    (λ c h. let at = at_of loads c.node h in rw (node_of_load loads c.node at.load at.at) refl)
    tied.homes)

pub held_all : (K : ℕ) (live : List Container) (loads : List Load) → AllByRecursion (IsTied K live) loads →
    All (λ (x : ClusterNode). fits (sum_where K (λ (c : Container). c.node == x.number) (λ c. c.resource) live) x.total ≡ true) (nodes_of loads)
held_all K live loads ties = All-from_recursion (λ (x : ClusterNode). fits (sum_where K (λ (c : Container). c.node == x.number) (λ c. c.resource) live) x.total ≡ true) (nodes_of loads) (each loads ties)
  where
    each : (ps : List Load) → AllByRecursion (IsTied K live) ps → AllByRecursion (λ (x : ClusterNode). fits (sum_where K (λ (c : Container). c.node == x.number) (λ c. c.resource) live) x.total ≡ true) (nodes_of ps)
    each [] all = tt
    each (p ∷ ps) all =
        (amounts_fit (sum_where K (λ (c : Container). c.node == p.node.number) (λ c. c.resource) live) p.node.total (subst (λ (h : List ℕ). Fits h p.node.total) all.0.held all.0.fits), each ps all.1)

pub rising_nodes : (loads : List Load) (next : ℕ) → IsRising 1 (map (λ p. p.node.number) loads) next → IsRising 1 (map (λ (x : ClusterNode). x.number) (nodes_of loads)) next
rising_nodes loads next rising = subst (λ ns. IsRising 1 ns next) (sym (numbers_of_nodes loads)) rising

-- the numbers rise after a change that leaves them
pub rising_changed : (n : ℕ) (change : Load → Load) → ((p : Load) → (change p).node.number ≡ p.node.number) → (loads : List Load) (next : ℕ) → IsRising 1 (map (λ p. p.node.number) loads) next →
    IsRising 1 (map (λ p. p.node.number) (change_load n change loads)) next
rising_changed n change keeps loads next rising = subst (λ ns. IsRising 1 ns next) (sym (kept-change (λ (p : Load). p.node.number) (λ p. p.node.number) n change keeps loads)) rising

-- what is true of every table
pub sound_table : (K : ℕ) (loads : List Load) (live reserved : List Container) (next_node next_container : ℕ) (total : List ℕ) →
    AreTied K loads live × (total ≡ sum_of_totals K (nodes_of loads)) × IsRising 1 (map (λ p. p.node.number) loads) next_node × IsWithin amount_max total × HaveReservations (map reservation_of reserved) loads →
    IsSound K (record { present = nodes_of loads; live = live; reserved = map reservation_of reserved; next_node = next_node; next_container = next_container })
sound_table K loads live reserved next_node next_container total h = record {
  rising = rising_nodes loads next_node h.2;
  held = held_all K live loads h.0.ties;
  homes = homes_all K loads live h.0;
  totals = subst (IsWithin amount_max) h.1 h.3;
}
