-- A call keeps the bounds: it only takes away.
use Rattle.cap_laws.proofs.Prelude.{◌≡◌, ℕ, ◌≤◌, Bool, true, false, List, [], ◌∷◌, refl, sym, ◌∙◌, ap, subst, inl, inr, arith, ◌==◌, filter, map, if◌then◌else◌, All, list_any, sum_by, cases_lt, or_from, nat_tests, amount, fits, Flat, App, ClusterNode, Container, Reservation, app_at, node_at, use_of, node_held, IsRising, AreApart, IsNodeBounded, IsIn, each_of, of_each, or_left, or_right, some_kept, sum_by_agree, sum_of_zeros, same_counts, counted, live_part, reserved_part, use_amount, use_past, held_amount, held_past, fits_amounts, amounts_fit}
use Rattle.cap_laws.proofs.lists.Parts.{IsPart, part_filter, part_sum}
use Rattle.cap_laws.proofs.calls.Lessening.{IsLessened, IsSite, HasPlaces, site_before, its_standing, its_capacity}
use Rattle.cap_laws.proofs.lists.Tables.{used, each_after}

-- some of the reservations are on different nodes too
pub none_of_part : (n : ℕ) (rs ss : List Reservation) → IsPart rs ss → list_any (λ (s : Reservation). n == s.node) rs ≡ false → list_any (λ (s : Reservation). n == s.node) ss ≡ false
none_of_part n [] ss p h = ap (list_any (λ (s : Reservation). n == s.node)) p
none_of_part n (r ∷ rs) ss (inl p) h = none_of_part n rs ss p (or_right (n == r.node) (list_any (λ (s : Reservation). n == s.node) rs) h)
none_of_part n (r ∷ rs) ss (inr (zs, e, p)) h =
    ap (list_any (λ (s : Reservation). n == s.node)) e
    ∙ or_from (n == r.node) (list_any (λ (s : Reservation). n == s.node) zs) (or_left (n == r.node) (list_any (λ (s : Reservation). n == s.node) rs) h)
    (none_of_part n rs zs p (or_right (n == r.node) (list_any (λ (s : Reservation). n == s.node) rs) h))

pub apart_part : (rs ss : List Reservation) → IsPart rs ss → AreApart rs → AreApart ss
apart_part [] ss p a = subst AreApart (sym p) a
apart_part (r ∷ rs) ss (inl p) a = apart_part rs ss p a.1
apart_part (r ∷ rs) ss (inr (zs, e, p)) a = subst AreApart (sym e) (none_of_part r.node rs zs p a.0, apart_part rs zs p a.1)

module _ {K : ℕ} (old new : Flat K) (less : IsLessened old new) (h : HasPlaces old) where
  pub places_stay : HasPlaces new
  places_stay app node s =
      let p = h app node (site_before old new less app node s) in (
        some_kept (λ (a : App). (a.leaf, a.user)) (app_at new app) (app_at old app) (its_standing old new less app node h s) p.0,
        some_kept (λ (x : ClusterNode). x.total) (node_at new node) (node_at old node) (its_capacity old new less app node h s) p.1,
      )

  -- a use only falls
  pub use_falls : (test : List ℕ → List ℕ → Bool) (k : ℕ) → amount (use_of new (λ a. test a.leaf a.user)) k ≤ amount (use_of old (λ a. test a.leaf a.user)) k
  use_falls test k = elim (cases_lt k K) [
    | inl b ↦ omega (arith, use_amount old test k b, use_amount new test k b, live, reserved)
    | inr p ↦ omega (arith, use_past old test k p, use_past new test k p)
  ]
    where
      same : (app node : ℕ) (resource : List ℕ) → IsSite new app node → counted new test k app resource ≡ counted old test k app resource
      same app node resource s = ap (λ b. if b then amount resource k else 0) (same_counts test (app_at new app) (app_at old app) (its_standing old new less app node h s))

      live : live_part new test k new.nodes.live ≤ live_part old test k old.nodes.live
      live =
          let a : live_part new test k new.nodes.live ≡ live_part old test k new.nodes.live =
          sum_by_agree (λ (c : Container). counted new test k c.app c.resource) (λ c. counted old test k c.app c.resource) new.nodes.live (λ c m. same c.app c.node c.resource (inl (c, m, refl, refl))) in
          let b : live_part old test k new.nodes.live ≡ live_part old test k (filter less.live.test old.nodes.live) = ap (live_part old test k) less.live.live in
          let c = part_sum (λ (c : Container). counted old test k c.app c.resource) old.nodes.live (filter less.live.test old.nodes.live) (part_filter less.live.test old.nodes.live) in
          omega (arith, a, b, c)

      reserved : reserved_part new test k new.nodes.reserved ≤ reserved_part old test k old.nodes.reserved
      reserved =
          let a : reserved_part new test k new.nodes.reserved ≡ reserved_part old test k new.nodes.reserved =
          sum_by_agree (λ (r : Reservation). counted new test k r.app r.resource) (λ r. counted old test k r.app r.resource) new.nodes.reserved (λ r m. same r.app r.node r.resource (inr (r, m, refl, refl))) in
          let c = part_sum (λ (r : Reservation). counted old test k r.app r.resource) old.nodes.reserved new.nodes.reserved less.reserved in
          omega (arith, a, c)

  -- what a node holds only falls, and on a new node nothing runs
  held_falls : (n k : ℕ) → amount (node_held new n) k ≤ amount (node_held old n) k
  held_falls n k = elim (cases_lt k K) [
    | inl b ↦
        let held : Container → ℕ = λ c. if c.node == n then amount c.resource k else 0 in
        let a : sum_by held new.nodes.live ≡ sum_by held (filter less.live.test old.nodes.live) = ap (sum_by held) less.live.live in
        let c = part_sum held old.nodes.live (filter less.live.test old.nodes.live) (part_filter less.live.test old.nodes.live) in
        omega (arith, held_amount old n k b, held_amount new n k b, a, c)
    | inr p ↦ omega (arith, held_past old n k p, held_past new n k p)
  ]

  pub nodes_stay : IsRising 1 (map (λ node. node.number) old.nodes.present) old.nodes.next_node → All (IsNodeBounded old) old.nodes.present → All (IsNodeBounded new) new.nodes.present
  nodes_stay r b =
      of_each (IsNodeBounded new) new.nodes.present
      (each_after (IsNodeBounded new) (λ f number total x fit. (λ i. fits (node_held new (number x i)) (total x i)) ∙ fit) (λ x number e. by x (λ k. let none = nothing x.number number k in omega (arith, none))) less.nodes
      (λ x m. by x (fits_amounts (node_held old x.number) x.total (each_of (IsNodeBounded old) old.nodes.present b x m))))
    where
      by : (x : ClusterNode) → ((k : ℕ) → amount (node_held old x.number) k ≤ amount x.total k) → IsNodeBounded new x
      by x before = amounts_fit (node_held new x.number) x.total (λ k. let f = held_falls x.number k in let g = before k in omega (arith, f, g))

      nothing : (n : ℕ) → n ≡ old.nodes.next_node → (k : ℕ) → amount (node_held old n) k ≤ 0
      nothing n e k = elim (cases_lt k K) [
        | inl g ↦
            let zeros = sum_of_zeros (λ (c : Container). if c.node == n then amount c.resource k else 0) old.nodes.live (λ c m. away c m (c.node == n) refl) in
            omega (arith, held_amount old n k g, zeros)
        | inr p ↦ omega (arith, held_past old n k p)
      ]
        where
          away : (c : Container) → IsIn c old.nodes.live → (x : Bool) → c.node == n ≡ x → (if x then amount c.resource k else 0) ≡ 0
          away c m true g =
              let at : c.node ≡ n = grind (arith, nat_tests, g) in
              absurd (omega (arith, at, e, used (λ (x : ClusterNode). x.number) old.nodes.present old.nodes.next_node c.node r (h c.app c.node (inl (c, m, refl, refl))).1))
          away c m false g = refl
