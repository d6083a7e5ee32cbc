-- In a tree each parent queue uses what its children use together.
use Rattle.cap_laws.proofs.Prelude.{◌≡◌, ℕ, Bool, true, false, List, ◌∷◌, ◌++◌, refl, sym, ◌∙◌, ap, subst, inl, inr, ◌⊎◌, IsSome, cond, ◌==◌, ◌&&◌, find, bytes_eq, count_by, if◌then◌else◌, bytes_eq-Decides, QueueRow, Flat, App, queue_at, is_under, is_child_of, has_children, IsSumOfChildren, IsLeaf, IsWellFormed, IsInOneChild, TreesAddUp, found, each_of, of_each, and_parts, and_from, cases_Bool, sum_of_zeros, value_of, same_test, IsUnder, under_is, is_under_it, child_to, its_child, child_leads, only_child, under_parent, counted_once}
use Rattle.cap_laws.proofs.uses.Parents.{parent_uses_children}

abbrev leads : List ℕ → List ℕ → QueueRow → Bool
leads path leaf child = is_child_of path child.path && is_under child.path leaf

-- a queue leads from a parent to a leaf under it exactly where it has the one path
leads_at : (path rest : List ℕ) (child : QueueRow) → leads path (path ++ 46 ∷ rest) child ≡ bytes_eq child.path (child_to path rest)
leads_at path rest child =
    same_test (leads path (path ++ 46 ∷ rest) child) (bytes_eq child.path (child_to path rest))
    (λ h.
    let both = and_parts (is_child_of path child.path) (is_under child.path (path ++ 46 ∷ rest)) h in
    (bytes_eq-Decides child.path (child_to path rest)).1 (only_child path child.path rest (both.0) (under_is child.path (path ++ 46 ∷ rest) (both.1))))
    (λ h.
    let same : child.path ≡ child_to path rest = (bytes_eq-Decides child.path (child_to path rest)).0 h in
    subst (λ p. is_child_of path p && is_under p (path ++ 46 ∷ rest) ≡ true) (sym same)
    (and_from (is_child_of path (child_to path rest)) (is_under (child_to path rest) (path ++ 46 ∷ rest)) (its_child path rest) (is_under_it (child_to path rest) (path ++ 46 ∷ rest) (child_leads path rest))))

module _ {K : ℕ} (cluster : Flat K) (w : IsWellFormed cluster) where
  -- the child on the way to a leaf is there
  on_the_way : (path rest leaf : List ℕ) → leaf ≡ path ++ 46 ∷ rest → IsLeaf cluster leaf → IsSome (queue_at cluster (child_to path rest))
  on_the_way path rest leaf e l = by (subst (λ p. IsUnder (child_to path rest) p) (sym e) (child_leads path rest))
    where
      by : IsUnder (child_to path rest) leaf → IsSome (queue_at cluster (child_to path rest))
      by (inl g) = subst (λ p. IsSome (queue_at cluster p)) g l.present
      by (inr (more, g)) =
          let v = value_of (queue_at cluster leaf) l.present in
          let f = found (λ (q : QueueRow). bytes_eq q.path leaf) cluster.settings.queues (v.0) (v.1) in
          let at : (v.0).path ≡ leaf = (bytes_eq-Decides (v.0).path leaf).0 (f.1) in
          each_of (λ (q : QueueRow). (front last : List ℕ) → q.path ≡ front ++ 46 ∷ last → IsSome (find (λ r. bytes_eq r.path front) cluster.settings.queues)) cluster.settings.queues w.tree.above (v.0) (f.0) (child_to path rest) more (at ∙ g)

  in_one_child : (q : QueueRow) → has_children cluster q.path ≡ true → (app : App) → IsLeaf cluster app.leaf → IsInOneChild cluster q.path app
  in_one_child q h app l = by (cases_Bool (is_under q.path app.leaf))
    where
      none_leads : is_under q.path app.leaf ≡ false → (child : QueueRow) → leads q.path app.leaf child ≡ false
      none_leads e child = same_test (leads q.path app.leaf child) false
          (λ g.
          let both = and_parts (is_child_of q.path child.path) (is_under child.path app.leaf) g in
          let under = under_parent q.path child.path app.leaf (both.0) (under_is child.path app.leaf (both.1)) in
          let yes : is_under q.path app.leaf ≡ true = is_under_it q.path app.leaf (inr under) in
          absurd (cc (yes, e)))
          (λ g. absurd (cc g))

      through : IsUnder q.path app.leaf → count_by (leads q.path app.leaf) cluster.settings.queues ≡ 1
      through (inl e) = let no : has_children cluster q.path ≡ false = ap (has_children cluster) (sym e) ∙ l.childless in absurd (cc (no, h))
      through (inr (rest, e)) =
          (λ i. count_by (leads q.path (e i)) cluster.settings.queues)
          ∙ (λ i. count_by (λ child. leads_at q.path rest child i) cluster.settings.queues)
          ∙ counted_once (child_to q.path rest) cluster.settings.queues w.tree.distinct (on_the_way q.path rest app.leaf e l)

      by : ((is_under q.path app.leaf ≡ true) ⊎ (is_under q.path app.leaf ≡ false)) → IsInOneChild cluster q.path app
      by (inl e) = through (under_is q.path app.leaf e) ∙ sym (ap (λ b. if b then 1 else 0) e)
      by (inr e) =
          (λ i. count_by (λ child. none_leads e child i) cluster.settings.queues)
          ∙ sum_of_zeros (λ (child : QueueRow). cond false 1 0) cluster.settings.queues (λ child m. refl)
          ∙ sym (ap (λ b. if b then 1 else 0) e)

  pub adds_up : (q : QueueRow) → IsSumOfChildren cluster q
  adds_up q h =
      parent_uses_children K cluster q
      (λ n app e. in_one_child q h app (each_of (λ (a : App). IsLeaf cluster a.leaf) cluster.apps.active w.leaves app (found (λ (a : App). a.number == n) cluster.apps.active app e).0)) h

pub trees_add_up : TreesAddUp
trees_add_up K cluster w = of_each (IsSumOfChildren cluster) cluster.settings.queues (λ q m. adds_up cluster w q)
