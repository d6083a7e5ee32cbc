-- Reservations stay on different nodes, each on one that is present and has as much in all.
use Rattle.cap_laws.proofs.Prelude.{◌≡◌, ℕ, zero, suc, Bool, true, false, List, [], ◌∷◌, ◌++◌, Some, None, refl, sym, ◌∙◌, ap, subst, inl, inr, arith, Option, IsSome, Result, Ok, Err, IfOk, OnErr, ◌==◌, find, filter, map, not, option_map, if◌then◌else◌, remove, nat_tests, NoMemory, holds_of, fits, ClusterNode, NodeTable, Reservation, change_node, AreApart, add_node, new_node, remove_node, IsIn, each_of, of_each, in_filter, find_changed, find_others, find_with_more, kept_if, AreReserved, fits_its_node}
use Rattle.cap_laws.proofs.lists.Parts.{IsPart, part_in, part_itself}
use Rattle.cap_laws.proofs.bounds.CallBounds.{apart_part}

-- nothing is reserved
pub none_reserved_yet : (present : List ClusterNode) (rs : List Reservation) → rs ≡ [] → AreReserved present rs
none_reserved_yet present rs e = record {
  apart = subst AreApart (sym e) tt;
  fit = of_each (λ r. fits_its_node present r ≡ true) rs (λ r m. absurd (subst (IsIn r) e m));
}

-- some of them
pub part_reserved : (present : List ClusterNode) (rs ss : List Reservation) → IsPart rs ss → AreReserved present rs → AreReserved present ss
part_reserved present rs ss p a = record {
  apart = apart_part rs ss p a.apart;
  fit = of_each (λ r. fits_its_node present r ≡ true) ss (λ r m. each_of (λ x. fits_its_node present x ≡ true) rs a.fit r (part_in rs ss r p m));
}

pub part_removed : (rs : List Reservation) (i : ℕ) → IsPart rs (remove rs i)
part_removed [] zero = refl
part_removed [] (suc i) = refl
part_removed (r ∷ rs) zero = inl (part_itself rs)
part_removed (r ∷ rs) (suc i) = inr (remove rs i, refl, part_removed rs i)

-- the total of a node
abbrev total_in : Option ClusterNode → Option (List ℕ)
total_in o = option_map (λ node. node.total) o

by_total : (r : Reservation) (o p : Option ClusterNode) → total_in o ≡ total_in p → holds_of (λ (node : ClusterNode). fits r.resource node.total) p ≡ true → holds_of (λ (node : ClusterNode). fits r.resource node.total) o ≡ true
by_total r o p e h = at o ∙ ap (holds_of (fits r.resource)) e ∙ sym (at p) ∙ h
  where
    at : (q : Option ClusterNode) → holds_of (λ (node : ClusterNode). fits r.resource node.total) q ≡ holds_of (fits r.resource) (total_in q)
    at None = refl
    at (Some x) = refl

pub its_node_there : (present : List ClusterNode) (r : Reservation) → fits_its_node present r ≡ true → IsSome (find (λ node. node.number == r.node) present)
its_node_there present r h = by (find (λ (node : ClusterNode). node.number == r.node) present) h
  where
    by : (o : Option ClusterNode) → holds_of (λ (node : ClusterNode). fits r.resource node.total) o ≡ true → IsSome o
    by None g = absurd (cc g)
    by (Some x) g = refl

-- nodes that stay with their totals
reserved_there : (present after : List ClusterNode) (rs : List Reservation) →
    ((r : Reservation) → IsIn r rs → fits_its_node present r ≡ true → total_in (find (λ node. node.number == r.node) after) ≡ total_in (find (λ node. node.number == r.node) present)) →
    AreReserved present rs → AreReserved after rs
reserved_there present after rs f a = record {
  apart = a.apart;
  fit = of_each (λ r. fits_its_node after r ≡ true) rs
      (λ r m.
      let h = each_of (λ x. fits_its_node present x ≡ true) rs a.fit r m in
      by_total r (find (λ (node : ClusterNode). node.number == r.node) after) (find (λ (node : ClusterNode). node.number == r.node) present) (f r m h) h);
}

-- one more node
pub reserved_joined : (result : Result ℕ NoMemory) (old new : NodeTable) (host rack total : List ℕ) (P : ℕ → Type 0) → IfOk result (λ n. P n × (new ≡ add_node host rack total old)) → OnErr result (new ≡ old) →
    AreReserved old.present old.reserved → AreReserved new.present new.reserved
reserved_joined (Ok n) old new host rack total P a b h =
    subst (λ (t : NodeTable). AreReserved t.present t.reserved) (sym a.1)
    (reserved_there old.present (old.present ++ new_node old.next_node host rack total ∷ []) old.reserved
    (λ r m f. ap total_in (find_with_more (λ (x : ClusterNode). x.number) r.node old.present (new_node old.next_node host rack total ∷ []) (its_node_there old.present r f))) h)
reserved_joined (Err x) old new host rack total P a b h = subst (λ (t : NodeTable). AreReserved t.present t.reserved) (sym b) h

-- a change of a node that keeps its number and its total
pub reserved_changed : (n : ℕ) (f : ClusterNode → ClusterNode) → ((x : ClusterNode) → (f x).number ≡ x.number) → ((x : ClusterNode) → (f x).total ≡ x.total) → (old new : NodeTable) → new ≡ change_node n f old →
    AreReserved old.present old.reserved → AreReserved new.present new.reserved
reserved_changed n f number total old new e h =
    subst (λ (t : NodeTable). AreReserved t.present t.reserved) (sym e)
    (reserved_there old.present (map g old.present) old.reserved
    (λ r m x. ap total_in (find_changed (λ (y : ClusterNode). y.number) g (λ y. kept_if (y.number == n) (λ (z : ClusterNode). z.number) (f y) y (number y)) r.node old.present) ∙ same (find (λ (y : ClusterNode). y.number == r.node) old.present)) h)
  where
    g : ClusterNode → ClusterNode
    g node = if node.number == n then f node else node

    same : (o : Option ClusterNode) → total_in (option_map g o) ≡ total_in o
    same None = refl
    same (Some y) = ap (λ v. Some v) (kept_if (y.number == n) (λ (z : ClusterNode). z.total) (f y) y (total y))

-- a node on which nothing is reserved goes
pub reserved_gone : (n : ℕ) (old new : NodeTable) → filter (λ r. r.node == n) old.reserved ≡ [] → new ≡ remove_node n old → AreReserved old.present old.reserved → AreReserved new.present new.reserved
reserved_gone n old new none e h =
    subst (λ (t : NodeTable). AreReserved t.present t.reserved) (sym e)
    (reserved_there old.present (filter (λ (x : ClusterNode). not (x.number == n)) old.present) old.reserved
    (λ r m f. ap total_in (find_others (λ (x : ClusterNode). x.number) n r.node (away r m) old.present)) h)
  where
    away : (r : Reservation) → IsIn r old.reserved → n == r.node ≡ false
    away r m = by (r.node == n) refl
      where
        by : (b : Bool) → r.node == n ≡ b → n == r.node ≡ false
        by false g = grind (arith, nat_tests, g)
        by true g = absurd (subst (IsIn r) none (in_filter (λ (x : Reservation). x.node == n) old.reserved r m g))
