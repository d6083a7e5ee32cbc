-- The present nodes by number, as one more comes, one changes and one goes.
use Rattle.cap_nodes.proofs.Prelude.{◌≡◌, ℕ, ◌+◌, ◌<◌, List, [], ◌∷◌, ◌++◌, length, map, not, refl, sym, ◌∙◌, arith, subst, inl, inr, zero, suc, Option, Some, None, filter, ◌==◌, nat_eq, IfSome, IsSome, same_Some, lookup, remove_entry, set_value, values_of, IsRising, nodes_max, IsIn, found_by_number, ClusterNode, Fits, Load, AreBothTexts, ArePlaces, AreWithin, HasNodeLess, HasNodeMore, IsNumbered, Places, load_at, change_load, beaten_load}
use Rattle.std.proofs.Common.{slice_get}
use Rattle.cap_nodes.proofs.PlaceCounts.{places_pushed, places_removed, places_stay}
use Rattle.cap_nodes.proofs.Ties.{all_each, all_kept, all_mapped, all_pushed}
use Rattle.cap_nodes.proofs.ByNumber as by_number
use Rattle.cap_nodes.proofs.ByNumber.{found_by_hash}
use Rattle.cap_nodes.proofs.Numbered.{same_number}

abbrev pub IsPresent : List (ℕ × Load) → ℕ → Type 0
IsPresent entries next = IsNumbered (λ (p : Load). p.node.number) nodes_max entries next

-- the table with the hosts and racks of the nodes, and amounts of which none has more
abbrev pub IsTable : List (ℕ × Load) → ℕ → Places → List ℕ → Type 0
IsTable entries next places greatest = IsPresent entries next × ArePlaces places (values_of entries) × AreWithin greatest (values_of entries)

-- entries that are some loads by number
pub record Are (entries : List (ℕ × Load)) (places : Places) (greatest : List ℕ) (ps : List Load) (next : ℕ) : Type 0 where
  pub values : values_of entries ≡ ps
  pub table : IsTable entries next places greatest

with_places : (entries : List (ℕ × Load)) (places : Places) (greatest : List ℕ) (ps : List Load) (next : ℕ) → by_number.Are (λ (p : Load). p.node.number) nodes_max entries ps next → ArePlaces places ps → AreWithin greatest ps →
    Are entries places greatest ps next
with_places entries places greatest ps next are there within = record {
  values = are.values;
  table = (are.numbered, subst (ArePlaces places) (sym are.values) there, subst (AreWithin greatest) (sym are.values) within);
}

pub there : (entries : List (ℕ × Load)) (next n : ℕ) (p : Load) → IsPresent entries next → Some p ≡ lookup (nat_eq n) entries → load_at (values_of entries) n ≡ Some p
there entries next n p h at = sym (at ∙ found_by_hash h n)

-- the load at an index is the one of its number
read_in : {A : Type 0} (xs : List A) (i : ℕ) (x : A) → slice_get xs i ≡ Some x → IsIn x xs
read_in [] i x e = absurd (cc e)
read_in (y ∷ ys) zero x e = inl (cc e)
read_in (y ∷ ys) (suc i) x e = inr (read_in ys i x e)

pub nth_found : (loads : List Load) (next i : ℕ) (p : Load) → IsRising 1 (map (λ q. q.node.number) loads) next → slice_get loads i ≡ Some p → load_at loads p.node.number ≡ Some p
nth_found loads next i p rising at = found_by_number (λ (q : Load). q.node.number) 1 loads next p rising (read_in loads i p at)

-- a node of the same number, host, rack and total
pub record IsSameNode (old new : ClusterNode) : Type 0 where
  pub number : new.number ≡ old.number
  pub host : new.host ≡ old.host
  pub rack : new.rack ≡ old.rack
  pub total : new.total ≡ old.total

pub same_node : (node : ClusterNode) → IsSameNode node node
same_node node = record { number = refl; host = refl; rack = refl; total = refl }

pub same_beaten : (ignored : ℕ) (p : Load) → IsSameNode p.node (beaten_load ignored p).node
same_beaten ignored p = record { number = refl; host = refl; rack = refl; total = refl }

module _ (old new : List (ℕ × Load)) (next : ℕ) (places : Places) (greatest : List ℕ) (h : IsTable old next places greatest) where
  module _ (p : Load) (host rack : List ℕ) (here : p.node.host ≡ host) (there_too : p.node.rack ≡ rack) (both : AreBothTexts host rack) where
    pub removed : (n : ℕ) (left : Places) → Some p ≡ lookup (nat_eq n) old → HasNodeLess host rack places left → new ≡ remove_entry (nat_eq n) old → Are new left greatest (filter (λ q. not (q.node.number == n)) (values_of old)) next
    removed n left at has e =
        with_places new left greatest (filter (λ q. not (q.node.number == n)) (values_of old)) next (by_number.removed h.0 (nat_eq n) n (same_number n) new e)
        (places_removed p host rack here there_too both next n (values_of old) h.0.rising (there old next n p h.0 at) places left h.1 has)
        (all_kept (λ (q : Load). Fits q.node.total greatest) (λ q. Fits q.node.total greatest) (λ q. not (q.node.number == n)) (values_of old) (λ q low _. low) h.2)

    pub pushed : (more : Places) (high : List ℕ) → length (values_of old) < nodes_max → p.node.number ≡ next → HasNodeMore host rack places more → Fits greatest high → Fits p.node.total high → new ≡ old ++ (next, p) ∷ [] →
        Are new more high (values_of old ++ p ∷ []) (next + 1)
    pushed more high few last has up its e =
        with_places new more high (values_of old ++ p ∷ []) (next + 1) (by_number.pushed h.0 new p few last e) (places_pushed p host rack here there_too both places more (values_of old) h.1 has)
        (all_pushed (λ (q : Load). Fits q.node.total high) (values_of old) p (all_each (λ (q : Load). Fits q.node.total greatest) (λ q. Fits q.node.total high) (values_of old) (λ q low k. let x = low k in let y = up k in omega (arith, x, y)) h.2) its)

  pub changed : (n : ℕ) (change : Load → Load) → ((p : Load) → IsSameNode p.node (change p).node) → (p w : Load) → Some p ≡ lookup (nat_eq n) old → w ≡ change p → new ≡ set_value (nat_eq n) old w →
      Are new places greatest (change_load n change (values_of old)) next
  changed n change keeps p w at is e =
      with_places new places greatest (change_load n change (values_of old)) next (by_number.changed h.0 change (λ q. (keeps q).number) n new p w at is e)
      (places_stay places n change (λ q. (keeps q).host) (λ q. (keeps q).rack) (values_of old) h.1)
      (all_mapped (λ (q : Load). Fits q.node.total greatest) (λ q. Fits q.node.total greatest) n change (values_of old) (λ q low. subst (λ v. Fits v greatest) (sym (keeps q).total) low) (λ q low. low) h.2)

pub not_none : {X : Type 0} (o : Option X) → o ≡ None → IsSome o → ⊥
not_none (Some p) e h = absurd (cc e)
not_none None e h = absurd (cc h)

pub no_load_at : (entries : List (ℕ × Load)) (next n : ℕ) → IsPresent entries next → None ≡ lookup (nat_eq n) entries → IsSome (load_at (values_of entries) n) → ⊥
no_load_at entries next n h none = not_none (load_at (values_of entries) n) (sym (none ∙ found_by_hash h n))

pub of_found : (P : Load → Type 0) (o : Option Load) (p : Load) → o ≡ Some p → IfSome o P → P p
of_found P (Some q) p e h = subst P (same_Some q p e) h
of_found P None p e h = absurd (cc e)

pub if_found : (P : Load → Type 0) (o : Option Load) (p : Load) → o ≡ Some p → P p → IfSome o P
if_found P (Some q) p e h = subst P (sym (same_Some q p e)) h
if_found P None p e h = absurd (cc e)

pub if_none : (P : Load → Type 0) (o : Option Load) → None ≡ o → IfSome o P
if_none P None e = tt
if_none P (Some q) e = absurd (cc e)

pub if_any : (P : Load → Type 0) (o : Option Load) → ((p : Load) → P p) → IfSome o P
if_any P None all = tt
if_any P (Some q) all = all q
