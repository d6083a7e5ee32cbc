-- In a list of queues from the root each queue stands before those under it.
use Rattle.cap_base.proofs.Prelude.{◌≡◌, ℕ, ◌+◌, true, false, List, [], ◌∷◌, ◌++◌, append_assoc, refl, sym, ◌∙◌, ap, subst, inl, inr, arith, ◌⊎◌, bytes_eq, list_any, bytes_eq-Decides, QueueRow, is_under, is_child_of, name_of, root_path, HasDistinctPaths, StandBelow, depth, IsListed, IsListedFromRoot, ListingsStandBelow, or_from, cases_Bool}
use Rattle.cap_base.proofs.lists.Tests.{or_left, or_right}
use Rattle.cap_base.proofs.paths.Paths.{IsUnder, under_is, name_has_none}
use Rattle.cap_base.proofs.paths.Levels.{below_is_deeper, comparable, no_levels}

-- what is under a queue that is under another is under the other
under_both : (a b c : List ℕ) → IsUnder a b → IsUnder b c → IsUnder a c
under_both a b c (inl e) u = subst (λ p. IsUnder p c) e u
under_both a b c (inr (rest, e)) (inl f) = inr (rest, f ∙ e)
under_both a b c (inr (rest, e)) (inr (more, f)) = inr (rest ++ 46 ∷ more, f ∙ ap (λ p. p ++ 46 ∷ more) e ∙ append_assoc a (46 ∷ rest) (46 ∷ more))

module _ (parent path : List ℕ) (child : is_child_of parent path ≡ true) where
  whole : path ≡ parent ++ 46 ∷ name_of path
  whole = (bytes_eq-Decides path (parent ++ 46 ∷ name_of path)).0 child

  next_level : depth path ≡ depth parent + 1
  next_level =
      let below = below_is_deeper parent (name_of path) in
      let none = no_levels (name_of path) (name_has_none path) in
      let same : depth path ≡ depth (parent ++ 46 ∷ name_of path) = ap depth whole in
      omega (arith, below, none, same)

  -- a queue above a child is above its parent, or is the parent
  above_parent : (x rest : List ℕ) → path ≡ x ++ 46 ∷ rest → IsUnder x parent
  above_parent x rest e = by (comparable x parent path (inr (rest, e)) (inr (name_of path, whole)))
    where
      by : IsUnder x parent ⊎ IsUnder parent x → IsUnder x parent
      by (inl u) = u
      by (inr (inl same)) = inl (sym same)
      by (inr (inr (more, f))) =
          let up : depth path ≡ depth (x ++ 46 ∷ rest) = ap depth e in
          let down : depth x ≡ depth (parent ++ 46 ∷ more) = ap depth f in
          absurd (omega (arith, next_level, up, down, below_is_deeper x rest, below_is_deeper parent more))

-- a list without the path of any queue that a path is under has no queue above the path
none_above : (path : List ℕ) (qs : List QueueRow) → ((x : List ℕ) → IsUnder x path → list_any (λ (r : QueueRow). bytes_eq r.path x) qs ≡ false) → list_any (λ (r : QueueRow). is_under r.path path) qs ≡ false
none_above path [] f = refl
none_above path (r ∷ rs) f =
    or_from (is_under r.path path) (list_any (λ (s : QueueRow). is_under s.path path) rs) (by (cases_Bool (is_under r.path path)))
    (none_above path rs (λ x u. or_right (bytes_eq r.path x) (list_any (λ (s : QueueRow). bytes_eq s.path x) rs) (f x u)))
  where
    by : ((is_under r.path path ≡ true) ⊎ (is_under r.path path ≡ false)) → is_under r.path path ≡ false
    by (inl u) =
        let away = or_left (bytes_eq r.path r.path) (list_any (λ (s : QueueRow). bytes_eq s.path r.path) rs) (f r.path (under_is r.path path u)) in
        let here = (bytes_eq-Decides r.path r.path).1 refl in
        absurd (cc (away, here))
    by (inr e) = e

-- queues listed after a path stand before those under them, where no queue that the path is under comes again
listed_stand : (before : List ℕ) (qs : List QueueRow) → IsListed before qs → HasDistinctPaths qs → ((x : List ℕ) → IsUnder x before → list_any (λ (r : QueueRow). bytes_eq r.path x) qs ≡ false) → StandBelow qs
listed_stand before [] l d f = tt
listed_stand before (q ∷ qs) l d f = (none_above q.path qs gone, listed_stand q.path qs l.1 d.1 gone)
  where
    gone : (x : List ℕ) → IsUnder x q.path → list_any (λ (r : QueueRow). bytes_eq r.path x) qs ≡ false
    gone x (inl e) = subst (λ p. list_any (λ (r : QueueRow). bytes_eq r.path p) qs ≡ false) e d.0
    gone x (inr (rest, e)) =
        let follows = l.0 in
        let up = under_both x follows.parent before (above_parent follows.parent q.path follows.child x rest e) (under_is follows.parent before follows.above) in
        or_right (bytes_eq q.path x) (list_any (λ (r : QueueRow). bytes_eq r.path x) qs) (f x up)

pub listings_stand_below : ListingsStandBelow
listings_stand_below queues l = by queues l.listed l.tree.distinct
  where
    by : (qs : List QueueRow) → IsListedFromRoot qs → HasDistinctPaths qs → StandBelow qs
    by [] l d = absurd l
    by (q ∷ qs) l d = (none_above q.path qs (λ x u. gone x (subst (λ p. IsUnder x p) l.0 u)), listed_stand root_path qs l.1 d.1 gone)
      where
        gone : (x : List ℕ) → IsUnder x root_path → list_any (λ (r : QueueRow). bytes_eq r.path x) qs ≡ false
        gone x (inl e) = subst (λ p. list_any (λ (r : QueueRow). bytes_eq r.path p) qs ≡ false) (l.0 ∙ e) d.0
        gone x (inr (rest, e)) =
            let up : depth root_path ≡ depth (x ++ 46 ∷ rest) = ap depth e in
            let none : depth root_path ≡ 0 = refl in
            absurd (omega (arith, up, none, below_is_deeper x rest))
