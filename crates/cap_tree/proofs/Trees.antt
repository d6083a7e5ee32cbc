-- The spots of a tree: where they are those of a tree still, and what an item's children are.
use Rattle.cap_tree.proofs.Prelude.{◌≡◌, ℕ, ◌<◌, ◌≤◌, List, [], ◌∷◌, length, get_or, set, map, sym, ◌∙◌, subst, ap, arith, inl, inr, All, cases_eq, get_or-set_same, get_or-set_other, length-set, Spot, change_along, spots, AreSpots, of_tree}
use Rattle.cap_tree.proofs.Spots.{change-spots, change-spots_root}

module _ {T : Type 0} (name : T → List ℕ) where
  pub tree_filled : {ss : List (Spot T)} → AreSpots name ss → 1 ≤ length ss
  tree_filled (of_tree item kids each) = omega arith

  pub trees_filled : (kids : List (List (Spot T))) → All (AreSpots name) kids → All (λ kid. 1 ≤ length kid) kids
  trees_filled kids all k d lt = tree_filled (all k d lt)

  pub tree_of : (item : T) (kids : List (List (Spot T))) → All (AreSpots name) kids → AreSpots name (spots name item kids)
  tree_of item kids all = of_tree item kids (λ i lt. all i [] lt)

-- they are those of a tree after a change that keeps the name
module _ {T : Type 0} (f g : T → T) (name : T → List ℕ) (above : (x : T) → name (f x) ≡ name x) (at : (x : T) → name (g x) ≡ name x) where
  pub tree_changed : {ss : List (Spot T)} → AreSpots name ss → (steps : List ℕ) → AreSpots name (map (change_along f g steps) ss)
  tree_changed (of_tree item kids each) [] = subst (AreSpots name) (change-spots_root f g name item kids (at item)) (of_tree (g item) kids each)
  tree_changed (of_tree item kids each) (n ∷ steps) =
      let kid = map (change_along f g steps) (get_or kids n []) in
      subst (AreSpots name) (change-spots f g name item n steps kids [] (above item))
      (of_tree (f item) (set kids n kid) (λ i lt.
      let l : i < length kids = (let m = length-set kids n kid in omega (arith, lt, m)) in
      elim (cases_eq i n) [
        | inl same ↦
            let here : get_or (set kids n kid) i [] ≡ map (change_along f g steps) (get_or kids i []) =
            ap (λ k. get_or (set kids n kid) k []) same ∙ get_or-set_same kids n kid [] (subst (λ k. k < length kids) same l) ∙ ap (λ k. map (change_along f g steps) (get_or kids k [])) (sym same) in
            subst (AreSpots name) (sym here) (tree_changed (each i l) steps)
        | inr other ↦ subst (AreSpots name) (sym (get_or-set_other kids n i kid [] other)) (each i l)
      ]))
