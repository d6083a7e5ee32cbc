-- One child of an item is changed: the others stay as they were, and the children differ from each other as before.
use Rattle.cap_tree.proofs.Prelude.{◌≡◌, ℕ, ◌∙◌, Bool, List, [], ap, get_or-set_other, length, length-set, map, set, subst, sym, All, All-set, AreSpots, AreApart, HasOrderOfOthers, HasPathsOnce, IsOrderOf, IsTotalOrder, Ordering, Equal, Spot, change_along, item_at, kid_items, of_map, option_filter, spots, that_pass}
use Rattle.cap_tree.proofs.Orders.{kids_differ}
use Rattle.cap_tree.proofs.RowPaths.{path_kept, position_kept}

-- no path is at two positions after a change of items alone
once_changed : {T : Type 0} (above at : T → T) (steps : List ℕ) (ss : List (Spot T)) → HasPathsOnce ss → HasPathsOnce (map (change_along above at steps) ss)
once_changed above at steps ss once s t m n e =
    let v = of_map (change_along above at steps) ss s m in
    let w = of_map (change_along above at steps) ss t n in
    let same = sym (path_kept above at steps v.0) ∙ ap (λ r. r.path) v.2 ∙ e ∙ sym (ap (λ r. r.path) w.2) ∙ path_kept above at steps w.0 in
    sym (ap (λ r. r.position) v.2) ∙ position_kept above at steps v.0 ∙ once v.0 w.0 v.1 w.1 same ∙ sym (position_kept above at steps w.0) ∙ ap (λ r. r.position) w.2

module _ {T : Type 0} (name : T → List ℕ) (kids : List (List (Spot T))) (i : ℕ) (kid : List (Spot T)) where
  pub still_differ : (order : T → T → Ordering) → IsTotalOrder order → ((x y : T) → order x y ≡ Equal → name x ≡ name y) → (item : T) (above at : T → T) (steps : List ℕ) (value : List (Spot T)) →
      spots name item (set kids i kid) ≡ map (change_along above at steps) value → HasPathsOnce value → All (AreSpots name) kids → AreSpots name kid → AreApart order (kid_items (set kids i kid))
  still_differ order total names item above at steps value e once trees tree =
      kids_differ name item (set kids i kid) (map (change_along above at steps) value) e order total names (All-set (AreSpots name) kids i kid tree trees) (once_changed above at steps value once)

  pub others_stay : (order : T → T → Ordering) (test : T → Bool) (is : List ℕ) → IsOrderOf order (that_pass test (kid_items kids)) (length kids) is →
      HasOrderOfOthers order (that_pass test (kid_items (set kids i kid))) (length (set kids i kid)) i is
  others_stay order test is was = record {
    before = that_pass test (kid_items kids);
    was = subst (λ n. IsOrderOf order (that_pass test (kid_items kids)) n is) (sym (length-set kids i kid)) was;
    same = λ j not. ap (λ k. option_filter test (item_at [] k)) (sym (get_or-set_other kids i j kid [] not));
  }
