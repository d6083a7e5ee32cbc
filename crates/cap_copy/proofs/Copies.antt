-- What is at a position in a copy of a tree, and on the way to it.
use Rattle.cap_copy.proofs.Prelude.{Option, Some, None, bytes_eq, option_map, ◌≡◌, ℕ, Bool, true, false, cond, List, [], ◌∷◌, refl, sym, ◌∙◌, ap, subst, map, in_map, HasPathsOnce, items_along, Spot, HoldsOfItem, IsPosition, along, change_along, first_failing, item_at, leads_to, made_of}
use Rattle.cap_tree.proofs.Looking.{failing-cons, level_from}

module _ {T U : Type 0} (f : T → U) where
  pub item_at-made : (p : List ℕ) (ss : List (Spot T)) → item_at p (map (made_of f) ss) ≡ option_map f (item_at p ss)
  item_at-made p [] = refl
  item_at-made p (s ∷ ss) = by (bytes_eq s.position p) (item_at-made p ss)
    where
      by : (b : Bool) → item_at p (map (made_of f) ss) ≡ option_map f (item_at p ss) → cond b (Some (f s.item)) (item_at p (map (made_of f) ss)) ≡ option_map f (cond b (Some s.item) (item_at p ss))
      by true e = refl
      by false e = e

  pub position-made : (p : List ℕ) (ss : List (Spot T)) → IsPosition (map (made_of f) ss) p → IsPosition ss p
  position-made p ss h = by (item_at p ss) (subst (HoldsOfItem (λ _. Unit {0})) (item_at-made p ss) h)
    where
      by : (o : Option T) → HoldsOfItem (λ _. Unit {0}) (option_map f o) → HoldsOfItem (λ _. Unit {0}) o
      by None h = h
      by (Some x) h = h

  pub made-position : (p : List ℕ) (ss : List (Spot T)) → IsPosition ss p → IsPosition (map (made_of f) ss) p
  made-position p ss h = subst (HoldsOfItem (λ _. Unit {0})) (sym (item_at-made p ss)) (by (item_at p ss) h)
    where
      by : (o : Option T) → HoldsOfItem (λ _. Unit {0}) o → HoldsOfItem (λ _. Unit {0}) (option_map f o)
      by None h = h
      by (Some x) h = h

  pub once-made : (ss : List (Spot T)) → HasPathsOnce (map (made_of f) ss) → HasPathsOnce ss
  once-made ss once s t m n e = once (made_of f s) (made_of f t) (in_map (made_of f) ss s m) (in_map (made_of f) ss t n) e

  along-made : (p : List ℕ) (ss : List (Spot T)) → along p (map (made_of f) ss) ≡ map (made_of f) (along p ss)
  along-made p [] = refl
  along-made p (s ∷ ss) = by (leads_to s.position p) (along-made p ss)
    where
      by : (b : Bool) → along p (map (made_of f) ss) ≡ map (made_of f) (along p ss) → cond b (made_of f s ∷ along p (map (made_of f) ss)) (along p (map (made_of f) ss)) ≡ map (made_of f) (cond b (s ∷ along p ss) (along p ss))
      by true e = ap (λ t. made_of f s ∷ t) e
      by false e = e

  items-made : (ss : List (Spot T)) → map (λ s. s.item) (map (made_of f) ss) ≡ map f (map (λ s. s.item) ss)
  items-made [] = refl
  items-made (s ∷ ss) = ap (λ t. f s.item ∷ t) (items-made ss)

  pub items_along-made : (p : List ℕ) (ss : List (Spot T)) → items_along p (map (made_of f) ss) ≡ map f (items_along p ss)
  items_along-made p ss = ap (map (λ s. s.item)) (along-made p ss) ∙ items-made (along p ss)

  failing-made : (test : U → Bool) (ss : List (Spot T)) → first_failing test (map (made_of f) ss) ≡ first_failing (λ x. test (f x)) ss
  failing-made test [] = refl
  failing-made test (s ∷ ss) =
      failing-cons test (made_of f s) (map (made_of f) ss) ∙ ap (level_from test (test (f s.item))) (failing-made test ss) ∙ sym (failing-cons (λ x. test (f x)) s ss)

  pub failing_along-made : (test : U → Bool) (p : List ℕ) (ss : List (Spot T)) → first_failing test (along p (map (made_of f) ss)) ≡ first_failing (λ x. test (f x)) (along p ss)
  failing_along-made test p ss = ap (first_failing test) (along-made p ss) ∙ failing-made test (along p ss)

  -- changes that copies do not show
  pub change-made : (above at : T → T) → ((x : T) → f (above x) ≡ f x) → ((x : T) → f (at x) ≡ f x) → (p : List ℕ) (ss : List (Spot T)) → map (made_of f) (map (change_along above at p) ss) ≡ map (made_of f) ss
  change-made above at a b p [] = refl
  change-made above at a b p (s ∷ ss) = λ k. by (bytes_eq s.position p) (leads_to s.position p) k ∷ change-made above at a b p ss k
    where
      by : (c d : Bool) → made_of f (cond c (record s { item = at s.item }) (cond d (record s { item = above s.item }) s)) ≡ made_of f s
      by true d = λ k. record { position = s.position; path = s.path; item = b s.item k }
      by false true = λ k. record { position = s.position; path = s.path; item = a s.item k }
      by false false = refl

  -- copies of copies that are as before
  pub made-back : (g : U → T) → ((x : T) → g (f x) ≡ x) → (ss : List (Spot T)) → map (made_of g) (map (made_of f) ss) ≡ ss
  made-back g e [] = refl
  made-back g e (s ∷ ss) = λ k. record { position = s.position; path = s.path; item = e s.item k } ∷ made-back g e ss k
