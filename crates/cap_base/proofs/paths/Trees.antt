-- Whether queues are a tree is told by the test.
use Rattle.cap_base.proofs.Prelude.{◌≡◌, ℕ, Bool, true, false, List, [], ◌∷◌, ◌++◌, refl, sym, ◌∙◌, ap, subst, inl, inr, arith, IsSome, is_some, cond, not, ◌==◌, find, map, bytes_eq, list_any, list_all, nat_tests, QueueRow, HasDistinctPaths, IsTree, fronts, has_distinct_paths, is_tree, TreesAreTested, and_parts, and_from, not-true}
use Rattle.cap_base.proofs.lists.Members.{IsIn, each_of, of_each, of_map, in_map, all_in}

distinct_is : (queues : List QueueRow) → has_distinct_paths queues ≡ true → HasDistinctPaths queues
distinct_is [] h = tt
distinct_is (q ∷ queues) h =
    let both = and_parts (not (list_any (λ (r : QueueRow). bytes_eq r.path q.path) queues)) (has_distinct_paths queues) h in
    (not-true (list_any (λ (r : QueueRow). bytes_eq r.path q.path) queues) (both.0), distinct_is queues (both.1))

is_distinct : (queues : List QueueRow) → HasDistinctPaths queues → has_distinct_paths queues ≡ true
is_distinct [] d = refl
is_distinct (q ∷ queues) d = and_from (not (list_any (λ (r : QueueRow). bytes_eq r.path q.path) queues)) (has_distinct_paths queues) (ap not d.0) (is_distinct queues d.1)

-- the beginnings are those that stand before a dot
in_longer : (b : ℕ) (front path : List ℕ) (dot : Bool) → IsIn front (map (λ x. b ∷ x) (fronts path)) → IsIn front (cond dot ([] ∷ map (λ x. b ∷ x) (fronts path)) (map (λ x. b ∷ x) (fronts path)))
in_longer b front path true m = inr m
in_longer b front path false m = m

is_front : (front rest : List ℕ) → IsIn front (fronts (front ++ 46 ∷ rest))
is_front [] rest = inl refl
is_front (b ∷ front) rest = in_longer b (b ∷ front) (front ++ 46 ∷ rest) (b == 46) (in_map (λ x. b ∷ x) (fronts (front ++ 46 ∷ rest)) front (is_front front rest))

front_is : (path front : List ℕ) → IsIn front (fronts path) → (rest : List ℕ) × (path ≡ front ++ 46 ∷ rest)
front_is [] front m = absurd m
front_is (b ∷ path) front m = by (b == 46) refl (front_is path) m
  where
    longer : ((x : List ℕ) → IsIn x (fronts path) → (rest : List ℕ) × (path ≡ x ++ 46 ∷ rest)) → IsIn front (map (λ x. b ∷ x) (fronts path)) → (rest : List ℕ) × (b ∷ path ≡ front ++ 46 ∷ rest)
    longer f g =
        let w = of_map (λ x. b ∷ x) (fronts path) front g in
        let r = f (w.0) (w.1) in
        (r.0, ap (λ x. b ∷ x) (r.1) ∙ ap (λ x. x ++ 46 ∷ (r.0)) (w.2))

    by : (dot : Bool) → b == 46 ≡ dot → ((x : List ℕ) → IsIn x (fronts path) → (rest : List ℕ) × (path ≡ x ++ 46 ∷ rest)) →
        IsIn front (cond dot ([] ∷ map (λ x. b ∷ x) (fronts path)) (map (λ x. b ∷ x) (fronts path))) → (rest : List ℕ) × (b ∷ path ≡ front ++ 46 ∷ rest)
    by true e f (inl g) =
        let same : b ≡ 46 = grind (arith, nat_tests, e) in
        (path, ap (λ x. x ∷ path) same ∙ ap (λ x. x ++ 46 ∷ path) g)
    by true e f (inr g) = longer f g
    by false e f g = longer f g

all_of : {A : Type 0} (t : A → Bool) (xs : List A) → ((x : A) → IsIn x xs → t x ≡ true) → list_all t xs ≡ true
all_of t [] f = refl
all_of t (x ∷ xs) f = and_from (t x) (list_all t xs) (f x (inl refl)) (all_of t xs (λ y m. f y (inr m)))

module _ (queues : List QueueRow) where
  abbrev is_there : List ℕ → Bool
  is_there front = is_some (find (λ r. bytes_eq r.path front) queues)

  abbrev has_above : QueueRow → Bool
  has_above q = list_all is_there (fronts q.path)

  abbrev HasAbove : QueueRow → Type 0
  HasAbove q = (front rest : List ℕ) → q.path ≡ front ++ 46 ∷ rest → IsSome (find (λ r. bytes_eq r.path front) queues)

  tree_is : is_tree queues ≡ true → IsTree queues
  tree_is h =
      let both = and_parts (has_distinct_paths queues) (list_all has_above queues) h in
      record {
        distinct = distinct_is queues (both.0);
        above = of_each HasAbove queues
            (λ q m front rest e. all_in is_there (fronts q.path) front (all_in has_above queues q (both.1) m) (subst (λ p. IsIn front (fronts p)) (sym e) (is_front front rest)));
      }

  is_tree_it : IsTree queues → is_tree queues ≡ true
  is_tree_it t =
      and_from (has_distinct_paths queues) (list_all has_above queues) (is_distinct queues t.distinct)
      (all_of has_above queues (λ q m. all_of is_there (fronts q.path) (λ front g. let r = front_is q.path front g in each_of HasAbove queues t.above q m front (r.0) (r.1))))

pub trees_are_tested : TreesAreTested
trees_are_tested queues = (tree_is queues, is_tree_it queues)
