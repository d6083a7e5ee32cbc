-- One step of a loop over applications, asks or nodes.
use Rattle.cap_copy.proofs.Prelude.{◌≡◌, ℕ, zero, suc, ◌+◌, List, [], ◌∷◌, ◌++◌, ◌∙◌, ap, inl, inr, arith, take, Option, Some, map, slice_get, option_map_or, append-nil, map_push, take_more, flat_map-append, get_or_from_slice_get, slice_get_within, same_Some, App, NodeSight, IsIn, ask_entries, asks_at, asks_of, indexes}

module _ {A : Type 0} where
  pub one_more : (xs : List A) (i : ℕ) (x : A) → slice_get xs i ≡ Some x → take (i + 1) xs ≡ take i xs ++ x ∷ []
  one_more xs i x e = take_more xs i x (slice_get_within xs i x e) ∙ ap (λ y. take i xs ++ y ∷ []) (get_or_from_slice_get xs i x x e)

  pub map_more : {B : Type 0} (f : A → B) (xs : List A) (i : ℕ) (x : A) → slice_get xs i ≡ Some x → map f (take (i + 1) xs) ≡ map f (take i xs) ++ f x ∷ []
  map_more f xs i x e = ap (map f) (one_more xs i x e) ∙ map_push f (take i xs) x

  pub slice_get_in : (xs : List A) (i : ℕ) (x : A) → slice_get xs i ≡ Some x → IsIn x xs
  slice_get_in [] i x e = absurd (cc e)
  slice_get_in (y ∷ xs) zero x e = inl (same_Some y x e)
  slice_get_in (y ∷ xs) (suc i) x e = inr (slice_get_in xs i x e)

  pub index_in : (xs : List A) (x : A) → IsIn x xs → (i : ℕ) × (slice_get xs i ≡ Some x)
  index_in [] x m = absurd m
  index_in (y ∷ xs) x (inl e) = (zero, ap (λ z. Some z) e)
  index_in (y ∷ xs) x (inr m) = let r = index_in xs x m in (suc (r.0), r.1)

-- the asks of one more application
pub asks_more : (nodes : List NodeSight) (apps : List App) (i : ℕ) (app : App) → slice_get apps i ≡ Some app → ask_entries nodes apps (indexes (i + 1)) ≡ ask_entries nodes apps (indexes i) ++ asks_of nodes i app
asks_more nodes apps i app at =
    ap (λ n. ask_entries nodes apps (indexes n)) (let e : i + 1 ≡ suc i = omega arith in e)
    ∙ flat_map-append (asks_at nodes apps) (indexes i) (i ∷ [])
    ∙ ap (λ es. ask_entries nodes apps (indexes i) ++ es) (append-nil (asks_at nodes apps i) ∙ ap (λ (o : Option App). option_map_or (asks_of nodes i) o []) at)
