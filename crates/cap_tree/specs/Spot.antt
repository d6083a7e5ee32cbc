-- A tree as a list: each item before those under it, with its position, the child indexes that lead to it, and its dotted path.
use Rattle.std.specs.Prelude.{◌≡◌, ℕ, suc, ◌+◌, ◌≤◌, Bool, true, false, cond, ◌&&◌, ◌==◌, bytes_eq, Option, Some, None, List, [], ◌∷◌, ◌++◌, map, filter, not, position as first_index, length, refl, take}
use Rattle.std.specs.Option.{option_map_or}
use Rattle.std.specs.List.{list_any}
use Rattle.std.specs.Coded.{Coded, code_by, coded×, coded_ℕ, coded_list}
use Rattle.std.proofs.Common.{arith, length-append}
use Rattle.std.proofs.lemmas.List.{length-map}
use Rattle.cap_base.specs.Texts.{dot}
use denote.Param.Weighed.{most}

pub record Spot (T : Type 0) : Type 0 where
  pub position : List ℕ
  pub path : List ℕ
  pub item : T

-- stored as the pair of its fields
abbrev pub spot_code : {T : Type 0} → Coded T → Coded (Spot T)
spot_code {T} code = code_by (List ℕ × (List ℕ × T)) (coded× (coded_list coded_ℕ) (coded× (coded_list coded_ℕ) code)) (λ s. (s.position, (s.path, s.item))) (λ p. record { position = p.0; path = p.1.0; item = p.1.1 }) (λ _. refl)

-- whether the second position is the first, or one below it
abbrev pub leads_to : List ℕ → List ℕ → Bool
leads_to [] ys = true
leads_to (x ∷ xs) [] = false
leads_to (x ∷ xs) (y ∷ ys) = x == y && leads_to xs ys

-- whether the second position is below the first
abbrev pub leads_below : List ℕ → List ℕ → Bool
leads_below [] [] = false
leads_below [] (y ∷ ys) = true
leads_below (x ∷ xs) [] = false
leads_below (x ∷ xs) (y ∷ ys) = x == y && leads_below xs ys

-- the spot with an item made of its own
abbrev pub made_of : {T U : Type 0} → (T → U) → Spot T → Spot U
made_of f s = record { position = s.position; path = s.path; item = f s.item }

module _ {T : Type 0} where
  -- the item at the position, if there is one
  abbrev pub item_at : List ℕ → List (Spot T) → Option T
  item_at position [] = None
  item_at position (s ∷ ss) = cond (bytes_eq s.position position) (Some s.item) (item_at position ss)

  -- the path at the position
  abbrev pub path_at : List ℕ → List (Spot T) → List ℕ
  path_at position [] = []
  path_at position (s ∷ ss) = cond (bytes_eq s.position position) s.path (path_at position ss)

  -- the position of the first spot that has the path
  abbrev pub position_of_path : List ℕ → List (Spot T) → Option (List ℕ)
  position_of_path path [] = None
  position_of_path path (s ∷ ss) = cond (bytes_eq s.path path) (Some s.position) (position_of_path path ss)

  -- the position of the last spot
  abbrev pub last_position : List (Spot T) → List ℕ
  last_position [] = []
  last_position (s ∷ []) = s.position
  last_position (s ∷ t ∷ ss) = last_position (t ∷ ss)

  -- whether there is a spot below the position
  abbrev pub has_below : List ℕ → List (Spot T) → Bool
  has_below position ss = list_any (λ s. leads_below position s.position) ss

  -- the spots on the way to the position, from level 0 on
  abbrev pub along : List ℕ → List (Spot T) → List (Spot T)
  along position ss = filter (λ s. leads_to s.position position) ss

  -- the first of the spots, counted from 0, whose item does not pass the test
  abbrev pub first_failing : (T → Bool) → List (Spot T) → Option ℕ
  first_failing test ss = first_index (λ s. not (test s.item)) ss

  -- the spot as it is seen one level up, where it is under child i
  abbrev pub under : List ℕ → ℕ → Spot T → Spot T
  under name i s = record s { position = i ∷ s.position; path = name ++ dot ∷ s.path }

  -- the spots under the children from number i on, which have these spots
  abbrev pub below : List ℕ → ℕ → List (List (Spot T)) → List (Spot T)
  below name i [] = []
  below name i (k ∷ ks) = map (under name i) k ++ below name (suc i) ks

  -- the spots of a tree with that item and children that have these spots
  abbrev pub spots : (T → List ℕ) → T → List (List (Spot T)) → List (Spot T)
  spots name item kids = record { position = []; path = name item; item = item } ∷ below (name item) 0 kids

  -- the first item, and a number of it
  abbrev pub first : List (Spot T) → Option T
  first [] = None
  first (s ∷ ss) = Some s.item

  abbrev pub first_of : (T → ℕ) → List (Spot T) → ℕ
  first_of f ss = option_map_or f (first ss) 0

  -- what is at the queue of that position: at its item, and along at those above it
  abbrev pub change_along : (T → T) → (T → T) → List ℕ → Spot T → Spot T
  change_along along at position s =
      cond (bytes_eq s.position position) (record s { item = at s.item }) (cond (leads_to s.position position) (record s { item = along s.item }) s)

  -- there is an item, and P holds of it
  abbrev pub HoldsOfItem : (T → Type 0) → Option T → Type 0
  HoldsOfItem P None = ⊥
  HoldsOfItem P (Some x) = P x

  -- the position is that of some item
  abbrev pub IsPosition : List (Spot T) → List ℕ → Type 0
  IsPosition ss position = HoldsOfItem (λ _. Unit {0}) (item_at position ss)

  -- the item as one more child, the last of all spots, of the spot at that position
  pub record IsAddedAt (position name : List ℕ) (item : T) (old new : List (Spot T)) : Type 0 where
    pub child : ℕ
    pub parent : IsPosition old position
    pub is : new ≡ old ++ record { position = position ++ child ∷ []; path = path_at position old ++ dot ∷ name; item = item } ∷ []
    pub fresh : list_any (λ s. leads_to (position ++ child ∷ []) s.position) old ≡ false

  -- the same of the spot so many levels down on the way to the last one
  abbrev pub IsAdded : ℕ → List ℕ → T → List (Spot T) → List (Spot T) → Type 0
  IsAdded levels name item old new = IsAddedAt (take levels (last_position old)) name item old new

  -- no child has more spots than all below
  pub most_le-length-below : (name : List ℕ) (i : ℕ) (kids : List (List (Spot T))) → most (λ k. length k + 1) kids ≤ length (below name i kids) + 1
  most_le-length-below name i [] = omega arith
  most_le-length-below name i (k ∷ ks) =
      omega (arith, most_le-length-below name (suc i) ks, length-append (map (under name i) k) (below name (suc i) ks), length-map k (under name i))
