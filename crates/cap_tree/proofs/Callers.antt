-- What the conditions of the calls say of the item at a position.
use Rattle.cap_tree.proofs.Prelude.{ℕ, ◌<◌, List, [], ◌∷◌, Option, Some, None, inl, inr, arith, option_map_or, amount-zeros, number_end, Spot, item_at, HoldsOfItem, IsPosition, Measure, Count, IsPart, zero_count, one_app, use_alone, zero_counts, Queue, MayLeave, MayGive, user_row, count_in, Row, HasRoomAtRoot, active_in, user_row_at}

-- what holds of a user's row at a position, and of the user's row in the queue there

module _ (user position : List ℕ) (rows : List Row) (P : Option Count → Type 0) where
  pub row_holds : IsPosition rows position → P (user_row_at position user rows) → HoldsOfItem (λ q. P (user_row user q.users)) (item_at position rows)
  row_holds i h = by (item_at position rows) i h
    where
      by : (o : Option Queue) → HoldsOfItem (λ _. Unit {0}) o → P (option_map_or (λ q. user_row user q.users) o None) → HoldsOfItem (λ q. P (user_row user q.users)) o
      by None i h = i
      by (Some q) i h = h

  pub holds_of_row : HoldsOfItem (λ q. P (user_row user q.users)) (item_at position rows) → P (user_row_at position user rows)
  holds_of_row h = by (item_at position rows) h
    where
      by : (o : Option Queue) → HoldsOfItem (λ q. P (user_row user q.users)) o → P (option_map_or (λ q. user_row user q.users) o None)
      by None h = absurd h
      by (Some q) h = h

  -- where only a row has it, there is a queue
  pub there_holds : (P None → ⊥) → P (user_row_at position user rows) → IsPosition rows position
  there_holds none h = by (item_at position rows) h
    where
      by : (o : Option Queue) → P (option_map_or (λ q. user_row user q.users) o None) → HoldsOfItem (λ _. Unit {0}) o
      by None h = none h
      by (Some q) h = tt

-- a change for which no item grows needs no memory
pub never_grows : {T : Type 0} (position : List ℕ) (ss : List (Spot T)) → HoldsOfItem (λ (_ : T). ⊥) (item_at position ss) → ⊥
never_grows {T} position ss h = by (item_at position ss) h
  where
    by : (o : Option T) → HoldsOfItem (λ (_ : T). ⊥) o → ⊥
    by None h = h
    by (Some x) h = h

-- the parts that calls move are in the user's count

pub entering_part : (K : ℕ) (row : Option Count) → IsPart (zero_count K) (count_in K row)
entering_part K row m = omega (arith, zero_counts K m)

pub leaving_part : (K : ℕ) (row : Option Count) → MayLeave row → IsPart (one_app K) (count_in K row)
leaving_part K None h m = absurd h
leaving_part K (Some u) h (Measure.uses k) = omega (arith, amount-zeros K k)
leaving_part K (Some u) h Measure.active = h.0
leaving_part K (Some u) h Measure.waiting = omega arith

pub giving_part : (K : ℕ) (r : List ℕ) (row : Option Count) → MayGive r row → IsPart (use_alone r) (count_in K row)
giving_part K r None h m = absurd h
giving_part K r (Some u) h (Measure.uses k) = h k
giving_part K r (Some u) h Measure.active = omega arith
giving_part K r (Some u) h Measure.waiting = omega arith

-- there is room at the root for one more application, and wherever nothing new comes

pub room_entering : (K : ℕ) (rows : List Row) → active_in rows < number_end → HasRoomAtRoot (zero_count K) (one_app K) rows
room_entering K rows h (Measure.uses k) = inl (omega arith)
room_entering K [] h Measure.active = inr (omega arith)
room_entering K (r ∷ rows) h Measure.active = inr (omega (arith, h))
room_entering K rows h Measure.waiting = inl (omega arith)

pub room_falling : (K : ℕ) (old : Count) (rows : List Row) → HasRoomAtRoot old (zero_count K) rows
room_falling K old rows m = inl (omega (arith, zero_counts K m))
