-- The tests of limits, as code and as the model makes them.
use Rattle.cap_tree.proofs.Prelude.{◌≡◌, ℕ, zero, suc, ◌*◌, ◌≤◌, Bool, true, false, List, [], ◌∷◌, Some, None, refl, sym, ◌∙◌, ap, subst, arith, inl, inr, ◌↔◌, IsTrue, if◌then◌else◌, amount, amounts_exchanged, FitsTimes, IsWithin, sum_max, amount-exchanged, option_map_or, holds_of, fits, times, fits_amounts, amounts_fit, Measure, use_alone, along, first_failing, item_at, path_at, IsPosition, stays_in_maximum, stays_in_user_limit, Row, HasRoomAtRoot, PositionsArePaths, root_use, broken_level, over_limit, Maximum, User}
use Rattle.cap_tree.proofs.RowPaths.{along_rows}

same_test : (b c : Bool) (P : Type 0) → IsTrue b ↔ P → (c ≡ true → P) → (P → c ≡ true) → b ≡ c
same_test true c P d f g = sym (g (d.0 refl))
same_test false true P d f g = d.1 (f refl)
same_test false false P d f g = refl

amount-times : (factor : ℕ) (v : List ℕ) (k : ℕ) → amount (times factor v) k ≡ factor * amount v k
amount-times factor [] k = omega arith
amount-times factor (x ∷ v) zero = refl
amount-times factor (x ∷ v) (suc k) = amount-times factor v k

pub fits_times : (b : Bool) (a : List ℕ) (factor : ℕ) (most : List ℕ) → IsTrue b ↔ FitsTimes a factor most → b ≡ fits a (times factor most)
fits_times b a factor most d =
    same_test b (fits a (times factor most)) (FitsTimes a factor most) d
    (λ e k. subst (λ n. amount a k ≤ n) (amount-times factor most k) (fits_amounts a (times factor most) e k))
    (λ h. amounts_fit a (times factor most) (λ k. subst (λ n. amount a k ≤ n) (sym (amount-times factor most k)) (h k)))

times_one : (v : List ℕ) → times 1 v ≡ v
times_one [] = refl
times_one (x ∷ v) = let e : 1 * x ≡ x = omega arith in λ i. e i ∷ times_one v i

pub fits_once : (b : Bool) (a most : List ℕ) → IsTrue b ↔ FitsTimes a 1 most → b ≡ fits a most
fits_once b a most d = fits_times b a 1 most d ∙ ap (fits a) (times_one most)

-- room for a change of use at the root
pub room_applying : (old new : List ℕ) (rows : List Row) → IsWithin sum_max (amounts_exchanged old new (root_use rows)) → HasRoomAtRoot (use_alone old) (use_alone new) rows
room_applying old new [] h (Measure.uses k) = inr (omega (arith, h k, amount-exchanged old new [] k))
room_applying old new (r ∷ rows) h (Measure.uses k) = inr (omega (arith, h k, amount-exchanged old new r.item.used k))
room_applying old new rows h Measure.active = inl (omega arith)
room_applying old new rows h Measure.waiting = inl (omega arith)

-- what would be passed, by what is on the way to the position

module _ (K : ℕ) (position user old new : List ℕ) (rows : List Row) (paths : PositionsArePaths rows) (there : IsPosition rows position) where
  level_is : broken_level (path_at position rows) old new rows ≡ first_failing (stays_in_maximum old new) (along position rows)
  level_is = ap (first_failing (stays_in_maximum old new)) (sym (along_rows position rows paths there))

  pub over_maximum : (level : ℕ) → Some level ≡ first_failing (stays_in_maximum old new) (along position rows) → over_limit K position user old new rows ≡ Some (Maximum level)
  over_maximum level e =
      ap (λ o. option_map_or (λ n. Some (Maximum n)) o (if holds_of (stays_in_user_limit K user old new) (item_at position rows) then None else Some User)) (level_is ∙ sym e)

  pub over_user : (b : Bool) → None ≡ first_failing (stays_in_maximum old new) (along position rows) → b ≡ holds_of (stays_in_user_limit K user old new) (item_at position rows) → over_limit K position user old new rows ≡ (if b then None else Some User)
  over_user b e s =
      ap (λ o. option_map_or (λ n. Some (Maximum n)) o (if holds_of (stays_in_user_limit K user old new) (item_at position rows) then None else Some User)) (level_is ∙ sym e)
      ∙ ap (λ c. if c then None else Some User) (sym s)
