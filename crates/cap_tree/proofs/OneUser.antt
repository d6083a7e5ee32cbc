-- What is counted of one user of a leaf, after a move of some user's count.
use Rattle.cap_tree.proofs.Prelude.{◌≡◌, ℕ, ◌+◌, ◌≤◌, Bool, true, false, cond, List, Option, Some, None, refl, sym, ◌∙◌, ap, arith, bytes_eq, if◌then◌else◌, option_map_or, bytes_eq-Decides, bytes_turned, Measure, Count, IsPart, of_count, is_zero_count, count_moved, Users, of_user, user_row, count_in, with_count, moved_counts, is_zero_counts, user_counts, user_row-with_count}

-- where something is counted of a user, the user has a row
pub some_row : (user : List ℕ) (m : Measure) (us : Users) → 1 ≤ of_user user m us → (row : Count) × (user_row user us ≡ Some row)
some_row user m us h = by (user_row user us) refl
  where
    by : (o : Option Count) → user_row user us ≡ o → (row : Count) × (user_row user us ≡ Some row)
    by None e = absurd (let z = ap (λ r. option_map_or (λ (c : Count). of_count c m) r 0) e in omega (arith, h, z))
    by (Some row) e = (row, e)

-- the counts that a move takes and brings, where they are this user's
abbrev pub count_where : Bool → Count → Measure → ℕ
count_where b c m = if b then of_count c m else 0

-- what a row of this count, or none where it is nothing, counts
kept_count : (c : Count) (m : Measure) → option_map_or (λ (x : Count). of_count x m) (if is_zero_count c then None else Some c) 0 ≡ of_count c m
kept_count c m = by (is_zero_count c) refl
  where
    by : (b : Bool) → is_zero_count c ≡ b → option_map_or (λ (x : Count). of_count x m) (if b then None else Some c) 0 ≡ of_count c m
    by true z = sym (is_zero_counts c m z)
    by false z = refl

-- a move of a user's count moves what is counted of that user, and of no other
pub moved_own : (K : ℕ) (mover : List ℕ) (old new : Count) (us : Users) → IsPart old (count_in K (user_row mover us)) → (user : List ℕ) (m : Measure) →
    of_user user m (with_count mover (count_moved old new (count_in K (user_row mover us))) us) + count_where (bytes_eq mover user) old m ≡ of_user user m us + count_where (bytes_eq mover user) new m
moved_own K mover old new us h user m = by (bytes_eq mover user) refl
  where
    c : Count
    c = count_in K (user_row mover us)

    moved : Count
    moved = count_moved old new c

    after : (b : Bool) → bytes_eq mover user ≡ b → of_user user m (with_count mover moved us) ≡ option_map_or (λ (x : Count). of_count x m) (cond b (if is_zero_count moved then None else Some moved) (user_row user us)) 0
    after b e =
        ap (λ r. option_map_or (λ (x : Count). of_count x m) r 0)
        (user_row-with_count user mover moved us ∙ ap (λ t. cond t (if is_zero_count moved then None else Some moved) (user_row user us)) (bytes_turned user mover ∙ e))

    by : (b : Bool) → bytes_eq mover user ≡ b → of_user user m (with_count mover moved us) + count_where b old m ≡ of_user user m us + count_where b new m
    by true e =
        let a = after true e ∙ kept_count moved m in
        let own = ap (λ x. of_user x m us) (sym ((bytes_eq-Decides mover user).0 e)) ∙ user_counts K mover us m in
        omega (arith, a, own, h m, moved_counts old new c m)
    by false e = omega (arith, after false e)
