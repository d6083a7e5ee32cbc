-- What is counted of users, with one count set or taken away.
use Rattle.std.proofs.Common.{◌≡◌, ℕ, ◌+◌, ◌≤◌, Bool, true, false, cond, T, List, [], ◌∷◌, length, Option, Some, None, refl, sym, ◌∙◌, ap, subst, arith}
use Rattle.std.specs.Prelude.{bytes_eq, if◌then◌else◌, ◌&&◌}
use Rattle.std.specs.List.{sum_by}
use Rattle.std.specs.Option.{option_map_or}
use Rattle.std.specs.Ordering.{nat_cmp, is_lt, is_eq}
use Rattle.std.specs.declared.cmp.Ordering.{Ordering}
use Rattle.std.specs.declared.cmp.Ordering.TheVariants.{Less, Equal, Greater}
use Rattle.std.specs.Cmp.{IsTotalOrder}
use Rattle.std.specs.Cmp.Lexicographic.{slice_cmp, nat_list_cmp_total}
use Rattle.std.specs.FinMap as finite
use Rattle.std.specs.FinMap.Entries.{by_order, put, find, below_all, is_sorted}
use Rattle.std.proofs.lemmas.List.Sums.{sum_by-cons}
use Rattle.std.proofs.lemmas.Map.Text.{is_eq-slice_cmp}
use Rattle.std.proofs.lemmas.Slice.Eq.{bytes_eq-Decides}
use Rattle.cap_tree.specs.Measure.{Measure}
use Rattle.cap_tree.specs.Count.{Count, of_count, is_zero_count}
use Rattle.cap_tree.specs.Queue.{Users, of_user, user_row, with_count}

-- an entry that is put into a list in order, in place of that of its key or as one more

first_holds : (a b : Bool) → T (a && b) → T a
first_holds true b p = tt
first_holds false b p = p

second_holds : (a b : Bool) → T (a && b) → T b
second_holds true b p = p
second_holds false b p = absurd p

both_hold : (a b : Bool) → T a → T b → T (a && b)
both_hold true b p q = q
both_hold false b p q = p

is_less : (r : Ordering) → T (is_lt r) → r ≡ Less
is_less Less p = refl
is_less Equal p = absurd p
is_less Greater p = absurd p

module _ {K X : Type 0} (R : K → K → Ordering) (o : IsTotalOrder R) (f : X → ℕ) where
  lower : (x y : K) (es : List (K × X)) → R x y ≡ Less → T (below_all R y es) → T (below_all R x es)
  lower x y [] p h = tt
  lower x y (e ∷ es) p h =
      both_hold _ _ (subst (λ r. T (is_lt r)) (sym (o.trans x y e.0 p (is_less _ (first_holds _ _ h)))) tt) (lower x y es p (second_holds _ _ h))

  none_above : (x : K) (es : List (K × X)) → T (below_all R x es) → find R x es ≡ None
  none_above x [] h = refl
  none_above x (e ∷ es) h = ap (λ r. cond (is_eq r) (Some e.1) (find R x es)) (is_less _ (first_holds _ _ h)) ∙ none_above x es (second_holds _ _ h)

  sum-put : (k : K) (v : X) (es : List (K × X)) → T (is_sorted R es) → sum_by (λ e. f e.1) (put R k v es) + option_map_or f (find R k es) 0 ≡ sum_by (λ e. f e.1) es + f v
  sum-put k v [] h = omega (arith, sum_by-cons (λ (e : K × X). f e.1) (k, v) [])
  sum-put k v (e ∷ es) h = by (R k e.0) refl (sum-put k v es (second_holds _ _ h))
    where
      by : (r : Ordering) → R k e.0 ≡ r → sum_by (λ e. f e.1) (put R k v es) + option_map_or f (find R k es) 0 ≡ sum_by (λ e. f e.1) es + f v →
          sum_by (λ e. f e.1) (by_order r ((k, v) ∷ e ∷ es) ((e.0, v) ∷ es) (e ∷ put R k v es)) + option_map_or f (cond (is_eq r) (Some e.1) (find R k es)) 0 ≡ sum_by (λ e. f e.1) (e ∷ es) + f v
      by Less p s =
          let none = ap (λ x. option_map_or f x 0) (none_above k es (lower k e.0 es p (first_holds _ _ h))) in
          omega (arith, none, sum_by-cons (λ (e : K × X). f e.1) (k, v) (e ∷ es))
      by Equal p s = omega (arith, sum_by-cons (λ (e : K × X). f e.1) (e.0, v) es, sum_by-cons (λ (e : K × X). f e.1) e es)
      by Greater p s = omega (arith, s, sum_by-cons (λ (e : K × X). f e.1) e (put R k v es), sum_by-cons (λ (e : K × X). f e.1) e es)

-- users are equal where each has the same row

pub same_users : (us vs : Users) → ((user : List ℕ) → user_row user us ≡ user_row user vs) → us ≡ vs
same_users us vs same = finite.same_map nat_list_cmp_total (finite.slice_cmp-IsAntisymmetric finite.nat_cmp-IsAntisymmetric) us vs same

-- the row of a user once one of them is removed, or its count is set

row-removed : (user one : List ℕ) (us : Users) → user_row user (finite.remove us one) ≡ cond (bytes_eq user one) None (user_row user us)
row-removed user one us = finite.get-remove nat_list_cmp_total us one user ∙ ap (λ b. cond b None (user_row user us)) (is_eq-slice_cmp user one)

row-set : (user one : List ℕ) (c : Count) (us : Users) → user_row user (finite.insert us one c) ≡ cond (bytes_eq user one) (Some c) (user_row user us)
row-set user one c us = finite.get-insert nat_list_cmp_total us one c user ∙ ap (λ b. cond b (Some c) (user_row user us)) (is_eq-slice_cmp user one)

pub user_row-with_count : (user one : List ℕ) (c : Count) (us : Users) → user_row user (with_count one c us) ≡ cond (bytes_eq user one) (if is_zero_count c then None else Some c) (user_row user us)
user_row-with_count user one c us = by (is_zero_count c)
  where
    by : (b : Bool) → user_row user (if b then finite.remove us one else finite.insert us one c) ≡ cond (bytes_eq user one) (if b then None else Some c) (user_row user us)
    by true = row-removed user one us
    by false = row-set user one c us

-- sums over users

abbrev pub sum_of : (Count → ℕ) → Users → ℕ
sum_of f us = sum_by (λ e. f e.1) (finite.entries us)

sum-set : (f : Count → ℕ) (user : List ℕ) (c : Count) (us : Users) → sum_of f (finite.insert us user c) + option_map_or f (user_row user us) 0 ≡ sum_of f us + f c
sum-set f user c us =
    (λ i. sum_by (λ e. f e.1) (finite.entries-insert nat_list_cmp_total us user c i) + option_map_or f (finite.get-entries us user i) 0)
    ∙ sum-put (slice_cmp nat_cmp) nat_list_cmp_total f user c (finite.entries us) (finite.entries_sorted us)

itself : (user : List ℕ) → bytes_eq user user ≡ true
itself user = (bytes_eq-Decides user user).1 refl

-- without a user's row, and with it again, they are as before
set_again : (user : List ℕ) (c : Count) (us : Users) → user_row user us ≡ Some c → finite.insert (finite.remove us user) user c ≡ us
set_again user c us e = same_users _ us (λ q. row-set q user c (finite.remove us user) ∙ ap (cond (bytes_eq q user) (Some c)) (row-removed q user us) ∙ by q (bytes_eq q user) refl)
  where
    by : (q : List ℕ) (b : Bool) → bytes_eq q user ≡ b → cond b (Some c) (cond b None (user_row q us)) ≡ user_row q us
    by q true h = sym (ap (λ x. user_row x us) ((bytes_eq-Decides q user).0 h) ∙ e)
    by q false h = refl

unset_none : (user : List ℕ) (us : Users) → user_row user us ≡ None → finite.remove us user ≡ us
unset_none user us e = same_users _ us (λ q. row-removed q user us ∙ by q (bytes_eq q user) refl)
  where
    by : (q : List ℕ) (b : Bool) → bytes_eq q user ≡ b → cond b None (user_row q us) ≡ user_row q us
    by q true h = sym (ap (λ x. user_row x us) ((bytes_eq-Decides q user).0 h) ∙ e)
    by q false h = refl

sum-removed : (f : Count → ℕ) (user : List ℕ) (us : Users) → sum_of f (finite.remove us user) + option_map_or f (user_row user us) 0 ≡ sum_of f us
sum-removed f user us = by (user_row user us) refl
  where
    by : (o : Option Count) → user_row user us ≡ o → sum_of f (finite.remove us user) + option_map_or f o 0 ≡ sum_of f us
    by None e = let s = ap (sum_of f) (unset_none user us e) in omega (arith, s)
    by (Some c) e =
        let s = sum-set f user c (finite.remove us user) in
        let gone = ap (λ x. option_map_or f x 0) (row-removed user user us ∙ ap (λ b. cond b None (user_row user us)) (itself user)) in
        let again = ap (sum_of f) (set_again user c us e) in
        omega (arith, s, gone, again)

pub sum-with_count : (f : Count → ℕ) (user : List ℕ) (c : Count) (us : Users) → (is_zero_count c ≡ true → f c ≡ 0) → sum_of f (with_count user c us) + option_map_or f (user_row user us) 0 ≡ sum_of f us + f c
sum-with_count f user c us nothing = by (is_zero_count c) nothing
  where
    by : (b : Bool) → (b ≡ true → f c ≡ 0) → sum_of f (if b then finite.remove us user else finite.insert us user c) + option_map_or f (user_row user us) 0 ≡ sum_of f us + f c
    by true z = omega (arith, sum-removed f user us, z refl)
    by false z = sum-set f user c us

pub row-le-sum : (f : Count → ℕ) (user : List ℕ) (us : Users) → option_map_or f (user_row user us) 0 ≤ sum_of f us
row-le-sum f user us = omega (arith, sum-removed f user us)

pub sum-no_users : (f : Count → ℕ) → sum_of f finite.empty ≡ 0
sum-no_users f = ap (sum_by (λ e. f e.1)) (none (finite.entries finite.empty) (sym (finite.len-entries finite.empty) ∙ finite.len-empty (slice_cmp nat_cmp) Count))
  where
    none : (es : List (List ℕ × Count)) → length es ≡ 0 → es ≡ []
    none [] e = refl
    none (x ∷ es) e = absurd (omega arith)

-- where there are no users, nothing is counted of one
pub no_user_counts : (user : List ℕ) (m : Measure) → of_user user m finite.empty ≡ 0
no_user_counts user m = ap (λ o. option_map_or (λ (c : Count). of_count c m) o 0) (finite.get-empty (slice_cmp nat_cmp) user)
