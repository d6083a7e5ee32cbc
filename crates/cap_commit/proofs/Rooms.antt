-- Room in a leaf for one more of its applications to wait.
use Rattle.cap_commit.proofs.Prelude.{◌≡◌, ℕ, ◌+◌, ◌-◌, ◌<◌, ◌≤◌, Bool, true, false, cond, List, [], ◌∷◌, refl, ◌∙◌, ap, inl, inr, arith, ◌&&◌, bytes_eq, bytes_turned, bytes_itself, count_by, sum_by-cons, sum_by-le-sum_by, IsIn, App, Measure, IsPart, of_user, one_app, zero_count, count_in, user_row, user_counts, zero_counts, count_where, moved_own, one_where}
use Rattle.cap_tree.specs.Count.{count_moved}
use Rattle.cap_tree.specs.Queue.{Users, active_of, with_count}
use Rattle.cap_tree.specs.QueueLaws.{moved_sum}

abbrev in_leaf : List ℕ → App → Bool
in_leaf leaf app = bytes_eq leaf app.leaf

abbrev of_owner : List ℕ → List ℕ → App → Bool
of_owner leaf user app = bytes_eq leaf app.leaf && bytes_eq user app.user

count-cons : (p : App → Bool) (x : App) (apps : List App) → count_by p (x ∷ apps) ≡ one_where (p x) + count_by p apps
count-cons p x apps = sum_by-cons (λ (y : App). cond (p y) 1 0) x apps

one_here : (b : Bool) → count_where b (one_app 0) Measure.active ≡ one_where b
one_here true = refl
one_here false = refl

none_here : (b : Bool) → count_where b (zero_count 0) Measure.active ≡ 0
none_here true = refl
none_here false = refl

-- no fewer applications are counted of the users of a leaf than are active there
pub all_counted : (leaf : List ℕ) (apps : List App) (us : Users) → ((user : List ℕ) → of_user user Measure.active us ≡ count_by (of_owner leaf user) apps) → count_by (in_leaf leaf) apps ≤ active_of us
all_counted leaf [] us h = omega arith
all_counted leaf (x ∷ apps) us h = by (all_counted leaf apps) (bytes_eq leaf x.leaf) refl
  where
    by : ((vs : Users) → ((user : List ℕ) → of_user user Measure.active vs ≡ count_by (of_owner leaf user) apps) → count_by (in_leaf leaf) apps ≤ active_of vs) → (b : Bool) → bytes_eq leaf x.leaf ≡ b → count_by (in_leaf leaf) (x ∷ apps) ≤ active_of us
    by all false e =
        let c = count-cons (in_leaf leaf) x apps in
        let z : one_where (bytes_eq leaf x.leaf) ≡ 0 = ap one_where e in
        let rest = all us (λ user.
        let d = count-cons (of_owner leaf user) x apps in
        let w : one_where (of_owner leaf user x) ≡ 0 = ap (λ b. one_where (b && bytes_eq user x.user)) e in
        let was = h user in
        omega (arith, d, w, was)) in
        omega (arith, c, z, rest)
    by all true e =
        let c = count-cons (in_leaf leaf) x apps in
        let z : one_where (bytes_eq leaf x.leaf) ≡ 1 = ap one_where e in
        let s : active_of fewer ≡ (active_of us - 1) + 0 = (moved_sum 0 x.user (one_app 0) (zero_count 0) us Measure.active part).sum in
        let f : 1 ≤ active_of us = (moved_sum 0 x.user (one_app 0) (zero_count 0) us Measure.active part).fits in
        let rest = all fewer left in
        omega (arith, c, z, s, f, rest)
      where
        mine : (user : List ℕ) → one_where (of_owner leaf user x) ≡ one_where (bytes_eq x.user user)
        mine user = ap (λ b. one_where (b && bytes_eq user x.user)) e ∙ ap one_where (bytes_turned user x.user)

        some : 1 ≤ of_user x.user Measure.active us
        some =
            let d = count-cons (of_owner leaf x.user) x apps in
            let own : one_where (of_owner leaf x.user x) ≡ 1 = mine x.user ∙ ap one_where (bytes_itself x.user) in
            let was = h x.user in
            omega (arith, d, own, was)

        part : IsPart (one_app 0) (count_in 0 (user_row x.user us))
        part (Measure.uses k) = omega (arith, zero_counts 0 (Measure.uses k))
        part Measure.active = let u = user_counts 0 x.user us Measure.active in let w = some in omega (arith, u, w)
        part Measure.waiting = omega arith

        fewer : Users
        fewer = with_count x.user (count_moved (one_app 0) (zero_count 0) (count_in 0 (user_row x.user us))) us

        left : (user : List ℕ) → of_user user Measure.active fewer ≡ count_by (of_owner leaf user) apps
        left user =
            let m = moved_own 0 x.user (one_app 0) (zero_count 0) us part user Measure.active in
            let a = one_here (bytes_eq x.user user) in
            let b = none_here (bytes_eq x.user user) in
            let d = count-cons (of_owner leaf user) x apps in
            let own = mine user in
            let was = h user in
            omega (arith, m, a, b, d, own, was)

-- where all that pass one test pass another, and one passes that alone, fewer pass the first
pub fewer_pass : (p q : App → Bool) (apps : List App) (a : App) → IsIn a apps → p a ≡ false → q a ≡ true → ((x : App) → one_where (p x) ≤ one_where (q x)) → count_by p apps < count_by q apps
fewer_pass p q [] a m none some h = absurd m
fewer_pass p q (x ∷ apps) a (inl e) none some h =
    let c = count-cons p x apps in
    let d = count-cons q x apps in
    let y : one_where (p x) ≡ 0 = ap (λ z. one_where (p z)) e ∙ ap one_where none in
    let z : one_where (q x) ≡ 1 = ap (λ z. one_where (q z)) e ∙ ap one_where some in
    let l = sum_by-le-sum_by (λ (y : App). cond (p y) 1 0) (λ (y : App). cond (q y) 1 0) apps h in
    omega (arith, c, d, y, z, l)
fewer_pass p q (x ∷ apps) a (inr m) none some h =
    let c = count-cons p x apps in
    let d = count-cons q x apps in
    let r = fewer_pass p q apps a m none some h in
    let l = h x in
    omega (arith, c, d, r, l)
