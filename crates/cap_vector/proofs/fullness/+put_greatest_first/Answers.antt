use Rattle.std.proofs.Common.{◌≡◌, ◌∷◌, [], ◌++◌, List, length, refl, ◌∙◌, ap, take, drop, ◌-◌, ◌<◌, arith}
use Rattle.std.proofs.lemmas.List.{take_all}
use Rattle.cap_vector.specs.declared.fullness.Share.{Share}
use Rattle.cap_vector.specs.Fullness.{greatest_first, put_share}
use Rattle.cap_vector.proofs.fullness.+put_greatest_first.Goals as goal

append_nil : (ys : List Share) → ys ++ [] ≡ ys
append_nil [] = refl
append_nil (y ∷ ys) = ap (λ t. y ∷ t) (append_nil ys)

-- the first before the others in order, put in its place
first_put : (s ys new : List Share) → 0 < length s → ys ≡ greatest_first (take (length s - 1) (drop 1 s)) →
    ((x : Share) (xs : List Share) → take 1 s ++ (ys ++ drop (length s - 1) (drop 1 s)) ≡ x ∷ xs → new ≡ put_share x xs) → new ≡ greatest_first s
first_put [] ys new h e f = absurd (omega arith)
first_put (x ∷ t) ys new h e f =
    let n : length (x ∷ t) - 1 ≡ length t = omega arith in
    let whole = rw (n, take_all (length t) t (omega arith)) at e in
    let none : drop (length (x ∷ t) - 1) t ≡ [] = grind (arith, Rattle.std.proofs.lemmas.Grind.common_steps) in
    f x (greatest_first t) (ap (λ w. x ∷ w) (ap (λ w. ys ++ w) none ∙ append_nil ys ∙ whole))

pub returns : goal.returns
returns t c = first_put c.args.shares.now c.put_greatest_first.new.shares c.put_first.new.shares (grind arith) c.put_greatest_first.ensures c.put_first.ensures
