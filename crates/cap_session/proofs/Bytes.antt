-- Bytes that were written out in parts.
use Rattle.cap_session.proofs.Prelude.{◌≡◌, ℕ, ◌+◌, List, [], ◌++◌, Option, Some, None, ap, sym, ◌∙◌, append_assoc, append-nil, take, drop, take-add, Appends}

pub appends_then : (u v w : Option (List ℕ)) (a b : List ℕ) → Appends u v a → Appends v w b → Appends u w (a ++ b)
appends_then None v w a b x y = tt
appends_then (Some xs) None w a b x y = absurd x
appends_then (Some xs) (Some ys) None a b x y = absurd y
appends_then (Some xs) (Some ys) (Some zs) a b x y = y ∙ ap (λ (q : List ℕ). q ++ b) x ∙ append_assoc xs a b

pub appends_none : (u : Option (List ℕ)) → Appends u u []
appends_none None = tt
appends_none (Some xs) = sym (append-nil xs)

-- n first bytes, and then m
pub took : (u v : List ℕ) (n m : ℕ) → v ≡ drop n u → take n u ++ take m v ≡ take (n + m) u
took u v n m is = ap (λ (x : List ℕ). take n u ++ take m x) is ∙ sym (take-add n m u)

-- bytes before, then n first ones, and then m
pub took_after : (before u v x : List ℕ) (n m : ℕ) → x ≡ before ++ take n u → v ≡ drop n u → x ++ take m v ≡ before ++ take (n + m) u
took_after before u v x n m was is = ap (λ (y : List ℕ). y ++ take m v) was ∙ append_assoc before (take n u) (take m v) ∙ ap (λ (y : List ℕ). before ++ y) (took u v n m is)
