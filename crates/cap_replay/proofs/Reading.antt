-- What a reader gave, piece by piece.
use Rattle.cap_replay.proofs.Prelude.{◌≡◌, ℕ, ◌<◌, List, [], ◌++◌, Option, Some, None, refl, length, ap, sym, subst, ◌∙◌, Consumes, Counted, state_of, inner_of, IsRead, HasEnded, nil_from_length}
use Rattle.std.proofs.Common.{append_assoc, append-nil}
use Rattle.cap_replay.proofs.Lines.{consumes_more}

pub read_more : {T : Type 0} (remaining : T → Option (List ℕ)) (a b c : Counted T) (first next : List ℕ) → IsRead remaining a b first → IsRead remaining b c next → IsRead remaining a c (first ++ next)
read_more remaining a b c first next x y = record {
  given = y.given ∙ ap (λ (r : List ℕ). r ++ next) x.given ∙ append_assoc (state_of a).given first next;
  consumed = consumes_more (remaining (inner_of a)) (remaining (inner_of b)) (remaining (inner_of c)) first next x.consumed y.consumed;
}

pub read_none : {T : Type 0} (remaining : T → Option (List ℕ)) (a b c : Counted T) (text piece : List ℕ) → length piece ≡ 0 → IsRead remaining a b text → IsRead remaining b c piece → IsRead remaining a c text
read_none remaining a b c text piece none x y =
    subst (λ (t : List ℕ). IsRead remaining a c t) (ap (λ (p : List ℕ). text ++ p) (nil_from_length piece none) ∙ append-nil text) (read_more remaining a b c text piece x y)

-- the end was not found before
pub ended_since : {T : Type 0} (remaining : T → Option (List ℕ)) (a b c : Counted T) → (state_of b).ends ≡ (state_of a).ends → HasEnded remaining b c → HasEnded remaining a c
ended_since remaining a b c same end = record { counted = subst (λ (n : ℕ). n < (state_of c).ends) same end.counted; at_end = end.at_end }

consumes_self : (a : Option (List ℕ)) → Consumes a a []
consumes_self None = tt
consumes_self (Some xs) = refl

pub read_nothing : {T : Type 0} (remaining : T → Option (List ℕ)) (a : Counted T) → IsRead remaining a a []
read_nothing remaining a = record { given = sym (append-nil (state_of a).given); consumed = consumes_self (remaining (inner_of a)) }
