-- What came of commits, place by place.
use Rattle.cap_workers.proofs.Prelude.{◌≡◌, ℕ, zero, suc, ◌+◌, ◌<◌, Option, Some, None, List, [], ◌∷◌, ◌++◌, length, set, append-nil, append_assoc, arith, refl, sym, ◌∙◌, ap, subst}
use Rattle.cap_workers.specs.Committing.{held_in}
use Rattle.cap_workers.specs.declared.gate.CommitOutcome.{CommitOutcome}

-- these places are empty; those from this one on are
abbrev pub AllEmpty : List (Option (ℕ × CommitOutcome)) → Type 0
AllEmpty [] = Unit {0}
AllEmpty (s ∷ ss) = (s ≡ None) × AllEmpty ss

abbrev pub EmptyFrom : ℕ → List (Option (ℕ × CommitOutcome)) → Type 0
EmptyFrom zero ss = AllEmpty ss
EmptyFrom (suc n) [] = Unit {0}
EmptyFrom (suc n) (s ∷ ss) = EmptyFrom n ss

held_none : (ss : List (Option (ℕ × CommitOutcome))) → AllEmpty ss → held_in ss ≡ []
held_none [] all = refl
held_none (None ∷ ss) all = held_none ss all.1
held_none (Some x ∷ ss) all = absurd (cc (all.0))

-- one place more is filled
pub one_more_held : (n : ℕ) (ss : List (Option (ℕ × CommitOutcome))) (x : ℕ × CommitOutcome) → n < length ss → EmptyFrom n ss → held_in (set ss n (Some x)) ≡ held_in ss ++ x ∷ []
one_more_held n [] x less all = absurd (omega (arith, less))
one_more_held zero (None ∷ ss) x less all = ap (λ zs. x ∷ zs) (held_none ss all.1) ∙ sym (ap (λ zs. zs ++ x ∷ []) (held_none ss all.1))
one_more_held zero (Some y ∷ ss) x less all = absurd (cc (all.0))
one_more_held (suc n) (None ∷ ss) x less all = one_more_held n ss x (omega (arith, less)) all
one_more_held (suc n) (Some y ∷ ss) x less all = ap (λ zs. y ∷ zs) (one_more_held n ss x (omega (arith, less)) all)

fewer : (n : ℕ) (ss : List (Option (ℕ × CommitOutcome))) (x : ℕ × CommitOutcome) → EmptyFrom n ss → EmptyFrom (suc n) (set ss n (Some x))
fewer zero [] x all = tt
fewer zero (s ∷ ss) x all = all.1
fewer (suc n) [] x all = tt
fewer (suc n) (s ∷ ss) x all = fewer n ss x all

pub fewer_empty : (n m : ℕ) (ss : List (Option (ℕ × CommitOutcome))) (x : ℕ × CommitOutcome) → m ≡ n + 1 → EmptyFrom n ss → EmptyFrom m (set ss n (Some x))
fewer_empty n m ss x is all = let next : m ≡ suc n = omega (arith, is) in subst (λ (k : ℕ). EmptyFrom k (set ss n (Some x))) (sym next) (fewer n ss x all)

pub as_many_places : (n : ℕ) (ss : List (Option (ℕ × CommitOutcome))) (x : Option (ℕ × CommitOutcome)) → length (set ss n x) ≡ length ss
as_many_places zero [] x = refl
as_many_places zero (s ∷ ss) x = refl
as_many_places (suc n) [] x = refl
as_many_places (suc n) (s ∷ ss) x = ap suc (as_many_places n ss x)

-- one answer more lies in the mailboxes, or none
pub one_posted : (old mid new told : List (ℕ × CommitOutcome)) (x : ℕ × CommitOutcome) {told' : List (ℕ × CommitOutcome)} → told' ≡ told ++ x ∷ [] → mid ≡ old ++ told → new ≡ mid ++ x ∷ [] → new ≡ old ++ told'
one_posted old mid new told x is so_far one = rw (one, so_far, is) (append_assoc old told (x ∷ []))

pub none_posted : (old mid new told : List (ℕ × CommitOutcome)) → mid ≡ old ++ told → new ≡ mid ++ [] → new ≡ old ++ told
none_posted old mid new told so_far none = none ∙ append-nil mid ∙ so_far
