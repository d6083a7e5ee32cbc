-- Ends that come back from threads are of the same lanes.
use Rattle.std.proofs.Common.{◌≡◌, ℕ, suc, ◌<◌, get_or, List, [], ◌∷◌, length, refl, ap, sym, ◌∙◌, arith}
use Rattle.cap_lanes.specs.Sides.{LanesId, WorkerSide, AllOf, eight_workers}
use Rattle.engine_tests.specs.Same.{SameLanes}

pub record SameAt (ps : List WorkerSide) (i : ℕ) (e : WorkerSide) : Type 0 where
  pub from : WorkerSide
  pub is : (d : WorkerSide) → get_or ps i d ≡ from
  pub same : e.lanes ≡ from.lanes

pub all_same : (ps es : List WorkerSide) → length es ≡ length ps → ((i : ℕ) (d : WorkerSide) → i < length ps → SameAt ps i (get_or es i d)) → SameLanes ps es
all_same [] [] n h = tt
all_same [] (e ∷ es) n h = absurd (omega arith)
all_same (p ∷ ps) [] n h = absurd (omega arith)
all_same (p ∷ ps) (e ∷ es) n h =
    let g = h 0 e (omega arith) in
    (g.same ∙ ap (λ (s : WorkerSide). s.lanes) (sym (g.is p)), all_same ps es (omega arith) (λ i d l. (let k = h (suc i) d (omega arith) in record { from = k.from; is = k.is; same = k.same })))

pub all_of_same : (z : LanesId) (ps es : List WorkerSide) → AllOf z ps → SameLanes ps es → AllOf z es
all_of_same z [] [] h g = tt
all_of_same z [] (e ∷ es) h g = absurd g
all_of_same z (p ∷ ps) [] h g = absurd g
all_of_same z (p ∷ ps) (e ∷ es) h g = (g.0 ∙ h.0, all_of_same z ps es h.1 g.1)

pub eight_of : (z : LanesId) → AllOf z (eight_workers z)
eight_of z = (refl, (refl, (refl, (refl, (refl, (refl, (refl, (refl, tt))))))))
