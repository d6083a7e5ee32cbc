-- What the world keeps for contracts alone goes on with each step.
use Rattle.cap_world.proofs.Prelude.{◌≡◌, ℕ, List, [], ◌∷◌, ◌++◌, length, drop, Result, refl, sym, ap, subst, ◌∙◌, append-nil, drop_at, Vec, flat_map-append, resources, Event, Flat, Step, Did, NoMemory, WorldState, Known, Adds, IsLawful, events_of, StepOutcome}
use Rattle.cap_world.proofs.Lawful.{outcome_goes}

events_more : (entries : List (Vec (Event resources) × ℕ)) (v : Vec (Event resources)) (before more : List (Event resources)) → v.items ≡ before ++ more → events_of (entries ++ (v, length before) ∷ []) ≡ events_of entries ++ more
events_more entries v before more e =
    flat_map-append (λ (x : Vec (Event resources) × ℕ). drop x.1 x.0.items) entries ((v, length before) ∷ [])
    ∙ ap (λ (x : List (Event resources)). events_of entries ++ x) (append-nil (drop (length before) v.items) ∙ rw e (drop_at before more (length before) refl))

pub events_kept : (entries after : List (Vec (Event resources) × ℕ)) (v : Vec (Event resources)) (held : ℕ) (before more : List (Event resources)) → held ≡ length before → after ≡ entries ++ (v, held) ∷ [] → v.items ≡ before ++ more → events_of after ≡ events_of entries ++ more
events_kept entries after v held before more h a e = rw (a, h) (events_more entries v before more e)

pub lawful_kept : (opening : Flat resources) (s : Step) (r : Result Did NoMemory) (old new : WorldState) (entries after : List (Vec (Event resources) × ℕ)) (v : Vec (Event resources)) (held : ℕ) (before : List (Event resources)) → held ≡ length before → after ≡ entries ++ (v, held) ∷ [] → StepOutcome s r old new before v.items → IsLawful opening (events_of entries) old → IsLawful opening (events_of after) new
lawful_kept opening s r old new entries after v held before h a o w =
    let g = outcome_goes s r old new before v.items o in
    subst (λ (es : List (Event resources)). IsLawful opening es new) (sym (events_kept entries after v held before g.0 h a g.1)) (g.2 opening (events_of entries) w)

pub adds_kept : (was is : Known) (s : Step) (r : Result Did NoMemory) (old new : WorldState) (entries after : List (Vec (Event resources) × ℕ)) (v : Vec (Event resources)) (held : ℕ) (before : List (Event resources)) → held ≡ length before → after ≡ entries ++ (v, held) ∷ [] → StepOutcome s r old new before v.items → events_of entries ≡ was.events → events_of after ≡ is.events → is.opening ≡ was.opening → Adds was is before v.items
adds_kept was is s r old new entries after v held before h a o k l p =
    let g = outcome_goes s r old new before v.items o in
    record {
      opening = p;
      more = g.0;
      lent = g.1;
      kept = sym l ∙ events_kept entries after v held before g.0 h a g.1 ∙ ap (λ (es : List (Event resources)). es ++ g.0) k;
    }
