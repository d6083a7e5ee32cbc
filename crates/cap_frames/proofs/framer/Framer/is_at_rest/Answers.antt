use Rattle.cap_frames.proofs.Prelude.{◌≡◌, ◌⊎◌, ◌∙◌, List, ℕ, inl, inr, refl, ap, sym, true, false, subst, IsRest, History, IsAtRest, history_of, IsKept, Inside}
use Rattle.cap_frames.proofs.Histories.{rest_comes, fault_comes, frame_comes}
use Rattle.cap_frames.specs.declared.front.Front.{Front}
use Rattle.cap_frames.specs.declared.front.Front.TheVariants.{Fault, Whole}
use Rattle.cap_frames.specs.Waiting.{Shows}
use Rattle.cap_frames.proofs.framer.Framer.is_at_rest.Goals as goal

pub returns-then-self : goal.returns-then-self
returns-then-self c =
    let spent : c.args.self.now.is_spent ≡ true = ap (λ (h : History). h.is_spent) (sym c.self.view_is) ∙ c.if-self.true in
    (λ never. cc, λ at. cc (at.0, spent))

pub returns-in-Rest : goal.returns-in-Rest
returns-in-Rest c =
    let comes = rest_comes c.self.inside c.args.self.now c.if-self.false c.self.invariant c.self.view_is (subst IsRest c.as_slice.ensures c.in-Rest.ensures) in
    (λ _. (ap (λ (h : History). h.is_spent) (sym c.self.view_is) ∙ c.if-self.false, comes.0), λ _. refl)

-- what shows a fault or a frame is not at rest
no_rest : (f : Inside) (h : History) (front : Front) → f.is_spent ≡ false → IsKept f → history_of f ≡ h → (front ≡ Fault) ⊎ (front ≡ Whole) → Shows f.buffer.items front → ¬ IsAtRest h
no_rest f h front unspent kept is (inl fault) shows = (fault_comes f h unspent kept is (subst (Shows f.buffer.items) fault shows)).1
no_rest f h front unspent kept is (inr whole) shows = (frame_comes f h unspent kept is (subst (Shows f.buffer.items) whole shows)).0

pub returns-in-Fault : goal.returns-in-Fault
returns-in-Fault c =
    let no = no_rest c.self.inside c.args.self.now c.of.result c.if-self.false c.self.invariant c.self.view_is c.in-Fault.is (subst (λ (bytes : List ℕ). Shows bytes c.of.result) c.as_slice.ensures c.of.ensures) in
    (λ never. cc, λ at. absurd (no at.1))
