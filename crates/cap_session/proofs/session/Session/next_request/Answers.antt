use Rattle.std.proofs.lemmas.Bool.Decides.{nat_tests}
use Rattle.std.specs.Bool.{◌==◌}
use Rattle.cap_session.proofs.Prelude.{◌≡◌, [], ◌∷◌, ◌++◌, refl, ap, subst, ◌∙◌, append-nil, nil_from_length, Some, List, OpenRequest, SessionState, NextGives, IsSession, IsKept, nothing, opens_in, state_inside, Inside, Request, resources, ℕ, true, length, arith}
use Rattle.cap_session.specs.declared.session.Next.TheVariants as nexts
use Rattle.cap_session.proofs.SessionSteps.{promises, none_asked, next_opens, bad_none, comes}
use Rattle.cap_session.proofs.Unanswered.{next_fewer}
use Rattle.cap_session.proofs.session.Session.next_request.Goals as goal

pub returns-in-Some-clause-session : goal.returns-in-Some-clause-session
returns-in-Some-clause-session c = subst IsSession c.self.view_is (promises c.self.inside c.self.invariant)

-- ---- a request that was read ahead

abbrev opening : goal.In-Some-pop_front → Inside
opening c = record c.self.inside { ahead = c.pop_front.new.self }

pub invariant_of-self : goal.invariant_of-self
invariant_of-self c = (next_opens c.self.inside (opening c) (Some c.in-Some-pop_front.request) c.self.invariant c.in-Some-pop_front.ensures.items refl).0

pub returns-then-not-is_empty-clause-gives : goal.returns-then-not-is_empty-clause-gives
returns-then-not-is_empty-clause-gives c =
    let (kept, (o, same, is, now)) = next_opens c.self.inside (opening c) (Some c.in-Some-pop_front.request) c.self.invariant c.in-Some-pop_front.ensures.items refl in
    let none : opens_in c.self.inside ≡ [] = ap (λ (s : SessionState). s.opens) c.self.view_is ∙ c.requires in
    let then = now ∙ ap (λ (x : List OpenRequest). record (state_inside c.self.inside) { opens = x ++ o ∷ [] }) none in
    subst (λ (s : SessionState). NextGives s (state_inside (opening c)) (nexts.Request c.in-Some-pop_front.request)) c.self.view_is
    (c.in_default.is, [], [], o, nothing, same, is, cc (then, append-nil (state_inside c.self.inside).answered, append-nil c.self.inside.unsent.items))

pub returns-then-not-is_empty-clause-session : goal.returns-then-not-is_empty-clause-session
returns-then-not-is_empty-clause-session c = promises (opening c) (invariant_of-self c)

-- a list of length 0 has nothing
none_if_empty : (ahead : List (Request resources)) (n : ℕ) → n ≡ length ahead → true ≡ (n == 0) → ahead ≡ []
none_if_empty ahead n same is = nil_from_length ahead (grind (arith, nat_tests))

-- ---- less than a frame is there

pub returns-then-is_at_rest-clause-gives : goal.returns-then-is_at_rest-clause-gives
returns-then-is_at_rest-clause-gives c =
    let s = c.self.inside in
    let none : opens_in s ≡ [] = ap (λ (x : SessionState). x.opens) c.self.view_is ∙ c.requires in
    let empty = none_if_empty s.ahead.items _ s.ahead.ok.0 c.if-not-is_empty.ensures in
    let asked = none_asked s c.self.invariant none empty in
    let still = (comes s s nexts.Need c.self.invariant c.in_default.is asked none (bad_none s.framer s.unsent.items s.answered.items, asked, (c.is_at_rest.ensures.0 c.if-is_at_rest.true).1) empty c.in_default.is refl).1 in
    subst (λ (x : SessionState). NextGives x x nexts.Need) c.self.view_is still

pub returns-then-is_at_rest-clause-session : goal.returns-then-is_at_rest-clause-session
returns-then-is_at_rest-clause-session c = subst IsSession c.self.view_is (promises c.self.inside c.self.invariant)

-- ---- what was found

abbrev found : goal.After-find → Inside
found c = record c.self.inside { framer = c.find.new.framer; asked = c.find.new.asked; unsent = c.find.new.unsent; answered = c.find.new.answered; ended = c.find.new.ended }

came : (c : goal.After-find) → IsKept (found c) × NextGives (state_inside c.self.inside) (state_inside (found c)) c.find.result
came c =
    let none : opens_in c.self.inside ≡ [] = ap (λ (s : SessionState). s.opens) c.self.view_is ∙ c.requires in
    let empty = none_if_empty c.self.inside.ahead.items _ c.self.inside.ahead.ok.0 c.if-not-is_empty.ensures in
    let asked = none_asked c.self.inside c.self.invariant none empty in
    comes c.self.inside (found c) c.find.result c.self.invariant c.in_default.is asked none c.find.ensures.finds empty c.find.ensures.ended refl

pub find-requires-clause-asked : goal.find-requires-clause-asked
find-requires-clause-asked c =
    let none : opens_in c.self.inside ≡ [] = ap (λ (s : SessionState). s.opens) c.self.view_is ∙ c.requires in
    none_asked c.self.inside c.self.invariant none (none_if_empty c.self.inside.ahead.items _ c.self.inside.ahead.ok.0 c.if-not-is_empty.ensures)

pub invariant_of-self-2 : goal.invariant_of-self-2
invariant_of-self-2 c = (came c).0

pub returns-clause-gives : goal.returns-clause-gives
returns-clause-gives c = subst (λ (s : SessionState). NextGives s (state_inside (found c)) c.find.result) c.self.view_is (came c).1

pub returns-clause-session : goal.returns-clause-session
returns-clause-session c = promises (found c) (came c).0

pub returns-clause-less : goal.returns-clause-less
returns-clause-less c = next_fewer c.args.self.now (state_inside (found c)) c.find.result (returns-clause-gives c)
