use Rattle.cap_replay.proofs.Prelude.{◌≡◌, List, ℕ, ◌++◌, length, ap, sym, ◌∙◌, subst, arith, strip_carriage_return, nat_tests, nil_from_length, MayNotFollow, FailsAtStep}
use Rattle.cap_replay.proofs.player.play_line.Goals as goal

pub returns-then-is_empty-clause-bad : goal.returns-then-is_empty-clause-bad
returns-then-is_empty-clause-bad c = λ n e.
    let empty = c.if-is_empty.ensures in
    let none : length c.args.begun.now.items ≡ 0 = grind (arith, nat_tests, empty, c.args.begun.now.ok.0) in
    let line = c.without_return.ensures ∙ ap (λ (b : List ℕ). strip_carriage_return (b ++ c.args.last.now)) (sym (nil_from_length c.args.begun.now.items none)) in
    subst (λ (x : List ℕ). MayNotFollow x c.args.script.now.simulation) line (c.play.ensures.bad n e)

pub returns-then-is_empty-clause-fault : goal.returns-then-is_empty-clause-fault
returns-then-is_empty-clause-fault c = λ fault e.
    let empty = c.if-is_empty.ensures in
    let none : length c.args.begun.now.items ≡ 0 = grind (arith, nat_tests, empty, c.args.begun.now.ok.0) in
    let line = c.without_return.ensures ∙ ap (λ (b : List ℕ). strip_carriage_return (b ++ c.args.last.now)) (sym (nil_from_length c.args.begun.now.items none)) in
    subst (λ (x : List ℕ). FailsAtStep x c.args.script.now.simulation fault) line (c.play.ensures.fault fault e)

pub returns-in-Err-clause-bad : goal.returns-in-Err-clause-bad
returns-in-Err-clause-bad c = λ n e.
    let line = c.without_return-2.ensures ∙ ap strip_carriage_return (c.deref.ensures.value ∙ c.in_ok-extend_from_slice.ensures.items) in
    subst (λ (x : List ℕ). MayNotFollow x c.args.script.now.simulation) line (c.in-Err.ensures.bad n e)

pub returns-in-Err-clause-fault : goal.returns-in-Err-clause-fault
returns-in-Err-clause-fault c = λ fault e.
    let line = c.without_return-2.ensures ∙ ap strip_carriage_return (c.deref.ensures.value ∙ c.in_ok-extend_from_slice.ensures.items) in
    subst (λ (x : List ℕ). FailsAtStep x c.args.script.now.simulation fault) line (c.in-Err.ensures.fault fault e)
