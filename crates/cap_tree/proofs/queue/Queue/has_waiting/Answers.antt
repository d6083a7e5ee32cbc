use Rattle.cap_tree.proofs.Prelude.{sym, subst, arith, nat_tests, IsIn}
use Rattle.cap_tree.proofs.Numbers.{last_is, some_before, there_before}
use Rattle.cap_tree.specs.Numbers.{AreNumbers}
use Rattle.cap_tree.proofs.queue.Queue.has_waiting.Goals as goal

pub returns-then-place-eq0-clause-absent : goal.returns-then-place-eq0-clause-absent
returns-then-place-eq0-clause-absent g c e there =
    let ns = c.as_slice-waiting.result.now in
    let same = c.as_slice-waiting.ensures.value in
    let none = c.if-place-eq0.true in
    let some = some_before c.args.number ns (subst AreNumbers (sym same) (rw (← c.self.view_is) at c.requires)) c.place_of-place.result c.place_of-place.ensures (subst (IsIn c.args.number) (sym same) (rw (← c.self.view_is) at there)) in
    absurd (grind (arith, nat_tests, none, some))

pub returns-clause-there : goal.returns-clause-there
returns-clause-there g c e =
    let ns = c.as_slice-waiting.result.now in
    let same = c.as_slice-waiting.ensures.value in
    let some = c.if-place-eq0.false in
    rw (← c.self.view_is) (subst (IsIn c.args.number) same (there_before c.args.number ns (subst AreNumbers (sym same) (rw (← c.self.view_is) at c.requires)) c.place_of-place.result c.place_of-place.ensures (grind (arith, nat_tests, some)) e))

pub returns-clause-absent : goal.returns-clause-absent
returns-clause-absent g c e there =
    let ns = c.as_slice-waiting.result.now in
    let same = c.as_slice-waiting.ensures.value in
    let is = last_is c.args.number ns (subst AreNumbers (sym same) (rw (← c.self.view_is) at c.requires)) c.place_of-place.result c.place_of-place.ensures (subst (IsIn c.args.number) (sym same) (rw (← c.self.view_is) at there)) in
    absurd (grind (arith, nat_tests, e, is))
