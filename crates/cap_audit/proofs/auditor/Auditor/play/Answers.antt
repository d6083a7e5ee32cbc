use Rattle.std.proofs.Common.{◌∷◌, [], refl}
use Rattle.cap_audit.proofs.Pieces.{begins_so, on_ok}
use Rattle.cap_audit.proofs.Truth.{adds_line, plays_line}
use Rattle.cap_audit.proofs.Onwards.{adds_on, if_false, late_nowhere, leads_nowhere, leads_on, no_property_line, opens_nowhere, stands_late, tells}
use Rattle.cap_audit.proofs.auditor.Auditor.play.Goals as goal

pub returns-in-Some : goal.returns-in-Some
returns-in-Some c =
    let cases = c.in-Some.ensures.cases in
    let word = 99 ∷ 111 ∷ 110 ∷ 102 ∷ 32 ∷ [] in
    let line = c.args.line.now in
    let property = c.in-Some.property.now in
    let begins = begins_so line property word cases.0 cases.1 in
    record {
      plays = on_ok c.add.result c.add.ensures.adds (λ adds. adds_line line property begins adds);
      only = tells c.add.result c.add.ensures.adds c.add.ensures.late (λ adds. adds_on line property begins adds) (λ late. late_nowhere line property c.args.self.now begins (stands_late c.args.self.now.cluster late));
    }

pub returns-in-Err-clause-only : goal.returns-in-Err-clause-only
returns-in-Err-clause-only c = if_false c.in-Err.stop c.in-Err.ensures.none (λ fails. opens_nowhere c.args.line.now (no_property_line c.args.line.now c.in_default.ensures.cases) fails)

pub follow-requires : goal.follow-requires
follow-requires c = rw c.in-Ok.ensures.begins.stands refl

pub returns-in-Ok-follow : goal.returns-in-Ok-follow
returns-in-Ok-follow c = record {
  plays = plays_line c.args.line.now c.in-Ok.ensures.begins c.in-Ok-follow.ensures.goes;
  only = leads_on c.args.line.now (no_property_line c.args.line.now c.in_default.ensures.cases) c.in-Ok.ensures.begins c.in-Ok-follow.ensures.goes;
}

pub returns-in-Err-follow-clause-only : goal.returns-in-Err-follow-clause-only
returns-in-Err-follow-clause-only c = if_false c.in-Err-follow.stop c.in-Err-follow.ensures.none (λ never. leads_nowhere c.args.line.now (no_property_line c.args.line.now c.in_default.ensures.cases) c.in-Ok.ensures.begins never)
