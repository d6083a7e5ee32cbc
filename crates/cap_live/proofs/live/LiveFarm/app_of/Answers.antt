use Rattle.cap_live.proofs.Prelude.{◌∙◌, ap, sym, subst, map, Some, None, AppTable, IsRising, account_of, app_in}
use Rattle.cap_live.proofs.Apps.{has_waiter, none_of, seen_of}
use Rattle.cap_live.proofs.live.LiveFarm.app_of.Goals as goal

pub returns-in_default-clause-none : goal.returns-in_default-clause-none
returns-in_default-clause-none g c = λ is.
    let a = c.apps-apps.ensures in
    let rise = subst (λ (t : AppTable). IsRising 1 (map (λ app. app.number) t.active) t.next) a.table c.numbers_rise.ensures in
    rw (← c.self.view_is) (none_of c.self.inside.cluster.now rise c.args.number None (sym (c.in_default.ensures.found ∙ ap (λ t. app_in t c.args.number) a.table)) tt)

pub returns-then-not-is_waiting-clause-none : goal.returns-then-not-is_waiting-clause-none
returns-then-not-is_waiting-clause-none g c = λ is.
    let a = c.apps-apps.ensures in
    let rise = subst (λ (t : AppTable). IsRising 1 (map (λ app. app.number) t.active) t.next) a.table c.numbers_rise.ensures in
    rw (← c.self.view_is) (none_of c.self.inside.cluster.now rise c.args.number (Some c.in-Some.app.now.app) (sym (c.in-Some.ensures.found ∙ ap (λ t. app_in t c.args.number) a.table)) (sym c.is_waiting.ensures ∙ c.if-not-is_waiting.true))

pub returns-clause-has : goal.returns-clause-has
returns-clause-has g c =
    let a = c.apps-apps.ensures in
    let rise = subst (λ (t : AppTable). IsRising 1 (map (λ app. app.number) t.active) t.next) a.table c.numbers_rise.ensures in
    rw (← c.self.view_is) (has_waiter c.self.inside.cluster.now rise c.args.number c.in-Some.app.now (sym (c.in-Some.ensures.found ∙ ap (λ t. app_in t c.args.number) a.table)) (sym (c.in-Some.ensures.account ∙ ap (account_of c.args.number) a.accounts)) (sym c.is_waiting.ensures ∙ c.if-not-is_waiting.false) (λ want m. a.impossible want (c.in-Some.ensures.impossible want m)))

pub returns-clause-found : goal.returns-clause-found
returns-clause-found g c =
    let a = c.apps-apps.ensures in
    let rise = subst (λ (t : AppTable). IsRising 1 (map (λ app. app.number) t.active) t.next) a.table c.numbers_rise.ensures in
    rw (← c.self.view_is) (seen_of c.self.inside.cluster.now rise c.args.number c.in-Some.app.now.app (sym (c.in-Some.ensures.found ∙ ap (λ t. app_in t c.args.number) a.table)) (sym c.is_waiting.ensures ∙ c.if-not-is_waiting.false))
