use Rattle.cap_asks.proofs.Prelude.{arith, ◌≡◌, ◌++◌, ◌∷◌, [], ap, sym, subst, ◌∙◌, map, take, Some, All, map_push, take_more, All-push, get_or_from_slice_get, slice_get_within, App, HeldApp, account_of, waiting_of}
use Rattle.std.proofs.lemmas.List.{take_all}
use Rattle.cap_asks.proofs.Waiters.{waiters_count}
use Rattle.cap_asks.proofs.apps.Apps.waiting.Goals as goal

pub loop-index-preserved : goal.loop-index-preserved
loop-index-preserved g c =
    let waiting = waiting_of c.args.self.now.table.active in
    let i = c.loop-index.index in
    let held = c.nth_waiting-app.result.now in
    let at = c.nth_waiting-app.ensures.app in
    let items = c.in-Ok-push.ensures.items ∙ ap (λ (h : HeldApp). c.loop-index.waiting.items ++ h ∷ []) c.new.ensures in
    let old = c.loop-index.invariant in
    record {
      apps =
          ap (map (λ (h : HeldApp). h.app)) items ∙ map_push (λ (h : HeldApp). h.app) c.loop-index.waiting.items held
          ∙ (λ j. old.apps j ++ held.app ∷ [])
          ∙ sym (take_more waiting i held.app (slice_get_within waiting i held.app at) ∙ ap (λ (a : App). take i waiting ++ a ∷ []) (get_or_from_slice_get waiting i held.app held.app at));
      accounts = subst (All (λ (h : HeldApp). account_of h.app.number c.args.self.now.accounts ≡ Some h.account)) (sym items) (All-push (λ (h : HeldApp). account_of h.app.number c.args.self.now.accounts ≡ Some h.account) c.loop-index.waiting.items held old.accounts c.nth_waiting-app.ensures.account);
    }

pub nth_waiting-app-requires : goal.nth_waiting-app-requires
nth_waiting-app-requires g c =
    let all = waiters_count c.self.invariant.0 in
    let count = c.len-count.ensures in
    let more = c.loop-index-test.true in
    (omega arith, (omega arith, rw (← c.self.view_is) (omega (arith, all, count, more))))

pub returns-clause-apps : goal.returns-clause-apps
returns-clause-apps g c =
    let all = waiters_count c.self.invariant.0 in
    let count = c.len-count.ensures in
    let end = c.loop-index-test.false in
    c.loop-index.invariant.apps ∙ take_all c.loop-index.index (waiting_of c.args.self.now.table.active) (rw (← c.self.view_is) (omega (arith, all, count, end)))
