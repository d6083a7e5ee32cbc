use Rattle.cap_choice.proofs.Prelude.{◌≡◌, ◌⊎◌, ◌<◌, ℕ, sym, subst, length, Option, Some, None, option_map, AppSight, Sight, Offer, IsOffer, ComesBefore, ComesUpTo, IsNearest, HasNoNextApp, IsNextApp, IsShut, IsWaiter, IsWhole}
use Rattle.std.specs.Prelude.{IfSome, MatchOption}
use Rattle.cap_choice.proofs.Walking.{all_held, apps_left, fewer_left, first_of_all, no_first, none_left, none_yet, nothing_nearer, then_next, then_none, with_shut}
use Rattle.cap_choice.proofs.choice.nearest_taker.Goals as goal

pub returns-then-least-count : goal.returns-then-least-count
returns-then-least-count g c =
    let sight = g.F.Farm.sight c.args.farm.now in
    all_held sight c.requires.whole c.args.first (ComesBefore sight None) c.next_unreserved-least.result c.args.count c.next_unreserved-least.ensures c.requires.count c.if-least-count.true

-- before the first application only asks of those that are shut are looked at
module _ {K : ℕ} (sight : Sight K) (whole : IsWhole sight) (first : ℕ) {A : Type 0} (shown : A → AppSight) where
  first_shut : (next : Option A) → MatchOption next (HasNoNextApp sight None) (λ app. IsNextApp sight None (shown app)) → (o : Offer) → IsOffer sight o → ComesBefore sight (option_map shown next) o → IsShut sight o.app
  first_shut None h o is before = no_first sight whole first h o is
  first_shut (Some app) h o is before = first_of_all sight whole first (shown app) h o is before

  first_waits : (after : Option AppSight) (next : Option A) → MatchOption next (HasNoNextApp sight after) (λ app. IsNextApp sight after (shown app)) → IfSome next (λ app. IsWaiter sight (shown app))
  first_waits after None h = tt
  first_waits after (Some app) h = h.waits

  next_up_to : (app : AppSight) → IsWaiter sight app → (next : Option A) → MatchOption next (HasNoNextApp sight (Some app)) (λ x. IsNextApp sight (Some app) (shown x)) → (o : Offer) → IsOffer sight o → ComesBefore sight (option_map shown next) o → ComesUpTo sight app (length app.asks) o ⊎ IsShut sight o.app
  next_up_to app waits None h o is before = then_none sight whole first app waits h o is
  next_up_to app waits (Some x) h o is before = then_next sight whole first app waits (shown x) h o is before

  next_fewer : (app : AppSight) → IsWaiter sight app → (next : Option A) → MatchOption next (HasNoNextApp sight (Some app)) (λ x. IsNextApp sight (Some app) (shown x)) → apps_left sight (option_map shown next) < apps_left sight (Some app)
  next_fewer app waits None h = none_left sight app waits
  next_fewer app waits (Some x) h = fewer_left sight app (shown x) waits h

pub loop-next-init : goal.loop-next-init
loop-next-init g c =
    let sight = g.F.Farm.sight c.args.farm.now in
    let shown = g.F.Farm.shown c.args.farm.now in
    let first = c.first_app-next.ensures.first in
    record {
      near = none_yet sight c.requires.whole c.args.first (ComesBefore sight (option_map shown c.first_app-next.result)) c.args.count c.requires.count (first_shut sight c.requires.whole c.args.first shown c.first_app-next.result first);
      has = c.first_app-next.ensures.has;
      served = c.first_app-next.ensures.served;
      waits = first_waits sight c.requires.whole c.args.first shown None c.first_app-next.result first;
    }

pub returns-then-nearest-least : goal.returns-then-nearest-least
returns-then-nearest-least g c =
    let sight = g.F.Farm.sight c.args.farm.now in
    let app = g.F.Farm.shown c.args.farm.now c.in-Some.app in
    nothing_nearer sight c.requires.whole c.args.first (ComesUpTo sight app (length app.asks)) (ComesBefore sight None) c.next_unreserved-least.result c.nearer_taker-nearest.result.turn c.nearer_taker-nearest.result.proposal c.next_unreserved-least.ensures c.if-nearest-least.true c.nearer_taker-nearest.ensures

-- the application that was looked at is the one that came next
came_next : {A : Type 0} (P : A → Type 0) (next : Option A) (app : A) → next ≡ Some app → IfSome next P → P app
came_next P next app is h = subst (λ o. IfSome o P) is h

pub loop-next-smaller : goal.loop-next-smaller
loop-next-smaller g c =
    let sight = g.F.Farm.sight c.args.farm.now in
    let shown = g.F.Farm.shown c.args.farm.now in
    let waits = came_next (λ x. IsWaiter sight (shown x)) c.loop-next.next c.in-Some.app c.in-Some.is c.loop-next.invariant.waits in
    subst (λ o. apps_left sight (option_map shown c.next_app-next.result) < apps_left sight (option_map shown o)) (sym c.in-Some.is) (next_fewer sight c.requires.whole c.args.first shown (shown c.in-Some.app) waits c.next_app-next.result c.next_app-next.ensures.next)

pub loop-next-preserved : goal.loop-next-preserved
loop-next-preserved g c =
    let sight = g.F.Farm.sight c.args.farm.now in
    let shown = g.F.Farm.shown c.args.farm.now in
    let app = shown c.in-Some.app in
    let next = c.next_app-next.ensures.next in
    let waits = came_next (λ x. IsWaiter sight (shown x)) c.loop-next.next c.in-Some.app c.in-Some.is c.loop-next.invariant.waits in
    record {
      near = with_shut sight c.requires.whole c.args.first (ComesUpTo sight app (length app.asks)) (ComesBefore sight (option_map shown c.next_app-next.result)) c.nearer_taker-nearest.result.turn c.nearer_taker-nearest.result.proposal (next_up_to sight c.requires.whole c.args.first shown app waits c.next_app-next.result next) c.nearer_taker-nearest.ensures;
      has = c.next_app-next.ensures.has;
      served = c.next_app-next.ensures.served;
      waits = first_waits sight c.requires.whole c.args.first shown (Some app) c.next_app-next.result next;
    }

-- where no application is left all were looked at
pub returns : goal.returns
returns g c =
    let sight = g.F.Farm.sight c.args.farm.now in
    let shown = g.F.Farm.shown c.args.farm.now in
    subst (λ o. IsNearest sight c.args.first (ComesBefore sight (option_map shown o)) c.loop-next.nearest.turn c.loop-next.nearest.proposal) c.in_default.is c.loop-next.invariant.near
