-- Asks, without the last resource.
use Rattle.cap_narrow.proofs.Prelude.{◌≡◌, ℕ, suc, ◌-◌, List, [], ◌∷◌, refl, ◌∙◌, ap, Bool, true, false, Option, Some, None, not, ◌==◌, ◌||◌, map, filter, option_map, bytes_eq, if◌then◌else◌, fold, option_map_or, is_lt, All-cons, All-head, All-tail, All-filter, holds_of, each_of, found, find_mapped_at, filter_mapped, Ask, same_key, ask_key_cmp, Key, Flat, App, Reservation, is_for, ask_at, app_at, without_key, with_ask, put_ask, keep_first, is_changed, reservations_left, rounded_ask, after_ask, after_asks, take_one, EndsInNone, narrow, narrow_ask, narrow_app, narrow_reservation, WantNone, HasNone}
use Rattle.cap_narrow.proofs.Lists.{holds_mapped, holds_same, change_meets, keep_mapped, all_changed_if, all_kept}
use Rattle.cap_narrow.proofs.Vectors.{rounding_narrow, rounding_ends, same_narrow}
use Rattle.cap_narrow.proofs.Sights.{app_narrow}

module _ (K : ℕ) where
  -- ---- lists of asks
  without_narrow : (key : Key) (asks : List Ask) → without_key key (map (narrow_ask K) asks) ≡ map (narrow_ask K) (without_key key asks)
  without_narrow key asks = filter_mapped (λ (ask : Ask). not (same_key ask.key key)) (narrow_ask K) asks

  with_narrow : (ask : Ask) (asks : List Ask) → with_ask (narrow_ask K ask) (map (narrow_ask K) asks) ≡ map (narrow_ask K) (with_ask ask asks)
  with_narrow ask [] = refl
  with_narrow ask (x ∷ asks) = by (is_lt (ask_key_cmp ask.key x.key)) (with_narrow ask asks)
    where
      by : (b : Bool) → with_ask (narrow_ask K ask) (map (narrow_ask K) asks) ≡ map (narrow_ask K) (with_ask ask asks) →
          (if b then narrow_ask K ask ∷ narrow_ask K x ∷ map (narrow_ask K) asks else narrow_ask K x ∷ with_ask (narrow_ask K ask) (map (narrow_ask K) asks))
          ≡ map (narrow_ask K) (if b then ask ∷ x ∷ asks else x ∷ with_ask ask asks)
      by true e = refl
      by false e = ap (λ ys. narrow_ask K x ∷ ys) e

  pub put_narrow : (ask : Ask) (asks : List Ask) → put_ask (narrow_ask K ask) (map (narrow_ask K) asks) ≡ map (narrow_ask K) (put_ask ask asks)
  put_narrow ask asks = by (ask.count == 0)
    where
      by : (b : Bool) → (if b then without_key ask.key (map (narrow_ask K) asks) else with_ask (narrow_ask K ask) (without_key ask.key (map (narrow_ask K) asks)))
          ≡ map (narrow_ask K) (if b then without_key ask.key asks else with_ask ask (without_key ask.key asks))
      by true = without_narrow ask.key asks
      by false = ap (with_ask (narrow_ask K ask)) (without_narrow ask.key asks) ∙ with_narrow ask (without_key ask.key asks)

  pub puts_narrow : (new : List Ask) (asks : List Ask) → fold (λ kept ask. put_ask ask kept) (map (narrow_ask K) asks) (map (narrow_ask K) new) ≡ map (narrow_ask K) (fold (λ kept ask. put_ask ask kept) asks new)
  puts_narrow [] asks = refl
  puts_narrow (ask ∷ new) asks = ap (λ kept. fold (λ kept ask. put_ask ask kept) kept (map (narrow_ask K) new)) (put_narrow ask asks) ∙ puts_narrow new (put_ask ask asks)

  pub one_narrow : (key : Key) (asks : List Ask) → take_one key (map (narrow_ask K) asks) ≡ map (narrow_ask K) (take_one key asks)
  one_narrow key asks =
      ap (filter (λ (ask : Ask). not (ask.count == 0)))
      (change_meets (narrow_ask K) (λ (ask : Ask). record ask { count = ask.count - 1 }) (λ (ask : Ask). record ask { count = ask.count - 1 }) (λ (ask : Ask). same_key ask.key key) (λ ask. refl) (λ ask. refl) asks)
      ∙ filter_mapped (λ (ask : Ask). not (ask.count == 0)) (narrow_ask K) (map (λ (ask : Ask). if same_key ask.key key then record ask { count = ask.count - 1 } else ask) asks)

  -- an ask that wants none joins those that want none
  none_with : (ask : Ask) (asks : List Ask) → EndsInNone K ask.resource → WantNone K asks → WantNone K (with_ask ask asks)
  none_with ask [] e n = All-cons (λ (x : Ask). EndsInNone K x.resource) ask [] e n
  none_with ask (y ∷ asks) e n = by (is_lt (ask_key_cmp ask.key y.key)) (none_with ask asks e (All-tail (λ (x : Ask). EndsInNone K x.resource) y asks n))
    where
      by : (b : Bool) → WantNone K (with_ask ask asks) → WantNone K (if b then ask ∷ y ∷ asks else y ∷ with_ask ask asks)
      by true r = All-cons (λ (x : Ask). EndsInNone K x.resource) ask (y ∷ asks) e n
      by false r = All-cons (λ (x : Ask). EndsInNone K x.resource) y (with_ask ask asks) (All-head (λ (x : Ask). EndsInNone K x.resource) y asks n) r

  none_put : (ask : Ask) (asks : List Ask) → EndsInNone K ask.resource → WantNone K asks → WantNone K (put_ask ask asks)
  none_put ask asks e n = by (ask.count == 0)
    where
      others : WantNone K (without_key ask.key asks)
      others = All-filter (λ (x : Ask). not (same_key x.key ask.key)) (λ (x : Ask). EndsInNone K x.resource) asks n

      by : (b : Bool) → WantNone K (if b then without_key ask.key asks else with_ask ask (without_key ask.key asks))
      by true = others
      by false = none_with ask (without_key ask.key asks) e others

  pub none_taken : (key : Key) (asks : List Ask) → WantNone K asks → WantNone K (take_one key asks)
  none_taken key asks n =
      All-filter (λ (ask : Ask). not (ask.count == 0)) (λ (ask : Ask). EndsInNone K ask.resource) (map (λ (ask : Ask). if same_key ask.key key then record ask { count = ask.count - 1 } else ask) asks)
      (all_changed_if (λ (ask : Ask). EndsInNone K ask.resource) (λ ask. same_key ask.key key) (λ ask. record ask { count = ask.count - 1 }) (λ ask e. e) asks n)

module _ {K : ℕ} where
  -- ---- an ask that enters
  module _ (cluster : Flat (suc K)) (none : HasNone cluster) where
    app_none : (n : ℕ) (app : App) → app_at cluster n ≡ Some app → WantNone K app.asks
    app_none n app e =
        each_of (λ (a : App). WantNone K a.asks) cluster.apps.active none.asks app (found (λ (a : App). a.number == n) cluster.apps.active app e).0

    left_narrow : (app : App) (ask : Ask) → EndsInNone K ask.resource → WantNone K app.asks → reservations_left (narrow_app K app) (narrow_ask K ask) ≡ reservations_left app ask
    left_narrow app ask e n =
        ap (λ b. if b then 0 else ask.count)
        (ap (holds_of (is_changed (narrow_ask K ask))) (find_mapped_at (narrow_ask K) (λ (x : Ask). same_key x.key ask.key) app.asks)
        ∙ holds_mapped (narrow_ask K) (is_changed (narrow_ask K ask)) (ask_at ask.key app.asks)
        ∙ holds_same (λ x. is_changed (narrow_ask K ask) (narrow_ask K x)) (is_changed ask) (ask_at ask.key app.asks)
        (λ x g. ap (λ b. not b || not (bytes_eq ask.place x.place)) (same_narrow K ask.resource x.resource e (each_of (λ (y : Ask). EndsInNone K y.resource) app.asks n x (found (λ (y : Ask). same_key y.key ask.key) app.asks x g).0))))

    lefts_narrow : (n : ℕ) (ask : Ask) → EndsInNone K ask.resource →
        option_map_or (λ app. reservations_left app (narrow_ask K ask)) (app_at (narrow cluster) n) 0 ≡ option_map_or (λ app. reservations_left app ask) (app_at cluster n) 0
    lefts_narrow n ask e = ap (λ o. option_map_or (λ app. reservations_left app (narrow_ask K ask)) o 0) (app_narrow cluster n) ∙ by (app_at cluster n) refl
      where
        by : (o : Option App) → app_at cluster n ≡ o → option_map_or (λ app. reservations_left app (narrow_ask K ask)) (option_map (narrow_app K) o) 0 ≡ option_map_or (λ app. reservations_left app ask) o 0
        by None g = refl
        by (Some app) g = left_narrow app ask e (app_none n app g)

    after_ask_narrow : (n : ℕ) (ask : Ask) → EndsInNone K ask.resource → after_ask n (narrow cluster) (narrow_ask K ask) ≡ narrow (after_ask n cluster ask)
    after_ask_narrow n ask e =
        λ i. record {
          settings = (narrow cluster).settings;
          apps = record (narrow cluster).apps {
            active = change_meets (narrow_app K) (λ (a : App). record a { asks = put_ask (narrow_ask K ask) a.asks }) (λ (a : App). record a { asks = put_ask ask a.asks }) (λ (a : App). a.number == n) (λ a. refl)
                (λ a. ap (λ asks. record (narrow_app K a) { asks = asks }) (put_narrow K ask a.asks)) cluster.apps.active i;
          };
          nodes = record (narrow cluster).nodes {
            reserved = (ap (λ left. keep_first (is_for n ask.key) left (map (narrow_reservation K) cluster.nodes.reserved)) (lefts_narrow n ask e)
                ∙ keep_mapped (narrow_reservation K) (is_for n ask.key) (λ r. refl) (option_map_or (λ app. reservations_left app ask) (app_at cluster n) 0) cluster.nodes.reserved) i;
          };
        }

    none_after_ask : (n : ℕ) (ask : Ask) → EndsInNone K ask.resource → HasNone (after_ask n cluster ask)
    none_after_ask n ask e = record {
      settings = none.settings;
      asks = all_changed_if (λ (a : App). WantNone K a.asks) (λ a. a.number == n) (λ a. record a { asks = put_ask ask a.asks }) (λ a w. none_put K ask a.asks e w) cluster.apps.active none.asks;
      nodes = none.nodes;
      live = none.live;
      reserved = all_kept (λ (r : Reservation). EndsInNone K r.resource) (is_for n ask.key) (option_map_or (λ app. reservations_left app ask) (app_at cluster n) 0) cluster.nodes.reserved none.reserved;
    }

  rounded_narrow : (cluster : Flat (suc K)) (ask : Ask) → rounded_ask K (narrow cluster).settings (narrow_ask K ask) ≡ narrow_ask K (rounded_ask (suc K) cluster.settings ask)
  rounded_narrow cluster ask = ap (λ v. record ask { resource = v }) (rounding_narrow K ask.resource cluster.settings.minimum_allocation cluster.settings.maximum_allocation)

  rounded_none : (cluster : Flat (suc K)) → HasNone cluster → (ask : Ask) → EndsInNone K ask.resource → EndsInNone K (rounded_ask (suc K) cluster.settings ask).resource
  rounded_none cluster none ask e = rounding_ends K ask.resource cluster.settings.minimum_allocation cluster.settings.maximum_allocation e none.settings.minimum

  -- ---- all asks of an allocate
  pub asks_narrow : (n : ℕ) (asks : List Ask) (cluster : Flat (suc K)) → HasNone cluster → WantNone K asks →
      (after_asks n (map (narrow_ask K) asks) (narrow cluster) ≡ narrow (after_asks n asks cluster)) × HasNone (after_asks n asks cluster)
  asks_narrow n [] cluster none a = (refl, none)
  asks_narrow n (ask ∷ asks) cluster none a =
      let rounded = rounded_ask (suc K) cluster.settings ask in
      let e = rounded_none cluster none ask (All-head (λ (x : Ask). EndsInNone K x.resource) ask asks a) in
      let mid = after_ask n cluster rounded in
      let r = asks_narrow n asks mid (none_after_ask cluster none n rounded e) (All-tail (λ (x : Ask). EndsInNone K x.resource) ask asks a) in (
        ap (λ asked. after_asks n (map (narrow_ask K) asks) (after_ask n (narrow cluster) asked)) (rounded_narrow cluster ask)
            ∙ ap (after_asks n (map (narrow_ask K) asks)) (after_ask_narrow cluster none n rounded e)
            ∙ r.0,
        r.1,
      )
