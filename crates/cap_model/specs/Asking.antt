-- How an ask enters a cluster: rounded, in place of the one of its key, and what that does to reservations.
use Rattle.std.specs.Prelude.{ℕ, ◌-◌, Bool, not, ◌&&◌, ◌||◌, List, [], ◌∷◌, filter, ◌==◌, bytes_eq, if◌then◌else◌}
use Rattle.std.specs.List.{fold}
use Rattle.std.specs.Option.{option_map_or}
use Rattle.std.specs.Ordering.{is_lt}
use Rattle.cap_base.specs.Cascade.{holds_of}
use Rattle.cap_vector.specs.Rounding.{round_up}
use Rattle.cap_base.specs.Settings.{Settings}
use Rattle.cap_model.specs.declared.ask.Key.{Key}
use Rattle.cap_model.specs.Asks.{same_key, ask_key_cmp, Ask}
use Rattle.cap_model.specs.Flat.{Flat, App, is_for, ask_at, app_at, with_app, with_reserved}

-- the asks without the one of a key
abbrev pub without_key : Key → List Ask → List Ask
without_key key asks = filter (λ ask. not (same_key ask.key key)) asks

-- asks in order of key, with one more
abbrev pub with_ask : Ask → List Ask → List Ask
with_ask ask [] = ask ∷ []
with_ask ask (x ∷ asks) = if is_lt (ask_key_cmp ask.key x.key) then ask ∷ x ∷ asks else x ∷ with_ask ask asks

-- the asks after one that replaces its key; a count of 0 takes the key away
abbrev pub put_ask : Ask → List Ask → List Ask
put_ask ask asks = if ask.count == 0 then without_key ask.key asks else with_ask ask (without_key ask.key asks)

-- the list in which only the first n of those that pass a test are kept, and all others
abbrev pub keep_first : {A : Type 0} → (A → Bool) → ℕ → List A → List A
keep_first test n [] = []
keep_first test n (x ∷ xs) =
    let rest = keep_first test (if test x then n - 1 else n) xs in
    if test x && n == 0 then rest else x ∷ rest

-- an ask as it is kept
abbrev pub rounded_ask : ℕ → Settings → Ask → Ask
rounded_ask K settings ask = record ask { resource = round_up K ask.resource settings.minimum_allocation settings.maximum_allocation }

-- whether an ask is for another resource or another place than the one that it replaces
abbrev pub is_changed : Ask → Ask → Bool
is_changed new old = not (bytes_eq new.resource old.resource) || not (bytes_eq new.place old.place)

-- how many reservations of its key an ask leaves: as many as it counts, and none where its resource or place changes
abbrev pub reservations_left : App → Ask → ℕ
reservations_left app ask = if holds_of (is_changed ask) (ask_at ask.key app.asks) then 0 else ask.count

module _ {K : ℕ} where
  -- the cluster after an ask of an application, already rounded; of the reservations that go, the newest go first
  abbrev pub after_ask : ℕ → Flat K → Ask → Flat K
  after_ask n cluster ask =
      let left = option_map_or (λ app. reservations_left app ask) (app_at cluster n) 0 in
      with_reserved (keep_first (is_for n ask.key) left cluster.nodes.reserved) (with_app n (λ app. record app { asks = put_ask ask app.asks }) cluster)

  -- the cluster after the asks of one request, one after the other
  abbrev pub after_asks : ℕ → List Ask → Flat K → Flat K
  after_asks n asks cluster = fold (λ c ask. after_ask n c (rounded_ask K c.settings ask)) cluster asks
