-- A step from a bounded cluster keeps each bound.
use Rattle.cap_laws.proofs.Prelude.{◌≡◌, ℕ, true, List, [], ◌∷◌, refl, ◌∙◌, ap, inr, Option, Some, None, not, ◌==◌, ◌-◌, length, filter, find, map, option_map, if◌then◌else◌, All, Ask, Cause, Request, Reply, Flat, App, Reservation, app_at, containers_on, after_asks, with_ends, new_app, after_processed_allocate, after_telling, after_wishes, released_by, ended_by, AreApart, IsNodeBounded, IsReservationBounded, IsBounded, AreThere, NodesStayBounded, ReservationsStayApart, ReservationsStayBounded, each_of, of_each, find_changed, find_others, find_with_more, kept_if}
use Rattle.cap_laws.proofs.lists.Parts.{part_itself, part_filter}
use Rattle.cap_laws.proofs.calls.Steps.{Effect, by_step}
use Rattle.cap_laws.proofs.calls.Moves.{gone_app}
use Rattle.cap_laws.proofs.calls.Lessening.{HasPlaces, IsSite, IsLessened, its_capacity, lessened, call_part}
use Rattle.cap_laws.proofs.bounds.CallBounds.{nodes_stay, apart_part}
use Rattle.cap_laws.proofs.choice.Proposers.{seen_is}
use Rattle.cap_laws.proofs.bounds.Growing.{nodes_grow}
use Rattle.cap_laws.proofs.bounds.Reserving.{asking, AreBounded, carried, asks_keep}
use Rattle.cap_laws.proofs.bounds.ReservedAfter.{reserve_keeps, grant_keeps, reserve_apart}
use Rattle.cap_laws.proofs.bounds.Formed.{places_of}

asking_kept : (f : App → App) → ((a : App) → (f a).asks ≡ a.asks) → (o : Option App) → asking (option_map f o) ≡ asking o
asking_kept f e None = refl
asking_kept f e (Some a) = λ i. Some (e a i)

-- a change that keeps numbers and asks
pub asking_at : (f : App → App) → ((a : App) → (f a).number ≡ a.number) → ((a : App) → (f a).asks ≡ a.asks) → (n : ℕ) (xs : List App) → asking (find (λ (a : App). a.number == n) (map f xs)) ≡ asking (find (λ (a : App). a.number == n) xs)
asking_at f number asks n xs = ap asking (find_changed (λ (a : App). a.number) f number n xs) ∙ asking_kept f asks (find (λ (a : App). a.number == n) xs)

pub asking_one : (m : ℕ) (f : App → App) → ((a : App) → (f a).number ≡ a.number) → ((a : App) → (f a).asks ≡ a.asks) → (n : ℕ) (xs : List App) →
    asking (find (λ (a : App). a.number == n) (map (λ a. if a.number == m then f a else a) xs)) ≡ asking (find (λ (a : App). a.number == n) xs)
asking_one m f number asks n xs =
    asking_at (λ a. if a.number == m then f a else a) (λ a. kept_if (a.number == m) (λ (x : App). x.number) (f a) a (number a)) (λ a. kept_if (a.number == m) (λ (x : App). x.asks) (f a) a (asks a)) n xs

module _ {K : ℕ} where
  -- calls

  pub each_bounded : (old : Flat K) → IsBounded old → AreBounded old
  each_bounded old b = each_of (IsReservationBounded old) old.nodes.reserved b.reservations

  -- where the asks of those that hold something stay, so do the bounds of reservations
  pub asks_same : (old new : Flat K) → IsLessened old new → HasPlaces old → ((app node : ℕ) → IsSite new app node → asking (app_at new app) ≡ asking (app_at old app)) → AreBounded old → AreBounded new
  asks_same old new l h f b =
      carried old new l.reserved (λ r m. f r.app r.node (inr (r, m, refl, refl))) (λ r m. its_capacity old new l r.app r.node h (inr (r, m, refl, refl))) b

  allocate_keeps : (old : Flat K) (n id : ℕ) (asks : List Ask) (releases : List ℕ) → AreBounded old → AreBounded (after_processed_allocate old n id asks releases)
  allocate_keeps old n id asks releases b =
      let x = after_asks n asks old in
      let w = after_wishes old n asks releases in
      carried x (after_processed_allocate old n id asks releases) (part_itself x.nodes.reserved)
      (λ r m.
      asking_one n (after_telling id (length releases - length (released_by old n releases))) (λ a. refl) (λ a. refl) r.app w.apps.active
      ∙ asking_at (with_ends Cause.Released (released_by old n releases)) (λ a. refl) (λ a. refl) r.app x.apps.active)
      (λ r m. refl) (asks_keep n asks old b)

  call_keeps : (old new : Flat K) {request : Request K} {reply : Reply K} → HasPlaces old → AreBounded old → IsLessened old new → Effect old request reply new → AreBounded new
  call_keeps old new h b l (Effect.submit path user e) =
      asks_same old new l h (λ app node s. ap asking (find_with_more (λ (a : App). a.number) app old.apps.active (new_app old.apps.next path user ∷ []) (h app node s).0)) b
  call_keeps old new h b l (Effect.register_master m) = asks_same old new l h (λ app node s. asking_one m (λ a. record a { registered = true }) (λ a. refl) (λ a. refl) app old.apps.active) b
  call_keeps old new h b l (Effect.allocate app id asks releases there fresh) = allocate_keeps old app id asks releases b
  call_keeps old new h b l (Effect.finish_master m) = asks_same old new l h (λ app node s. ap asking (find_others (λ (a : App). a.number) m app (gone_app old m app node s) old.apps.active)) b
  call_keeps old new h b l (Effect.heartbeat n id ended fresh) = asks_same old new l h (λ app node s. asking_at (with_ends Cause.EndedOnNode (ended_by old n ended)) (λ a. refl) (λ a. refl) app old.apps.active) b
  call_keeps old new h b l (Effect.node_gone m) = asks_same old new l h (λ app node s. asking_at (with_ends Cause.NodeLost (containers_on old.nodes m)) (λ a. refl) (λ a. refl) app old.apps.active) b
  call_keeps old new h b l _ = asks_same old new l h (λ app node s. refl) b

pub nodes_stay_bounded : NodesStayBounded
nodes_stay_bounded K old new event b s =
    let h = places_of old b.formed in
    by_step old (λ e x. All (IsNodeBounded x) x.nodes.present) (λ by request reply x call. nodes_stay old x (lessened old x call) h b.formed.nodes b.nodes)
    (λ c admissible number. nodes_grow old b.formed.nodes c (admissible.1.0) b.nodes) (λ r admissible. b.nodes) event new s

pub reservations_stay_apart : ReservationsStayApart
reservations_stay_apart K old new event b s =
    by_step old (λ e x. AreApart x.nodes.reserved) (λ by request reply x call. apart_part old.nodes.reserved x.nodes.reserved (call_part old x call) b.apart)
    (λ c admissible number.
    apart_part old.nodes.reserved (filter (λ (r : Reservation). not (r.node == c.node)) old.nodes.reserved) (part_filter (λ (r : Reservation). not (r.node == c.node)) old.nodes.reserved) b.apart)
    (λ r admissible. reserve_apart old r (admissible.0).present (admissible.1.1) b.apart) event new s

pub reservations_stay_bounded : ReservationsStayBounded
reservations_stay_bounded K old new event b s =
    let h = places_of old b.formed in
    let each = each_bounded old b in
    let placed = each_of (λ (r : Reservation). AreThere old r.app r.node) old.nodes.reserved b.formed.reserved in
    of_each (IsReservationBounded new) new.nodes.reserved
    (by_step old (λ e x. AreBounded x) (λ by request reply x call. call_keeps old x h each (lessened old x call) call)
    (λ c admissible number. grant_keeps old b.apart placed each c (seen_is old b.formed.apps c.app (admissible.0).registered) (admissible.1.1))
    (λ r admissible. reserve_keeps old b.apart placed each r (seen_is old b.formed.apps r.app (admissible.0).registered) (admissible.1.0) (admissible.1.3)) event new s)
