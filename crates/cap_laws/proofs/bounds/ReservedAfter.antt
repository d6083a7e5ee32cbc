-- A grant and a reservation keep reservations bounded.
use Rattle.cap_laws.proofs.Prelude.{◌≡◌, ℕ, ◌+◌, ◌-◌, ◌≤◌, Bool, true, false, List, [], ◌∷◌, ◌++◌, refl, sym, ◌∙◌, ap, subst, inl, inr, arith, ◌⊎◌, Option, Some, None, IsSome, cond, not, ◌&&◌, ◌||◌, ◌==◌, filter, find, option_map, unwrap_or, if◌then◌else◌, list_any, nat_tests, sum_by_push, length-filter, sum_by-filter_both, list_any-append, holds_of, fits, Key, same_key, Ask, Flat, App, ClusterNode, Container, Reservation, app_at, node_at, is_for, ask_at, reservation_on, NodeSight, sight_of, node_sight, seen_node, NodeProposal, is_wanted, is_reserved_for, node_reservation, fits_total, AreApart, reservations_for, AreThere, after_grant, after_reserve, take_one, news_of, grant_proposal, reserve_proposal, IsIn, found, of_filter, in_filter, in_either, or_from, and_from, cases_Bool, find_changed, one_where, same_key_itself, one_less, one_less_found, other_ask_stays}
use Rattle.cap_laws.proofs.lists.Parts.{part_filter}
use Rattle.cap_laws.proofs.choice.Proposers.{IsSeen, node_seen, held_for}
use Rattle.cap_laws.proofs.bounds.Reserving.{AreBounded, IsEnough, enough_is, is_enough, fewer_left, one_left, for_it, same_reservations}
use Rattle.cap_laws.proofs.bounds.Wanting.{wanted_is}

is_for_itself : (r : Reservation) → is_for r.app r.key r ≡ true
is_for_itself r = and_from (r.app == r.app) (same_key r.key r.key) (grind (arith, nat_tests)) (same_key_itself r.key)

same_some : {A : Type 0} (o : Option A) (x y : A) → o ≡ Some x → o ≡ Some y → x ≡ y
same_some o x y e f = ap (λ p. unwrap_or p x) (sym e ∙ f)

module _ {K : ℕ} (old : Flat K) (apart : AreApart old.nodes.reserved) (placed : (r : Reservation) → IsIn r old.nodes.reserved → AreThere old r.app r.node) (bounded : AreBounded old) where
  module _ (r : Reservation) (seen : IsSeen old r.app) (wanted : is_wanted (sight_of old) (reserve_proposal r) ≡ true) (fits_there : fits_total (sight_of old) (reserve_proposal r) ≡ true) where
    reserved_after : (n : ℕ) (k : Key) → reservations_for (after_reserve old r) n k ≡ reservations_for old n k + one_where (is_for n k r)
    reserved_after n k =
        omega (arith, length-filter (is_for n k) (old.nodes.reserved ++ r ∷ []), length-filter (is_for n k) old.nodes.reserved, sum_by_push (λ x. one_where (is_for n k x)) old.nodes.reserved r)

    its_node : holds_of (λ (node : ClusterNode). fits r.resource node.total) (node_at old r.node) ≡ true
    its_node = by (seen_node (sight_of old) r.node) refl fits_there
      where
        by : (o : Option NodeSight) → seen_node (sight_of old) r.node ≡ o → holds_of (λ (x : NodeSight). fits r.resource x.total) o ≡ true → holds_of (λ (node : ClusterNode). fits r.resource node.total) (node_at old r.node) ≡ true
        by None e h = absurd (cc h)
        by (Some s) e h =
            let n = node_seen old r.node (ap Rattle.std.specs.Prelude.is_some e) in
            let same : s ≡ node_sight old n.node = same_some (seen_node (sight_of old) r.node) s (node_sight old n.node) e n.seen in
            ap (holds_of (λ (node : ClusterNode). fits r.resource node.total)) n.at ∙ ap (λ (x : NodeSight). fits r.resource x.total) (sym same) ∙ h

    pub reserve_keeps : AreBounded (after_reserve old r)
    reserve_keeps s m = record {
      node = elim (in_either s old.nodes.reserved (r ∷ []) m) [
        | inl g ↦ (bounded s g).node
        | inr (inl e) ↦ subst (λ (x : Reservation). holds_of (λ (node : ClusterNode). fits x.resource node.total) (node_at old x.node) ≡ true) e its_node
        | inr (inr g) ↦ absurd g
      ];
      ask = is_enough (reservations_for new s.app s.key) s.key (app_at old s.app) (by (cases_Bool (is_for s.app s.key r)) (in_either s old.nodes.reserved (r ∷ []) m));
    }
      where
        new : Flat K
        new = after_reserve old r

        by : ((is_for s.app s.key r ≡ true) ⊎ (is_for s.app s.key r ≡ false)) → (IsIn s old.nodes.reserved ⊎ IsIn s (r ∷ [])) → IsEnough (reservations_for new s.app s.key) s.key (app_at old s.app)
        by (inl h) g =
            let f = for_it s.app s.key r h in
            let w = wanted_is old apart placed (reserve_proposal r) seen wanted in
            let one : one_where (is_for s.app s.key r) ≡ 1 = ap one_where h in
            let same = same_reservations old s.app s.key r f in
            let count = w.count in
            let all = reserved_after s.app s.key in
            record {
              app = seen.app;
              at = ap (app_at old) (sym f.app) ∙ seen.at;
              ask = w.ask;
              found = ap (λ k. ask_at k seen.app.asks) (sym f.key) ∙ w.found;
              count = omega (arith, one, same, count, all);
            }
        by (inr h) (inl g) =
            let e = enough_is (reservations_for old s.app s.key) s.key (app_at old s.app) (bounded s g).ask in
            let none : one_where (is_for s.app s.key r) ≡ 0 = ap one_where h in
            let count = e.count in
            let all = reserved_after s.app s.key in
            record { app = e.app; at = e.at; ask = e.ask; found = e.found; count = omega (arith, none, count, all) }
        by (inr h) (inr (inl e)) = let yes : is_for s.app s.key r ≡ true = subst (λ (x : Reservation). is_for x.app x.key r ≡ true) e (is_for_itself r) in absurd (cc (yes, h))
        by (inr h) (inr (inr g)) = absurd g

  module _ (c : Container) (seen : IsSeen old c.app)
      (needs : ((node_reservation (sight_of old) (grant_proposal c) ≡ None) × (is_wanted (sight_of old) (grant_proposal c) ≡ true)) ⊎ (is_reserved_for (sight_of old) (grant_proposal c) ≡ true)) where
    -- of the grant's own key at least one less is reserved than its ask counts
    less_reserved : (ask : Ask) → ask_at c.key seen.app.asks ≡ Some ask → reservations_for old c.app c.key ≤ ask.count → reservations_for (after_grant old c) c.app c.key + 1 ≤ ask.count
    less_reserved ask at count = by needs
      where
        t : Reservation → Bool
        t = is_for c.app c.key

        part : reservations_for (after_grant old c) c.app c.key ≤ reservations_for old c.app c.key
        part = fewer_left (is_for c.app c.key) old.nodes.reserved (filter (λ (r : Reservation). not (r.node == c.node)) old.nodes.reserved) (part_filter (λ (r : Reservation). not (r.node == c.node)) old.nodes.reserved)

        by : ((node_reservation (sight_of old) (grant_proposal c) ≡ None) × (is_wanted (sight_of old) (grant_proposal c) ≡ true)) ⊎ (is_reserved_for (sight_of old) (grant_proposal c) ≡ true) →
            reservations_for (after_grant old c) c.app c.key + 1 ≤ ask.count
        by (inl n) =
            let w = wanted_is old apart placed (grant_proposal c) seen (n.1) in
            let same : w.ask.count ≡ ask.count = ap (λ (a : Ask). a.count) (same_some (ask_at c.key seen.app.asks) w.ask ask w.found at) in
            let more = w.count in
            omega (arith, same, more, part)
        by (inr own) =
            let g = held_for old (grant_proposal c) own in
            let here : Reservation → Bool = λ r. r.node == c.node in
            let weight : Reservation → ℕ = λ r. one_where (is_for c.app c.key r) in
            let parts = sum_by-filter_both here (λ r. not (here r)) (λ r. refl) weight old.nodes.reserved in
            let node = g.node in
            let at_node : g.reservation.node == c.node ≡ true = grind (arith, nat_tests, node) in
            let one = one_left (is_for c.app c.key) (filter here old.nodes.reserved) g.reservation (in_filter here old.nodes.reserved g.reservation g.among at_node) g.for in
            let a = length-filter (is_for c.app c.key) old.nodes.reserved in
            let b = length-filter (is_for c.app c.key) (filter here old.nodes.reserved) in
            let d = length-filter (is_for c.app c.key) (filter (λ r. not (here r)) old.nodes.reserved) in
            omega (arith, parts, one, a, b, d, count)

    abbrev granting : App → App
    granting app = record app { asks = take_one c.key app.asks; grants = app.grants ++ news_of old c ∷ [] }

    abbrev granting_at : App → App
    granting_at app = if app.number == c.app then granting app else app

    same_number : (a : App) → (granting_at a).number ≡ a.number
    same_number a = by (a.number == c.app)
      where
        by : (b : Bool) → (cond b (granting a) a).number ≡ a.number
        by true = refl
        by false = refl

    -- under another key, or of another application, an ask stays
    unasked : (app : App) (n : ℕ) (k : Key) (ask : Ask) → app.number ≡ n → n == c.app && same_key k c.key ≡ false → ask_at k app.asks ≡ Some ask → ask.count == 0 ≡ false → ask_at k (granting_at app).asks ≡ Some ask
    unasked app n k ask e h at count = by (app.number == c.app) refl
      where
        by : (b : Bool) → app.number == c.app ≡ b → ask_at k (cond b (granting app) app).asks ≡ Some ask
        by true g =
            let here : n == c.app ≡ true = grind (arith, nat_tests, e, g) in
            other_ask_stays k c.key app.asks ask (ap (λ b. b && same_key k c.key) (sym here) ∙ h) at count
        by false g = at

    number_is : (n : ℕ) (app : App) → app_at old n ≡ Some app → app.number ≡ n
    number_is n app e = let t = (found (λ (a : App). a.number == n) old.apps.active app e).1 in grind (arith, nat_tests, t)

    pub grant_keeps : AreBounded (after_grant old c)
    grant_keeps s m = record { node = (bounded s before).node; ask = is_enough (reservations_for new s.app s.key) s.key (app_at new s.app) (by (cases_Bool (is_for c.app c.key s))) }
      where
        new : Flat K
        new = after_grant old c

        stay : Reservation → Bool
        stay r = not (r.node == c.node)

        before : IsIn s old.nodes.reserved
        before = (of_filter (λ (r : Reservation). not (r.node == c.node)) old.nodes.reserved s m).1

        e : IsEnough (reservations_for old s.app s.key) s.key (app_at old s.app)
        e = enough_is (reservations_for old s.app s.key) s.key (app_at old s.app) (bounded s before).ask

        at : app_at new s.app ≡ Some (granting_at e.app)
        at = find_changed (λ (app : App). app.number) granting_at same_number s.app old.apps.active ∙ ap (option_map granting_at) e.at

        by : ((is_for c.app c.key s ≡ true) ⊎ (is_for c.app c.key s ≡ false)) → IsEnough (reservations_for new s.app s.key) s.key (app_at new s.app)
        by (inl h) =
            let f = for_it c.app c.key s h in
            let this : e.app ≡ seen.app = same_some (app_at old c.app) e.app seen.app (ap (app_at old) (sym f.app) ∙ e.at) seen.at in
            let its_ask : ask_at c.key e.app.asks ≡ Some e.ask = ap (λ k. ask_at k e.app.asks) (sym f.key) ∙ e.found in
            let seen_ask : ask_at c.key seen.app.asks ≡ Some e.ask = ap (λ (a : App). ask_at c.key a.asks) (sym this) ∙ its_ask in
            let same_before = same_reservations old c.app c.key s f in
            let same_after = same_reservations new c.app c.key s f in
            let counted = e.count in
            let fewer = less_reserved e.ask seen_ask (omega (arith, counted, same_before)) in
            let one = one_left (is_for c.app c.key) new.nodes.reserved s m h in
            let positive : e.ask.count - 1 == 0 ≡ false = (let two : 2 ≤ e.ask.count = omega (arith, one, fewer) in grind (arith, nat_tests, two)) in
            let number : e.app.number == c.app ≡ true = (let a = number_is s.app e.app e.at in let b = f.app in grind (arith, nat_tests, a, b)) in
            record {
              app = granting_at e.app;
              at = at;
              ask = one_less e.ask;
              found = ap (λ b. ask_at s.key (cond b (granting e.app) e.app).asks) number ∙ ap (λ k. ask_at k (take_one c.key e.app.asks)) f.key ∙ one_less_found c.key e.app.asks e.ask its_ask positive;
              count = omega (arith, fewer, same_after);
            }
        by (inr h) =
            let fewer = fewer_left (is_for s.app s.key) old.nodes.reserved (filter (λ (r : Reservation). not (r.node == c.node)) old.nodes.reserved) (part_filter (λ (r : Reservation). not (r.node == c.node)) old.nodes.reserved) in
            let one = one_left (is_for s.app s.key) old.nodes.reserved s before (is_for_itself s) in
            let counted = e.count in
            let positive : e.ask.count == 0 ≡ false = (let some : 1 ≤ e.ask.count = omega (arith, one, counted) in grind (arith, nat_tests, some)) in
            record {
              app = granting_at e.app;
              at = at;
              ask = e.ask;
              found = unasked e.app s.app s.key e.ask (number_is s.app e.app e.at) h e.found positive;
              count = omega (arith, fewer, counted);
            }

-- a reservation on a node without one keeps them apart
pub none_on : {K : ℕ} (old : Flat K) (p : NodeProposal) → IsSome (seen_node (sight_of old) p.node) → node_reservation (sight_of old) p ≡ None → reservation_on old p.node ≡ None
none_on old p h e =
    let s = node_seen old p.node h in
    ap (reservation_on old) (sym s.number) ∙ ap (λ o. Rattle.std.specs.Prelude.option_and_then (λ (x : NodeSight). x.reservation) o) (sym s.seen) ∙ e

free_node : (n : ℕ) (rs : List Reservation) → find (λ (r : Reservation). r.node == n) rs ≡ None → (r : Reservation) → IsIn r rs → r.node == n ≡ false
free_node n [] e r m = absurd m
free_node n (x ∷ rs) e r m = by (x.node == n) refl (λ f g. free_node n rs f r g) e m
  where
    by : (b : Bool) → x.node == n ≡ b → (find (λ (y : Reservation). y.node == n) rs ≡ None → IsIn r rs → r.node == n ≡ false) → cond b (Some x) (find (λ (y : Reservation). y.node == n) rs) ≡ None → IsIn r (x ∷ rs) → r.node == n ≡ false
    by true h w f g = absurd (cc f)
    by false h w f (inl g) = ap (λ (y : Reservation). y.node == n) (sym g) ∙ h
    by false h w f (inr g) = w f g

apart_push : (rs : List Reservation) (r : Reservation) → ((s : Reservation) → IsIn s rs → s.node == r.node ≡ false) → AreApart rs → AreApart (rs ++ r ∷ [])
apart_push [] r f a = (refl, tt)
apart_push (s ∷ rs) r f a = (
  list_any-append (λ (t : Reservation). s.node == t.node) rs (r ∷ [])
      ∙ or_from (list_any (λ (t : Reservation). s.node == t.node) rs) (s.node == r.node || false) a.0 (or_from (s.node == r.node) false (f s (inl refl)) refl),
  apart_push rs r (λ t m. f t (inr m)) a.1,
)

pub reserve_apart : {K : ℕ} (old : Flat K) (r : Reservation) → IsSome (seen_node (sight_of old) r.node) → node_reservation (sight_of old) (reserve_proposal r) ≡ None → AreApart old.nodes.reserved → AreApart (after_reserve old r).nodes.reserved
reserve_apart old r h e a = apart_push old.nodes.reserved r (free_node r.node old.nodes.reserved (none_on old (reserve_proposal r) h e)) a
