-- Reservations stay apart, on nodes that they fit, and no more than their asks count.
use Rattle.cap_laws.proofs.Prelude.{◌≡◌, ℕ, ◌≤◌, Bool, true, false, List, [], refl, sym, ◌∙◌, ap, inl, inr, arith, ◌⊎◌, Option, Some, None, cond, ◌&&◌, ◌==◌, filter, length, option_map, nat_le, if◌then◌else◌, option_map_or, nat_tests, length-filter, holds_of, fits, Key, same_key, Ask, Flat, App, ClusterNode, Reservation, app_at, node_at, is_for, ask_at, after_ask, after_asks, put_ask, reservations_left, is_changed, IsReservationBounded, reservations_for, IsIn, found, and_parts, cases_Bool, find_changed, same_key_is, kept_few, put_is_found, others_are_found, not_same_other}
use Rattle.cap_laws.proofs.lists.Parts.{IsPart, part_in, part_sum, part_keep_first}
use Rattle.cap_laws.proofs.calls.Steps.{over_asks}
use Rattle.cap_laws.proofs.calls.Lessening.{capacity}
use Rattle.cap_laws.proofs.bounds.Growing.{in_sum}

-- the asks of an application
abbrev pub asking : Option App → Option (List Ask)
asking o = option_map (λ app. app.asks) o

-- whether the ask for a key counts at least so many
abbrev pub enough : ℕ → Key → Option App → Bool
enough n key o = holds_of (λ app. holds_of (λ ask. nat_le n ask.count) (ask_at key app.asks)) o

in_asking : (n : ℕ) (key : Key) (o : Option App) → enough n key o ≡ holds_of (λ asks. holds_of (λ ask. nat_le n ask.count) (ask_at key asks)) (asking o)
in_asking n key None = refl
in_asking n key (Some a) = refl

pub same_asking : (n : ℕ) (key : Key) (o p : Option App) → asking o ≡ asking p → enough n key o ≡ enough n key p
same_asking n key o p e = in_asking n key o ∙ ap (holds_of (λ asks. holds_of (λ ask. nat_le n ask.count) (ask_at key asks))) e ∙ sym (in_asking n key p)

fewer_ask : (m n : ℕ) (o : Option Ask) → m ≤ n → holds_of (λ ask. nat_le n ask.count) o ≡ true → holds_of (λ ask. nat_le m ask.count) o ≡ true
fewer_ask m n None h e = absurd (cc e)
fewer_ask m n (Some ask) h e = grind (arith, nat_tests, h, e)

pub fewer : (m n : ℕ) (key : Key) (o : Option App) → m ≤ n → enough n key o ≡ true → enough m key o ≡ true
fewer m n key None h e = absurd (cc e)
fewer m n key (Some a) h e = fewer_ask m n (ask_at key a.asks) h e

-- what enough says
pub record IsEnough (n : ℕ) (key : Key) (o : Option App) : Type 0 where
  pub app : App
  pub at : o ≡ Some app
  pub ask : Ask
  pub found : ask_at key app.asks ≡ Some ask
  pub count : n ≤ ask.count

pub enough_is : (n : ℕ) (key : Key) (o : Option App) → enough n key o ≡ true → IsEnough n key o
enough_is n key None e = absurd (cc e)
enough_is n key (Some a) e = by (ask_at key a.asks) refl e
  where
    by : (o : Option Ask) → ask_at key a.asks ≡ o → holds_of (λ ask. nat_le n ask.count) o ≡ true → IsEnough n key (Some a)
    by None f g = absurd (cc g)
    by (Some ask) f g = record { app = a; at = refl; ask = ask; found = f; count = grind (arith, nat_tests, g) }

pub is_enough : (n : ℕ) (key : Key) (o : Option App) → IsEnough n key o → enough n key o ≡ true
is_enough n key o w =
    let count = w.count in
    let yes : nat_le n w.ask.count ≡ true = grind (arith, nat_tests, count) in
    ap (enough n key) w.at ∙ ap (λ a. holds_of (λ ask. nat_le n ask.count) a) w.found ∙ yes

-- counting reservations
pub fewer_left : (t : Reservation → Bool) (rs ss : List Reservation) → IsPart rs ss → length (filter t ss) ≤ length (filter t rs)
fewer_left t rs ss p = omega (arith, length-filter t rs, length-filter t ss, part_sum (λ r. cond (t r) 1 0) rs ss p)

pub one_left : (t : Reservation → Bool) (rs : List Reservation) (r : Reservation) → IsIn r rs → t r ≡ true → 1 ≤ length (filter t rs)
one_left t rs r m h =
    let one : one_where (t r) ≡ 1 = ap one_where h in
    omega (arith, length-filter t rs, one, in_sum (λ x. cond (t x) 1 0) rs r m)
  where
    one_where : Bool → ℕ
    one_where b = cond b 1 0

same_capacity : (resource : List ℕ) (o p : Option ClusterNode) → capacity o ≡ capacity p → holds_of (λ node. fits resource node.total) o ≡ holds_of (λ node. fits resource node.total) p
same_capacity resource None None e = refl
same_capacity resource None (Some x) e = absurd (cc e)
same_capacity resource (Some x) None e = absurd (cc e)
same_capacity resource (Some x) (Some y) e = ap (λ o. fits resource (Rattle.std.specs.Prelude.unwrap_or o [])) e

-- what a test of an application and a key says
pub record IsForIt (n : ℕ) (k : Key) (r : Reservation) : Type 0 where
  pub app : r.app ≡ n
  pub key : r.key ≡ k

pub for_it : (n : ℕ) (k : Key) (r : Reservation) → is_for n k r ≡ true → IsForIt n k r
for_it n k r h =
    let both = and_parts (r.app == n) (same_key r.key k) h in
    record { app = (let t = both.0 in grind (arith, nat_tests, t)); key = same_key_is r.key k (both.1) }

-- reservations for one key of an application, where the application and the key are others' too
pub same_reservations : {K : ℕ} (cluster : Flat K) (n : ℕ) (k : Key) (r : Reservation) → IsForIt n k r → reservations_for cluster r.app r.key ≡ reservations_for cluster n k
same_reservations cluster n k r f = λ i. reservations_for cluster (f.app i) (f.key i)

at_most : (b : Bool) (n m : ℕ) → cond b 0 n ≡ m → 1 ≤ m → m ≡ n
at_most true n m e h = absurd (omega (arith, e, h))
at_most false n m e h = sym e

-- an application with an ask put in, and the same at one number
abbrev put_in : Ask → App → App
put_in ask app = record app { asks = put_ask ask app.asks }

abbrev put_at : ℕ → Ask → App → App
put_at n ask app = if app.number == n then put_in ask app else app

put_number : (n : ℕ) (ask : Ask) (a : App) → (put_at n ask a).number ≡ a.number
put_number n ask a = by (a.number == n)
  where
    by : (b : Bool) → (cond b (put_in ask a) a).number ≡ a.number
    by true = refl
    by false = refl

-- another key's ask stays
other_stays : (n : ℕ) (ask : Ask) (app : App) (m : ℕ) (k : Key) → app.number ≡ m → m == n && same_key k ask.key ≡ false → ask_at k (put_at n ask app).asks ≡ ask_at k app.asks
other_stays n ask app m k e h = by (app.number == n) refl
  where
    by : (b : Bool) → app.number == n ≡ b → ask_at k (cond b (put_in ask app) app).asks ≡ ask_at k app.asks
    by true g =
        let here : m == n ≡ true = grind (arith, nat_tests, e, g) in
        let no : same_key k ask.key ≡ false = ap (λ b. b && same_key k ask.key) (sym here) ∙ h in
        others_are_found k ask app.asks (not_same_other k ask.key no)
    by false g = refl

module _ {K : ℕ} where
  -- each reservation is bounded
  abbrev pub AreBounded : Flat K → Type 0
  AreBounded cluster = (r : Reservation) → IsIn r cluster.nodes.reserved → IsReservationBounded cluster r

  -- where some reservations stay, with their applications' asks and their nodes
  pub carried : (old new : Flat K) → IsPart old.nodes.reserved new.nodes.reserved →
      ((r : Reservation) → IsIn r new.nodes.reserved → asking (app_at new r.app) ≡ asking (app_at old r.app)) →
      ((r : Reservation) → IsIn r new.nodes.reserved → capacity (node_at new r.node) ≡ capacity (node_at old r.node)) → AreBounded old → AreBounded new
  carried old new p asks nodes b r m =
      let before = b r (part_in old.nodes.reserved new.nodes.reserved r p m) in
      record {
        node = same_capacity r.resource (node_at new r.node) (node_at old r.node) (nodes r m) ∙ before.node;
        ask = same_asking (reservations_for new r.app r.key) r.key (app_at new r.app) (app_at old r.app) (asks r m)
            ∙ fewer (reservations_for new r.app r.key) (reservations_for old r.app r.key) r.key (app_at old r.app) (fewer_left (is_for r.app r.key) old.nodes.reserved new.nodes.reserved p) before.ask;
      }

  -- one ask
  module _ (n : ℕ) (old : Flat K) (ask : Ask) where
    put_is_at : (m : ℕ) → app_at (after_ask n old ask) m ≡ option_map (put_at n ask) (app_at old m)
    put_is_at m = find_changed (λ (app : App). app.number) (put_at n ask) (put_number n ask) m old.apps.active

    abbrev left : ℕ
    left = option_map_or (λ app. reservations_left app ask) (app_at old n) 0

    number_is : (m : ℕ) (app : App) → app_at old m ≡ Some app → app.number ≡ m
    number_is m app e = let t = (found (λ (a : App). a.number == m) old.apps.active app e).1 in grind (arith, nat_tests, t)

    pub ask_keeps : AreBounded old → AreBounded (after_ask n old ask)
    ask_keeps b r m = record { node = before.node; ask = is_enough (reservations_for new r.app r.key) r.key (app_at new r.app) (by (cases_Bool (is_for n ask.key r))) }
      where
        new : Flat K
        new = after_ask n old ask

        part : IsPart old.nodes.reserved new.nodes.reserved
        part = part_keep_first (is_for n ask.key) left old.nodes.reserved

        before : IsReservationBounded old r
        before = b r (part_in old.nodes.reserved new.nodes.reserved r part m)

        e : IsEnough (reservations_for old r.app r.key) r.key (app_at old r.app)
        e = enough_is (reservations_for old r.app r.key) r.key (app_at old r.app) before.ask

        at : app_at new r.app ≡ Some (put_at n ask e.app)
        at = put_is_at r.app ∙ ap (option_map (put_at n ask)) e.at

        by : ((is_for n ask.key r ≡ true) ⊎ (is_for n ask.key r ≡ false)) → IsEnough (reservations_for new r.app r.key) r.key (app_at new r.app)
        by (inl h) =
            let f = for_it n ask.key r h in
            let here : app_at old n ≡ Some e.app = ap (app_at old) (sym f.app) ∙ e.at in
            let is_left : left ≡ reservations_left e.app ask = ap (λ o. option_map_or (λ app. reservations_left app ask) o 0) here in
            let few = kept_few (is_for n ask.key) left old.nodes.reserved in
            let one = one_left (is_for n ask.key) new.nodes.reserved r m h in
            let whole : left ≡ ask.count = at_most (holds_of (is_changed ask) (ask_at ask.key e.app.asks)) ask.count left (sym is_left) (omega (arith, few, one)) in
            let count : ask.count == 0 ≡ false = (let positive : 1 ≤ ask.count = omega (arith, few, one, whole) in grind (arith, nat_tests, positive)) in
            let same = same_reservations new n ask.key r f in
            let number : e.app.number == n ≡ true = (let a = number_is r.app e.app e.at in let c = f.app in grind (arith, nat_tests, a, c)) in
            record {
              app = put_at n ask e.app;
              at = at;
              ask = ask;
              found = ap (λ c. ask_at r.key (cond c (put_in ask e.app) e.app).asks) number ∙ ap (λ k. ask_at k (put_ask ask e.app.asks)) f.key ∙ put_is_found ask e.app.asks count;
              count = omega (arith, few, same, whole);
            }
        by (inr h) =
            let few = fewer_left (is_for r.app r.key) old.nodes.reserved new.nodes.reserved part in
            let enough_before = e.count in
            record {
              app = put_at n ask e.app;
              at = at;
              ask = e.ask;
              found = other_stays n ask e.app r.app r.key (number_is r.app e.app e.at) h ∙ e.found;
              count = omega (arith, few, enough_before);
            }

  pub asks_keep : (n : ℕ) (asks : List Ask) (old : Flat K) → AreBounded old → AreBounded (after_asks n asks old)
  asks_keep n = over_asks AreBounded n (ask_keeps n)
