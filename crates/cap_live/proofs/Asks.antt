-- The asks of an application, by their keys.
use Rattle.cap_live.proofs.Prelude.{◌≡◌, ℕ, zero, suc, ◌+◌, ◌-◌, ◌<◌, true, false, cond, List, [], ◌∷◌, map, length, Some, None, refl, sym, ◌∙◌, ap, subst, arith, inl, inr, ◌==◌, All, filter, slice_get, IsSome, cases_lt, same_Some, each_of, found, of_each, of_filter, of_map, value_of, eqb-true, sum_by_map, IsIn, IsRising, count_by, holds_of, nodes_on, on_nodes, before_not_same, AreAfter, AreKept, is_before, is_lt, Ordering, Less, Equal, Greater, Ask, Key, ask_key_cmp, same_key, same_key_is, same_key_itself, AreApart, App, ClusterNode, Flat, Reservation, ask_at, is_for, node_in, reservation_on, AppSight, NodeSight, app_sight, node_sight, sight_of, still_wanted, AreByKey}

-- a key before another is not it, and is less
less_of : (o : Ordering) → is_lt o ≡ true → o ≡ Less
less_of Less h = refl
less_of Equal h = absurd (cc h)
less_of Greater h = absurd (cc h)

later_key : (key : Key) (asks : List Ask) (i : ℕ) (ask : Ask) → AreAfter key asks → slice_get asks i ≡ Some ask → is_before key ask.key ≡ true
later_key key [] i ask a at = absurd (cc at)
later_key key (x ∷ asks) zero ask a at = subst (λ (y : Ask). is_before key y.key ≡ true) (same_Some x ask at) a.0
later_key key (x ∷ asks) (suc i) ask a at = later_key key asks i ask a.1 at

kept_rise : (asks : List Ask) → AreKept asks → (i j : ℕ) (a b : Ask) → i < j → slice_get asks i ≡ Some a → slice_get asks j ≡ Some b → ask_key_cmp a.key b.key ≡ Less
kept_rise [] k i j a b lt at there = absurd (cc at)
kept_rise (x ∷ asks) k i zero a b lt at there = absurd (omega (arith, lt))
kept_rise (x ∷ asks) k zero (suc j) a b lt at there = subst (λ (y : Ask). ask_key_cmp y.key b.key ≡ Less) (same_Some x a at) (less_of (ask_key_cmp x.key b.key) (later_key x.key asks j b k.1 there))
kept_rise (x ∷ asks) k (suc i) (suc j) a b lt at there = kept_rise asks k.2 i j a b (omega (arith, lt)) at there

-- each is found by its key at its index
pub key_found : (asks : List Ask) → AreKept asks → (i : ℕ) (ask : Ask) → slice_get asks i ≡ Some ask → ask_at ask.key asks ≡ Some ask
key_found [] k i ask at = absurd (cc at)
key_found (x ∷ asks) k zero ask at = let same = same_Some x ask at in ap (λ b. cond b (Some x) (ask_at ask.key asks)) (ap (λ (y : Ask). same_key y.key ask.key) same ∙ same_key_itself ask.key) ∙ ap (λ y. Some y) same
key_found (x ∷ asks) k (suc i) ask at = ap (λ b. cond b (Some x) (ask_at ask.key asks)) (before_not_same x.key ask.key (later_key x.key asks i ask k.1 at)) ∙ key_found asks k.2 i ask at

at_some : {A : Type 0} (xs : List A) (x : A) → IsIn x xs → (i : ℕ) × (slice_get xs i ≡ Some x)
at_some [] x m = absurd m
at_some (y ∷ xs) x (inl e) = (zero, ap (λ z. Some z) e)
at_some (y ∷ xs) x (inr m) = let r = at_some xs x m in (suc (r.0), r.1)

pub by_key : (asks : List Ask) → AreKept asks → AreByKey asks
by_key asks k = record {
  rise = kept_rise asks k;
  found = of_each (λ ask. ask_at ask.key asks ≡ Some ask) asks (λ ask m. let i = at_some asks ask m in key_found asks k (i.0) ask (i.1));
}

pub all_by_key : {K : ℕ} (flat : Flat K) → All (λ app. AreKept app.asks) flat.apps.active → All (λ app. AreByKey app.asks) (sight_of flat).apps
all_by_key flat kept =
    of_each (λ (s : AppSight). AreByKey s.asks) (sight_of flat).apps
    (λ s m.
    let x = of_map app_sight (filter (λ (a : App). a.registered) flat.apps.active) s m in
    let member = (of_filter (λ (a : App). a.registered) flat.apps.active (x.0) (x.1)).1 in
    subst (λ (y : AppSight). AreByKey y.asks) (x.2) (by_key (x.0).asks (each_of (λ (a : App). AreKept a.asks) flat.apps.active kept (x.0) member)))

-- a search by key
pub none_before : (asks : List Ask) (key : Key) → ((i : ℕ) (ask : Ask) → slice_get asks i ≡ Some ask → same_key ask.key key ≡ false) → None ≡ ask_at key asks
none_before [] key none = refl
none_before (x ∷ asks) key none = none_before asks key (λ i ask at. none (suc i) ask at) ∙ ap (λ b. cond b (Some x) (ask_at key asks)) (sym (none 0 x refl))

pub key_here : (asks : List Ask) → AreKept asks → (i : ℕ) (ask : Ask) (key : Key) → slice_get asks i ≡ Some ask → same_key ask.key key ≡ true → Some ask ≡ ask_at key asks
key_here asks k i ask key at same = sym (subst (λ q. ask_at q asks ≡ Some ask) (same_key_is ask.key key same) (key_found asks k i ask at))

-- one more has another key
pub one_more : (asks : List Ask) (key : Key) (index : ℕ) (x : Ask) → slice_get asks index ≡ Some x → same_key x.key key ≡ false → ((i : ℕ) (ask : Ask) → i < index → slice_get asks i ≡ Some ask → same_key ask.key key ≡ false) →
    (i : ℕ) (ask : Ask) → i < index + 1 → slice_get asks i ≡ Some ask → same_key ask.key key ≡ false
one_more asks key index x there other before i ask lt at = elim (cases_lt i index) [
  | inl early ↦ before i ask early at
  | inr late ↦
      let same : index ≡ i = omega (arith, lt, late) in
      ap (λ (y : Ask). same_key y.key key) (same_Some ask x (sym at ∙ ap (slice_get asks) (sym same) ∙ there)) ∙ other
]

-- what an ask wants beyond the reservations for it
pub wanted_is : {K : ℕ} (flat : Flat K) → AreApart flat.nodes.reserved → All (λ r. IsSome (node_in flat.nodes r.node)) flat.nodes.reserved → IsRising 1 (map (λ node. node.number) flat.nodes.present) flat.nodes.next_node →
    (app : ℕ) (ask : Ask) → still_wanted (sight_of flat) app ask ≡ ask.count - length (filter (is_for app ask.key) flat.nodes.reserved)
wanted_is flat apart there rising app ask =
    let test = is_for app ask.key in
    let seen : count_by (λ (x : NodeSight). holds_of test x.reservation) (map (node_sight flat) flat.nodes.present) ≡ count_by (λ (x : ClusterNode). holds_of test (reservation_on flat x.number)) flat.nodes.present =
    sum_by_map (node_sight flat) (λ (x : NodeSight). cond (holds_of test x.reservation) 1 0) flat.nodes.present in
    let few = on_nodes test flat.nodes.present flat.nodes.reserved apart home in
    let many = nodes_on test flat.nodes.present flat.nodes.next_node flat.nodes.reserved rising apart in
    omega (arith, seen, few, many)
  where
    home : (r : Reservation) → IsIn r flat.nodes.reserved → (x : ClusterNode) × IsIn x flat.nodes.present × (x.number ≡ r.node)
    home r m =
        let v = value_of (node_in flat.nodes r.node) (each_of (λ (s : Reservation). IsSome (node_in flat.nodes s.node)) flat.nodes.reserved there r m) in
        let f = found (λ (x : ClusterNode). x.number == r.node) flat.nodes.present (v.0) (v.1) in
        (v.0, f.0, (let t = f.1 in eqb-true (v.0).number r.node t))
