-- What a snapshot shows a proposal.
use Rattle.cap_copy.proofs.Prelude.{◌≡◌, ℕ, ◌+◌, ◌-◌, ◌<◌, ◌≤◌, ◌&&◌, true, false, List, [], ◌∷◌, length, drop, map, refl, sym, ◌∙◌, ap, subst, arith, inl, inr, Option, Some, None, option_map, slice_get, IfSome, MatchOption, option_map_or, Less, Equal, Greater, is_gt, nat_cmp, nat_cmp_is, ordering_then, slice_cmp, bytes_eq, find, list_all, list_all-map, cases_lt, drop-map, length-drop, length-map, length-take-le, same_Some, slice_get-map, slice_get_within, slice_get-get_or, get_or_from_slice_get, amounts_exchanged, holds_of, fits_maximum, fits_user_limit, level_cmp, is_under, filter_mapped, find_mapped_at, map_twice, each_of, Ask, ask_at, level_of, AppSight, NodeSight, QueueSight, Sight, app_sight, queues_to, seen_app, seen_queue, still_wanted, Queue, stays_in_maximum, use_of, user_row, Row, IsAt, items_to, rows_to, levels_at, item_at, path_at, at_position, AskEntry, AskRange, ask_entry, stays_in_limits, SeenApp, asks_between, range_in, user_used, SeenRows, IsLater, IsNextServed, position_nth, waiting_cmp, Seen, app_nth, queue_seen, sight_in, IsStored, seen_of, IsWaiter, HasNoNextApp, IsNextApp, app_cmp, levels_to, in_limits, zero, suc, AreApart, IsIndexOf, Key, found, eqb-true, ◌==◌, nat_lt, nat_tests, cond, Bool, IsSkip, IsTurn, IsReserved, IsUnfit, node_after, ring_index, taken_as, Reservation, AreSkips, slice_index, same_test, AreByKey, IsIdle, is_some, same_key, same_key_is}
use Rattle.cap_farm.specs.Service.{IsLater as IsLaterApp}
use Rattle.std.proofs.lemmas.List.{get_or-drop, get_or-take}
use Rattle.std.specs.Prelude.{IsSome, IsTrue, is_none, ◌↔◌}
use Rattle.cap_vector.specs.Vector.{Fits}
use Rattle.cap_base.specs.Amounts.{fits}
use Rattle.cap_base.proofs.Amounts.{amounts_fit, fits_amounts}
use Rattle.cap_farm.specs.Rooms.{kind_by_room}
use Rattle.cap_model.specs.Admission.{takes_place}
use Rattle.cap_copy.proofs.Found.{row_found}
use Rattle.cap_copy.proofs.LoopSteps.{index_in, slice_get_in}

-- whether one vector fits another, as the code tests it
pub fits_is : (b : Bool) (v most r m : List ℕ) → (IsTrue b ↔ Fits v most) → v ≡ r → most ≡ m → b ≡ fits r m
fits_is b v most r m e f g = same_test b (fits v most) (λ t. amounts_fit v most (e.0 t)) (λ t. e.1 (fits_amounts v most t)) ∙ (λ i. fits (f i) (g i))

-- what stands at an index between two others
between_at : (start end k : ℕ) (asks : List AskEntry) (e : AskEntry) → k < end - start → end ≤ length asks → slice_get asks (start + k) ≡ Some e → slice_get (asks_between start end asks) k ≡ Some e
between_at start end k asks e less to at =
    let l = length-drop start asks in
    let t = length-take-le (end - start) (drop start asks) (omega (arith, l, to)) in
    slice_get-get_or (asks_between start end asks) k e (omega (arith, t, less))
    ∙ ap Some (get_or-take (end - start) (drop start asks) k e less ∙ get_or-drop start asks k e ∙ get_or_from_slice_get asks (start + k) e e at)

between_length : (start end : ℕ) (asks : List AskEntry) → end ≤ length asks → length (asks_between start end asks) ≡ end - start
between_length start end asks to = let l = length-drop start asks in length-take-le (end - start) (drop start asks) (omega (arith, l, to))

at_index : {A : Type 0} (xs : List A) (i : ℕ) → i < length xs → (x : A) × (slice_get xs i ≡ Some x)
at_index [] i lt = absurd (omega (arith, lt))
at_index (x ∷ xs) zero lt = (x, refl)
at_index (x ∷ xs) (suc i) lt = at_index xs i (omega (arith, lt))

-- no ask of these has the key
pub none_keyed : (asks : List Ask) (key : Key) → ((k : ℕ) (ask : Ask) → slice_get asks k ≡ Some ask → same_key ask.key key ≡ false) → None ≡ ask_at key asks
none_keyed [] key none = refl
none_keyed (x ∷ asks) key none = none_keyed asks key (λ k ask at. none (suc k) ask at) ∙ ap (λ b. cond b (Some x) (ask_at key asks)) (sym (none 0 x refl))

pub less_than : (index end count : ℕ) → index < end → end ≤ count → index < count
less_than index end count h le = omega (arith, h, le)

pub nothing_less : (start k : ℕ) → start + k < start → ⊥
nothing_less start k h = omega (arith, h)

-- where a loop over numbers stops
pub stopped : (next end start : ℕ) → end ≤ next → (start ≤ end → next ≤ end) → start ≤ end → next ≡ end
stopped next end start far near le = let n = near le in omega (arith, far, n)

module _ (K : ℕ) (tree : SeenRows) (registered : List AppSight) (apps : List SeenApp) (asks : List AskEntry) (nodes : List NodeSight) (skips : List ℕ) (live next : ℕ) (stored : IsStored K tree apps asks skips (seen_of tree registered apps nodes live next)) where
  abbrev seen : Seen
  seen = seen_of tree registered apps nodes live next

  abbrev sight : Sight K
  sight = sight_in K seen

  abbrev shown : SeenApp → AppSight
  shown a = app_sight a.held.app

  abbrev nth : ℕ → AppSight
  nth i = app_nth seen.waiting i

  pub within : (i : ℕ) → i < length seen.waiting → i < length apps
  within i lt = let l = length-map apps shown in omega (arith, lt, l)

  waiting_at : (i : ℕ) (a : SeenApp) → slice_get apps i ≡ Some a → slice_get seen.waiting i ≡ Some (shown a)
  waiting_at i a at = slice_get-map shown apps i ∙ ap (option_map shown) at

  pub nth_is : (i : ℕ) (a : SeenApp) → slice_get apps i ≡ Some a → nth i ≡ shown a
  nth_is i a at = ap (λ o. option_map_or (λ (x : AppSight). x) o (record { number = 0; leaf = []; user = []; asks = [] })) (waiting_at i a at)

  waits : (i : ℕ) (a : SeenApp) → slice_get apps i ≡ Some a → IsWaiter sight (shown a)
  waits i a at = each_of (IsWaiter sight) seen.waiting stored.is.waiters.each (shown a) (slice_get_in seen.waiting i (shown a) (waiting_at i a at))

  in_ranges : (i : ℕ) (b : AskRange) → slice_get (map range_in apps) i ≡ Some b → (a : SeenApp) × (slice_get apps i ≡ Some a) × (range_in a ≡ b)
  in_ranges i b e = by (slice_get apps i) refl (sym (slice_get-map range_in apps i) ∙ e)
    where
      by : (o : Option SeenApp) → slice_get apps i ≡ o → option_map range_in o ≡ Some b → (a : SeenApp) × (slice_get apps i ≡ Some a) × (range_in a ≡ b)
      by None at h = absurd (cc h)
      by (Some a) at h = (a, at, same_Some (range_in a) b h)

  -- an application that has asks is one of them
  record IsNth (other : AppSight) : Type 0 where
    pub index : ℕ
    pub app : SeenApp
    pub at : slice_get apps index ≡ Some app
    pub is : shown app ≡ other

  some_nth : (other : AppSight) → IsWaiter sight other → IsNth other
  some_nth other w =
      let i = index_in seen.waiting other (stored.is.waiters.all other w) in
      by (i.0) (slice_get apps (i.0)) refl (sym (slice_get-map shown apps (i.0)) ∙ i.1)
    where
      by : (i : ℕ) (o : Option SeenApp) → slice_get apps i ≡ o → option_map shown o ≡ Some other → IsNth other
      by i None at e = absurd (cc e)
      by i (Some a) at e = record { index = i; app = a; at = at; is = same_Some (shown a) other e }

  -- the order of service, of indexes and of applications
  pub placed : (i : ℕ) (a : SeenApp) → slice_get apps i ≡ Some a → IsAt tree.rows a.held.app.leaf a.held.account.position
  placed i a at = each_of (λ (x : SeenApp). IsAt tree.rows x.held.app.leaf x.held.account.position) apps stored.placed a (slice_get_in apps i a at)

  levels_are : (i : ℕ) (a : SeenApp) → slice_get apps i ≡ Some a → levels_at (position_nth i tree.waiting) tree.rows ≡ levels_to sight a.held.app.leaf
  levels_are i a at =
      let leaf = path_at a.held.account.position tree.rows in
      let position : position_nth i tree.waiting ≡ a.held.account.position =
      ap (λ (o : Option (List ℕ)). option_map_or (λ p. p) o []) (ap (λ ps. slice_get ps i) stored.waiting ∙ slice_get-map (λ (x : SeenApp). x.held.account.position) apps i ∙ ap (option_map (λ (x : SeenApp). x.held.account.position)) at) in
      ap (λ p. levels_at p tree.rows) position
      ∙ sym (
      ap (λ l. map level_of (drop 1 (queues_to sight l))) (sym (placed i a at).path_is)
      ∙ ap (λ qs. map level_of (drop 1 qs)) (filter_mapped (λ q. is_under q.row.path leaf) (queue_seen K) tree.rows)
      ∙ ap (map level_of) (drop-map (queue_seen K) 1 (rows_to leaf tree.rows))
      ∙ map_twice level_of (queue_seen K) (drop 1 (rows_to leaf tree.rows))
      )

  number_cmp : (i j : ℕ) (a b : SeenApp) → slice_get apps i ≡ Some a → slice_get apps j ≡ Some b → nat_cmp i j ≡ nat_cmp a.held.app.number b.held.app.number
  number_cmp i j a b at there = elim (cases_lt i j) [
    | inl less ↦ sym (nat_cmp_is i j Less less) ∙ nat_cmp_is a.held.app.number b.held.app.number Less (stored.is.waiters.rise i j (shown a) (shown b) less (waiting_at i a at) (waiting_at j b there))
    | inr most ↦ elim (cases_lt j i) [
      | inl more ↦ sym (nat_cmp_is i j Greater more) ∙ nat_cmp_is a.held.app.number b.held.app.number Greater (stored.is.waiters.rise j i (shown b) (shown a) more (waiting_at j b there) (waiting_at i a at))
      | inr least ↦
          let same : i ≡ j = omega (arith, most, least) in
          let app : a ≡ b = same_Some a b (sym at ∙ ap (slice_get apps) same ∙ there) in
          sym (nat_cmp_is i j Equal same) ∙ nat_cmp_is a.held.app.number b.held.app.number Equal (ap (λ (x : SeenApp). x.held.app.number) app)
    ]
  ]

  cmp_is : (i j : ℕ) (a b : SeenApp) → slice_get apps i ≡ Some a → slice_get apps j ≡ Some b → waiting_cmp tree.rows tree.waiting i j ≡ app_cmp sight (shown a) (shown b)
  cmp_is i j a b at there = λ k. ordering_then (slice_cmp level_cmp (levels_are i a at k) (levels_are j b there k)) (number_cmp i j a b at there k)

  as_many : length tree.waiting ≡ length apps
  as_many = ap length stored.waiting ∙ length-map apps (λ (x : SeenApp). x.held.account.position)

  -- the application that is served next after another is the one whose index is
  module _ (after : Option ℕ) (last : Option AppSight) (later : (j : ℕ) (b : SeenApp) → slice_get apps j ≡ Some b → IsLaterApp sight last (shown b) ≡ IsLater tree.rows tree.waiting after j) where
    index_later : (other : AppSight) (x : IsNth other) → IsLaterApp sight last other → IsLater tree.rows tree.waiting after x.index
    index_later other x l = subst (λ T. T) (later x.index x.app x.at) (subst (IsLaterApp sight last) (sym x.is) l)

    index_there : (other : AppSight) (x : IsNth other) → x.index < length tree.waiting
    index_there other x = let lt = slice_get_within apps x.index x.app x.at in let n = as_many in omega (arith, lt, n)

    next_is : (result : Option ℕ) → IsNextServed tree.rows tree.waiting after result → MatchOption result (HasNoNextApp sight last) (λ n. IsNextApp sight last (nth n))
    next_is None none = λ other w l. let x = some_nth other w in absurd (none x.index (index_there other x) (index_later other x l))
    next_is (Some n) f =
        let x = at_index apps n (let lt = f.there in let m = as_many in omega (arith, lt, m)) in
        subst (IsNextApp sight last) (sym (nth_is n (x.0) (x.1)))
        (record {
          waits = waits n (x.0) (x.1);
          later = subst (λ T. T) (sym (later n (x.0) (x.1))) f.later;
          first = λ other w l.
              let y = some_nth other w in
              inl (subst (λ o. is_gt (app_cmp sight (shown (x.0)) o) ≡ false) y.is
              (ap is_gt (sym (cmp_is n y.index (x.0) y.app (x.1) y.at)) ∙ f.first y.index (index_there other y) (index_later other y l)));
        })

  pub first_served : (result : Option ℕ) → IsNextServed tree.rows tree.waiting None result → MatchOption result (HasNoNextApp sight None) (λ n. IsNextApp sight None (nth n))
  first_served result h = next_is None None (λ j b at. refl) result h

  pub next_served : (i : ℕ) → i < length seen.waiting → (result : Option ℕ) → IsNextServed tree.rows tree.waiting (Some i) result → MatchOption result (HasNoNextApp sight (Some (nth i))) (λ n. IsNextApp sight (Some (nth i)) (nth n))
  next_served i lt result h =
      let x = at_index apps i (within i lt) in
      next_is (Some i) (Some (nth i)) (λ j b at. ap (λ o. o ≡ Less) (ap (λ y. app_cmp sight y (shown b)) (nth_is i (x.0) (x.1)) ∙ sym (cmp_is i j (x.0) b (x.1) at))) result h

  pub served_within : (after result : Option ℕ) → IsNextServed tree.rows tree.waiting after result → IfSome result (λ n. n < length seen.waiting)
  served_within after None h = tt
  served_within after (Some n) h = let lt = h.there in let m = as_many in let l = length-map apps shown in omega (arith, lt, m, l)

  -- the application of a number
  pub apart : AreApart (map range_in apps)
  apart i j b d lt at there =
      let x = in_ranges i b at in
      let y = in_ranges j d there in
      subst (λ (r : AskRange). r.app < d.app) (x.2) (subst (λ (r : AskRange). (x.0).held.app.number < r.app) (y.2) (stored.is.waiters.rise i j (shown (x.0)) (shown (y.0)) lt (waiting_at i (x.0) (x.1)) (waiting_at j (y.0) (y.1))))

  pub of_number : (number index : ℕ) → IsIndexOf number (map range_in apps) (Some index) → (index < length seen.waiting) × (seen_app sight number ≡ Some (nth index))
  of_number number index h =
      let x = in_ranges index (h.0) (h.1) in
      let own : (x.0).held.app.number ≡ number = ap (λ (r : AskRange). r.app) (x.2) ∙ h.2 in
      let lt = slice_get_within apps index (x.0) (x.1) in
      let l = length-map apps shown in (
        omega (arith, lt, l),
        ap (seen_app sight) (sym own) ∙ (waits index (x.0) (x.1)).found ∙ ap (λ y. Some y) (sym (nth_is index (x.0) (x.1))),
      )

  pub none_of_number : (number : ℕ) → IsIndexOf number (map range_in apps) None → (other : AppSight) (key : Key) → seen_app sight number ≡ Some other → ask_at key other.asks ≡ None
  none_of_number number none other key at = by other.asks refl
    where
      own : other.number ≡ number
      own = let t = (found (λ (a : AppSight). a.number == number) registered other at).1 in eqb-true other.number number t

      by : (xs : List Ask) → other.asks ≡ xs → ask_at key xs ≡ None
      by [] e = refl
      by (ask ∷ xs) e =
          let many : 1 ≤ length other.asks = subst (λ ys. 1 ≤ length ys) (sym e) (omega arith) in
          let x = some_nth other (record { found = ap (seen_app sight) own ∙ at; some = many }) in
          absurd (none x.index (range_in x.app) (slice_get-map range_in apps x.index ∙ ap (option_map range_in) x.at) (ap (λ (a : AppSight). a.number) x.is ∙ own))

  -- the asks of the application of an index
  module _ (i : ℕ) (a : SeenApp) (at : slice_get apps i ≡ Some a) where
    pub ends : (a.start ≤ a.end) × (a.end ≤ length asks)
    ends = stored.ranges.ends i (range_in a) (slice_get-map range_in apps i ∙ ap (option_map range_in) at)

    pub ordered : a.start ≤ a.end
    ordered = ends.0

    pub count_is : a.end - a.start ≡ length (nth i).asks
    count_is =
        sym (between_length a.start a.end asks ends.1)
        ∙ ap length (stored.have i a at)
        ∙ length-map a.held.app.asks (ask_entry nodes a.held.app.number i)
        ∙ ap (λ (x : AppSight). length x.asks) (sym (nth_is i a at))

    pub ask_within : (k : ℕ) → k < length (nth i).asks → a.start + k < length asks
    ask_within k lt = let n = count_is in let e = ends in omega (arith, lt, n, e)

    pub entry_is : (k : ℕ) (e : AskEntry) → k < length (nth i).asks → slice_get asks (a.start + k) ≡ Some e → (slice_get (nth i).asks k ≡ Some e.ask) × (e.wanted ≡ still_wanted sight (nth i).number e.ask)
    entry_is k e lt there =
        let n = count_is in
        let between = between_at a.start a.end k asks e (omega (arith, lt, n)) ends.1 there in
        let read = sym (slice_get-map (ask_entry nodes a.held.app.number i) a.held.app.asks k) ∙ ap (λ es. slice_get es k) (sym (stored.have i a at)) ∙ between in
        subst (λ (x : AppSight). (slice_get x.asks k ≡ Some e.ask) × (e.wanted ≡ still_wanted sight x.number e.ask)) (sym (nth_is i a at)) (by (slice_get a.held.app.asks k) refl read)
      where
        by : (o : Option Ask) → slice_get a.held.app.asks k ≡ o → option_map (ask_entry nodes a.held.app.number i) o ≡ Some e → (slice_get a.held.app.asks k ≡ Some e.ask) × (e.wanted ≡ still_wanted sight a.held.app.number e.ask)
        by None h is = absurd (cc is)
        by (Some x) h is =
            let same : ask_entry nodes a.held.app.number i x ≡ e = same_Some (ask_entry nodes a.held.app.number i x) e is in
            subst (λ (y : AskEntry). (slice_get a.held.app.asks k ≡ Some y.ask) × (y.wanted ≡ still_wanted sight a.held.app.number y.ask)) same (h, refl)

    -- each is found by its key
    pub found_key : (k : ℕ) (ask : Ask) (key : Key) → slice_get (nth i).asks k ≡ Some ask → same_key ask.key key ≡ true → Some ask ≡ ask_at key (nth i).asks
    found_key k ask key there same =
        let app = found (λ (x : AppSight). x.number == a.held.app.number) registered (shown a) (waits i a at).found in
        let keys = each_of (λ (x : AppSight). AreByKey x.asks) registered stored.is.whole.asks (shown a) app.0 in
        let own : slice_get a.held.app.asks k ≡ Some ask = ap (λ (x : AppSight). slice_get x.asks k) (sym (nth_is i a at)) ∙ there in
        sym (each_of (λ (x : Ask). ask_at x.key a.held.app.asks ≡ Some x) a.held.app.asks keys.found ask (slice_get_in a.held.app.asks k ask own))
        ∙ (λ m. ask_at (same_key_is ask.key key same m) (sym (nth_is i a at) m).asks)

    -- the asks so far have other keys, and one more; and all have
    pub one_other : (index : ℕ) (e : AskEntry) (key : Key) → a.start ≤ index → index < a.end → slice_get asks index ≡ Some e → same_key e.ask.key key ≡ false →
        ((k : ℕ) (ask : Ask) → a.start + k < index → slice_get (nth i).asks k ≡ Some ask → same_key ask.key key ≡ false) →
        (k : ℕ) (ask : Ask) → a.start + k < index + 1 → slice_get (nth i).asks k ≡ Some ask → same_key ask.key key ≡ false
    one_other index e key from to there other before k ask lt at_k = elim (cases_lt (a.start + k) index) [
      | inl early ↦ before k ask early at_k
      | inr late ↦
          let same : index ≡ a.start + k = omega (arith, lt, late) in
          let e_is = entry_is k e (slice_get_within (nth i).asks k ask at_k) (ap (slice_get asks) (sym same) ∙ there) in
          ap (λ (x : Ask). same_key x.key key) (same_Some ask e.ask (sym at_k ∙ e_is.0)) ∙ other
    ]

    pub all_other : (key : Key) → ((k : ℕ) (ask : Ask) → a.start + k < a.end → slice_get (nth i).asks k ≡ Some ask → same_key ask.key key ≡ false) → None ≡ ask_at key (nth i).asks
    all_other key before = none_keyed (nth i).asks key (λ k ask at_k. let lt = slice_get_within (nth i).asks k ask at_k in let n = count_is in before k ask (omega (arith, lt, n)) at_k)

    pub one_same : (index : ℕ) (e : AskEntry) (key : Key) → a.start ≤ index → index < a.end → slice_get asks index ≡ Some e → same_key e.ask.key key ≡ true → Some e.ask ≡ ask_at key (nth i).asks
    one_same index e key from to there same =
        let n = count_is in
        let k : a.start + (index - a.start) ≡ index = omega (arith, from) in
        let e_is = entry_is (index - a.start) e (omega (arith, from, to, n)) (ap (slice_get asks) k ∙ there) in
        found_key (index - a.start) e.ask key e_is.0 same

    -- its limits are those of the queues on its way and of its user
    module _ (old new : List ℕ) where
      way : list_all (stays_in_maximum old new) (items_to (path_at a.held.account.position tree.rows) tree.rows) ≡ list_all (λ (q : QueueSight). fits_maximum q.row.maximum (amounts_exchanged old new q.used)) (queues_to sight (path_at a.held.account.position tree.rows))
      way =
          let l = path_at a.held.account.position tree.rows in
          list_all-map (stays_in_maximum old new) (λ (r : Row). r.item) (rows_to l tree.rows)
          ∙ sym (
          ap (list_all (λ (q : QueueSight). fits_maximum q.row.maximum (amounts_exchanged old new q.used))) (filter_mapped (λ q. is_under q.row.path l) (queue_seen K) tree.rows)
          ∙ list_all-map (λ (q : QueueSight). fits_maximum q.row.maximum (amounts_exchanged old new q.used)) (queue_seen K) (rows_to l tree.rows)
          )

      user_limit : holds_of (λ (q : Queue). fits_user_limit q.factor q.guaranteed (amounts_exchanged old new a.used)) (item_at a.held.account.position tree.rows)
          ≡ holds_of (λ (q : QueueSight). fits_user_limit q.row.factor q.row.guaranteed (amounts_exchanged old new (q.used_by a.held.app.user))) (seen_queue sight (path_at a.held.account.position tree.rows))
      user_limit =
          let l = path_at a.held.account.position tree.rows in
          let r = at_position a.held.account.position tree.rows (placed i a at).present in
          let used_is : a.used ≡ use_of K (user_row a.held.app.user r.row.item.users) =
          each_of (λ (x : SeenApp). x.used ≡ user_used K tree.rows x.held) apps stored.used a (slice_get_in apps i a at) ∙ ap (λ (o : Option Queue). use_of K (option_map_or (λ x. user_row a.held.app.user x.users) o None)) r.item_is in
          let found : find (λ (x : Row). bytes_eq x.path l) tree.rows ≡ Some r.row = ap (λ p. find (λ (x : Row). bytes_eq x.path p) tree.rows) r.path_is ∙ row_found tree.rows stored.rows_are.listing.tree.distinct r.row r.member in
          ap (holds_of (λ (q : Queue). fits_user_limit q.factor q.guaranteed (amounts_exchanged old new a.used))) r.item_is
          ∙ ap (λ used. fits_user_limit r.row.item.factor r.row.item.guaranteed (amounts_exchanged old new used)) used_is
          ∙ sym (ap (holds_of (λ (q : QueueSight). fits_user_limit q.row.factor q.row.guaranteed (amounts_exchanged old new (q.used_by a.held.app.user))))
          (find_mapped_at (queue_seen K) (λ (q : QueueSight). bytes_eq q.row.path l) tree.rows ∙ ap (option_map (queue_seen K)) found))

      pub limits_are : stays_in_limits a.used old new a.held.account.position tree.rows ≡ in_limits sight (nth i) old new
      limits_are =
          (λ k. way k && user_limit k)
          ∙ ap (λ p. in_limits sight (record { number = a.held.app.number; leaf = p; user = a.held.app.user; asks = a.held.app.asks }) old new) (placed i a at).path_is
          ∙ ap (λ x. in_limits sight x old new) (sym (nth_is i a at))

-- the nodes that a turn of the ring passes over
module _ (nodes : List NodeSight) (first : ℕ) (h : first < length nodes) where
  early : (turn : ℕ) → turn < length nodes - first → ring_index first turn (length nodes) ≡ first + turn
  early turn lt = let test : nat_lt turn (length nodes - first) ≡ true = grind (arith, nat_tests, lt) in ap (λ b. cond b (first + turn) (turn - (length nodes - first))) test

  late : (turn : ℕ) → length nodes - first ≤ turn → ring_index first turn (length nodes) ≡ turn - (length nodes - first)
  late turn le = let test : nat_lt turn (length nodes - first) ≡ false = grind (arith, nat_tests, le) in ap (λ b. cond b (first + turn) (turn - (length nodes - first))) test

  ring_within : (turn : ℕ) → turn < length nodes → ring_index first turn (length nodes) < length nodes
  ring_within turn lt = elim (cases_lt turn (length nodes - first)) [
    | inl a ↦ let e = early turn a in omega (arith, e, a)
    | inr a ↦ let e = late turn a in omega (arith, e, a, lt, h)
  ]

  -- from the index of a turn on, up to the end of the list
  between : (turn to skip t : ℕ) → to ≤ turn + skip → to ≤ length nodes → turn ≤ t → t < to → ring_index first turn (length nodes) + skip ≤ length nodes →
      (ring_index first turn (length nodes) ≤ ring_index first t (length nodes)) × (ring_index first t (length nodes) < ring_index first turn (length nodes) + skip)
  between turn to skip t most count from before inside = elim (cases_lt turn (length nodes - first)) [
    | inl a ↦ elim (cases_lt t (length nodes - first)) [
      | inl b ↦ let e = early turn a in let f = early t b in (omega (arith, e, f, from), omega (arith, e, f, from, before, most))
      | inr b ↦ absurd (let e = early turn a in omega (arith, e, b, before, most, inside, h))
    ]
    | inr a ↦ let e = late turn a in let f = late t (omega (arith, a, from)) in (omega (arith, e, f, from, a), omega (arith, e, f, from, before, most, a))
  ]

  pub skipped : (turn to skip : ℕ) → turn ≤ to → to ≤ turn + skip → to ≤ length nodes → IsSkip nodes (ring_index first turn (length nodes)) skip → IsTurn IsReserved nodes first turn to
  skipped turn to skip le most count skips = record {
    later = le;
    within = count;
    passed = λ t node from before at. let b = between turn to skip t most count from before skips.within in skips.hold (ring_index first t (length nodes)) node b.0 b.1 at;
  }

  pub no_turn : (P : NodeSight → Type 0) (turn : ℕ) → turn ≤ length nodes → IsTurn P nodes first turn turn
  no_turn P turn le = record { later = omega arith; within = le; passed = λ t node from before at. absurd (omega (arith, from, before)) }

  pub past_is : (skips : List ℕ) → AreSkips nodes skips → (turn to : ℕ) → turn ≤ length nodes → turn ≤ to → to ≤ length skips →
      (turn < length skips → to ≤ turn + slice_index skips (ring_index first turn (length skips))) → IsTurn IsReserved nodes first turn to
  past_is skips are turn to start le most few = elim (cases_lt turn (length nodes)) [
    | inl lt ↦
        let n = are.count in
        let far : to ≤ turn + slice_index skips (ring_index first turn (length nodes)) = subst (λ m. to ≤ turn + slice_index skips (ring_index first turn m)) n (few (omega (arith, lt, n))) in
        skipped turn to (slice_index skips (ring_index first turn (length nodes))) le far (omega (arith, most, n)) (are.each (ring_index first turn (length nodes)) (ring_within turn lt))
    | inr past ↦
        let n = are.count in
        let e : turn ≡ to = omega (arith, past, start, le, most, n) in
        subst (IsTurn IsReserved nodes first turn) e (no_turn IsReserved turn start)
  ]

  pub joined : (P : NodeSight → Type 0) (from middle to : ℕ) → IsTurn P nodes first from middle → IsTurn P nodes first middle to → IsTurn P nodes first from to
  joined P from middle to a b = record {
    later = (let x = a.later in let y = b.later in omega (arith, x, y));
    within = b.within;
    passed = λ t node le lt at. elim (cases_lt t middle) [ inl early ↦ a.passed t node le early at | inr late ↦ b.passed t node late lt at ];
  }

  pub one_turn : (P : NodeSight → Type 0) (turn : ℕ) → turn < length nodes → ((node : NodeSight) → node_after nodes first turn ≡ Some node → P node) → IsTurn P nodes first turn (turn + 1)
  one_turn P turn lt here = record {
    later = omega arith;
    within = omega (arith, lt);
    passed = λ t node from before at. let e : t ≡ turn = omega (arith, from, before) in here node (ap (node_after nodes first) (sym e) ∙ at);
  }

  none_held : (o : Option Reservation) → is_some o ≡ false → o ≡ None
  none_held None e = refl
  none_held (Some r) e = absurd (cc e)

  -- a node without a reservation more
  pub one_idle : {K : ℕ} (sight : Sight K) (from turn index count : ℕ) (x : NodeSight) → turn < length nodes → count ≡ length nodes → index ≡ ring_index first turn count → slice_get nodes index ≡ Some x → is_some x.reservation ≡ false →
      IsTurn (IsIdle sight) nodes first from turn → IsTurn (IsIdle sight) nodes first from (turn + 1)
  one_idle sight from turn index count x lt count_is index_is at free before = joined (IsIdle sight) from turn (turn + 1) before (one_turn (IsIdle sight) turn lt (λ node there.
      let same : x ≡ node = same_Some x node (sym at ∙ ap (slice_get nodes) (index_is ∙ ap (ring_index first turn) count_is) ∙ there) in
      inl (ap (λ (n : NodeSight). n.reservation) (sym same) ∙ none_held x.reservation free)))

  pub unfit : (ask : Ask) (from to : ℕ) → IsTurn IsReserved nodes first from to → IsTurn (IsUnfit ask) nodes first from to
  unfit ask from to t = record { later = t.later; within = t.within; passed = λ n node le lt at. held_unfit node.reservation node refl (t.passed n node le lt at) }
    where
      held_unfit : (o : Option Reservation) (node : NodeSight) → node.reservation ≡ o → IsSome o → taken_as node ask ≡ None
      held_unfit None node e some = absurd (cc some)
      held_unfit (Some r) node e some = ap (λ x. cond (is_none x && takes_place ask.place node) (kind_by_room node ask) None) e
