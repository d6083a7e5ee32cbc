-- Applications as a snapshot keeps them, and their asks among those of all.
use Rattle.cap_copy.proofs.Prelude.{◌≡◌, ℕ, ◌+◌, ◌-◌, ◌≤◌, List, [], ◌∷◌, ◌++◌, length, length-append, inl, inr, map, take, drop, refl, sym, ◌∙◌, ap, subst, arith, Option, Some, None, option_map, slice_get, take-map, option_map_or, drop-append-le, drop-map, length-drop, length-map, length-take-le, map-append, map_push, take-append-le, take_all, flat_map-cons, All-push, slice_get-map, drop-append_seam, IsRising, IsIn, of_map, Ask, App, NodeSight, Row, HeldApp, AreSeen, HaveAsks, SeenApp, range_in, user_used, asks_between, AskRange, AskEntry, AreApart, AreRanges, ask_entries, ask_entry, asks_at, asks_of, beside, reserved_on}
use Rattle.cap_copy.proofs.Blocks.{rising_apart}
use Rattle.cap_copy.proofs.LoopSteps.{one_more}
use Rattle.cap_copy.proofs.Ranging.{pushed, ranges_more}

-- asks stay where they lie when others come after them
between_stays : (start end : ℕ) (asks more : List AskEntry) → start ≤ end → end ≤ length asks → asks_between start end (asks ++ more) ≡ asks_between start end asks
between_stays start end asks more from to =
    ap (take (end - start)) (drop-append-le start asks more (omega (arith, from, to)))
    ∙ take-append-le (end - start) (drop start asks) more (let l = length-drop start asks in omega (arith, l, from, to))

between_last : (start end : ℕ) (asks more : List AskEntry) → start ≡ length asks → end ≡ length (asks ++ more) → asks_between start end (asks ++ more) ≡ more
between_last start end asks more start_is end_is =
    let l = length-append asks more in
    ap (λ n. take (end - start) (drop n (asks ++ more))) start_is
    ∙ ap (take (end - start)) (drop-append_seam asks more)
    ∙ take_all (end - start) more (omega (arith, l, start_is, end_is))

-- an ask of an application has its index and its number
pub own_of : (nodes : List NodeSight) (index : ℕ) (app : App) (e : AskEntry) → IsIn e (asks_of nodes index app) → (e.index ≡ index) × (app.number ≡ e.app)
own_of nodes index app e m = let x = of_map (ask_entry nodes app.number index) app.asks e m in (ap (λ (y : AskEntry). y.index) (sym (x.2)), ap (λ (y : AskEntry). y.app) (x.2))

-- as many are seen
pub count_seen : (K : ℕ) (rows : List Row) (waiting : List HeldApp) (i : ℕ) (asks : List AskEntry) (seen : List SeenApp) → i ≤ length waiting → AreSeen K rows (take i waiting) asks seen → length seen ≡ i
count_seen K rows waiting i asks seen h are = let e = ap length are.held in let a = length-map seen (λ (x : SeenApp). x.held) in let b = length-take-le i waiting h in omega (arith, e, a, b)

-- one application more
module _ (K : ℕ) (rows : List Row) (waiting : List HeldApp) (i : ℕ) (held : HeldApp) (asks more : List AskEntry) (seen : List SeenApp) (a : SeenApp) (at : slice_get waiting i ≡ Some held) (count : length seen ≡ i) (are : AreSeen K rows (take i waiting) asks seen)
    (held_is : a.held ≡ held) (start : a.start ≡ length asks) (end : a.end ≡ length (asks ++ more)) (more_is : more ≡ asks_of [] i held.app) where
  have_more : HaveAsks [] (asks ++ more) (seen ++ a ∷ [])
  have_more j b there = elim (pushed seen a j b there) [
    | inl old ↦
        let w = are.ranges.ends j (range_in b) (slice_get-map range_in seen j ∙ ap (option_map range_in) old) in
        between_stays b.start b.end asks more w.0 w.1 ∙ are.have j b old
    | inr new ↦
        let index : i ≡ j = sym (new.0 ∙ count) in
        subst (λ (x : SeenApp). asks_between x.start x.end (asks ++ more) ≡ asks_of [] j x.held.app) new.1
        (between_last a.start a.end asks more start end ∙ more_is ∙ (λ k. asks_of [] (index k) (sym held_is k).app))
  ]

  pub seen_more : a.used ≡ user_used K rows held → AreSeen K rows (take (i + 1) waiting) (asks ++ more) (seen ++ a ∷ [])
  seen_more used = record {
    held = map_push (λ (x : SeenApp). x.held) seen a ∙ (λ k. are.held k ++ held_is k ∷ []) ∙ sym (one_more waiting i held at);
    used = All-push (λ (x : SeenApp). x.used ≡ user_used K rows x.held) seen a are.used (used ∙ ap (user_used K rows) (sym held_is));
    have = have_more;
    ranges =
        subst (AreRanges (asks ++ more)) (sym (map_push range_in seen a))
        (ranges_more asks more (map range_in seen) (range_in a) are.ranges start end
        (λ e m.
        let own = own_of [] i held.app e (subst (λ es. IsIn e es) more_is m) in
        (let x = own.0 in let l = length-map seen range_in in omega (arith, x, l, count), ap (λ (h : HeldApp). h.app.number) held_is ∙ own.1)));
  }

pub none_seen : (K : ℕ) (rows : List Row) → AreSeen K rows [] [] []
none_seen K rows = record {
  held = refl;
  used = λ j d lt. absurd (omega (arith, lt));
  have = λ i a at. absurd (cc at);
  ranges = record { ends = λ i b at. absurd (cc at); each = λ j e lt at. absurd (cc at) };
}

-- ranges of applications whose numbers rise
pub apart_ranges : (numbers : List ℕ) (end : ℕ) (ranges : List AskRange) → IsRising 1 numbers end → map (λ b. b.app) ranges ≡ numbers → AreApart ranges
apart_ranges numbers end ranges rising same i j b d h e f =
    rising_apart (λ (r : AskRange). r.app) 1 ranges end i j b d (subst (λ ns. IsRising 1 ns end) (sym same) rising) e f h

-- asks beside the reservations of nodes
asks_beside : (nodes : List NodeSight) (n index : ℕ) (asks : List Ask) → map (beside nodes) (map (ask_entry [] n index) asks) ≡ map (ask_entry nodes n index) asks
asks_beside nodes n index [] = refl
asks_beside nodes n index (ask ∷ asks) =
    let wanted : ask.count - 0 - reserved_on nodes n ask.key ≡ ask.count - reserved_on nodes n ask.key = omega arith in
    λ k. record { app = n; index = index; ask = ask; wanted = wanted k } ∷ asks_beside nodes n index asks k

pub all_beside : (nodes : List NodeSight) (apps : List App) (order : List ℕ) → map (beside nodes) (ask_entries [] apps order) ≡ ask_entries nodes apps order
all_beside nodes apps [] = refl
all_beside nodes apps (i ∷ order) =
    ap (map (beside nodes)) (flat_map-cons (asks_at [] apps) i order)
    ∙ map-append (beside nodes) (asks_at [] apps i) (ask_entries [] apps order)
    ∙ (λ k. here (slice_get apps i) k ++ all_beside nodes apps order k)
    ∙ sym (flat_map-cons (asks_at nodes apps) i order)
  where
    here : (o : Option App) → map (beside nodes) (option_map_or (asks_of [] i) o []) ≡ option_map_or (asks_of nodes i) o []
    here None = refl
    here (Some app) = asks_beside nodes app.number i app.asks

pub have_beside : (nodes : List NodeSight) (asks : List AskEntry) (seen : List SeenApp) → HaveAsks [] asks seen → HaveAsks nodes (map (beside nodes) asks) seen
have_beside nodes asks seen have i a at =
    ap (take (a.end - a.start)) (drop-map (beside nodes) a.start asks)
    ∙ take-map (beside nodes) (a.end - a.start) (drop a.start asks)
    ∙ ap (map (beside nodes)) (have i a at)
    ∙ asks_beside nodes a.held.app.number i a.held.app.asks
