-- The applications that wait, as entries of the index.
use Rattle.cap_asks.proofs.Prelude.{◌≡◌, ◌≢◌, ℕ, zero, suc, ◌+◌, ◌≤◌, ◌<◌, Bool, true, false, cond, inl, inr, not, List, [], ◌∷◌, ◌++◌, length, length-append, take, map, filter, refl, sym, ◌∙◌, ap, subst, arith, nat_cmp, get_or, Box, Result, is_some, Some, None, Ok, Err, nat_eq, nat_lt, option_map, insert, remove, ◌==◌, slice_get, Slab, Updates, with_value, get, ContainsKey, IsBinarySearchResult, lookup, set_value, remove_entry, is_at, insert_entry, option_map_or, nat_tests, length-map, map_push, take_at, append_cancel_left, searched, slice_get-map, slice_get_read, IsIn, IsRising, length-kept, of_filter, App, AppTable, change_app, add_app, new_app, rising_kept, Account, HeldApp, TakesRoom, remove_app, AreNumbered, AreIndexed, IsLeft, UsesRoom, account_of, is_waiting, waiting_of, entries_at, held_at, nobody, AreAllKept, AreKept}
use Rattle.std.proofs.Math.ListN.{get_or-map as read_mapped}
use Rattle.std.specs.Bool.{beq}
use Rattle.std.specs.Ordering.{ordering_index}
use Rattle.std.specs.declared.cmp.Ordering.TheVariants.{Less, Equal, Greater}
use Rattle.cap_base.proofs.lists.Filters.{filter_same, filter_twice, filter_mapped, map_twice, filter_whole}
use Rattle.cap_model.proofs.lists.Numbered.{rising_from_low, rising_to_high}
use Rattle.std.proofs.Common.{append-nil}
use Rattle.std.proofs.lemmas.List.Elements.{filter-append}
use Rattle.cap_asks.specs.Apps.{with_entry, without_entry}
use Rattle.std.specs.Box.{with_value as with_boxed}
use Rattle.cap_asks.proofs.Impossible.{among_front, among_without, own_wants}
use Rattle.cap_asks.specs.Apps.{impossible_in}
use Rattle.cap_asks.specs.Impossible.{AreAmong}
use Rattle.cap_asks.proofs.Entries.{apps_of, accounts_of, account_there, is_number, by_number, none_changed, one_changed, one_uses, still_numbered, still_without, numbered_front, numbered_push, table_without, account_left}
use Rattle.cap_asks.proofs.KeptAsks.{kept_before, kept_changed, kept_left, kept_more}
use Rattle.cap_asks.proofs.Slots.{written, updated, looked_at, is_held, held_set, held_without, held_push, held_back, entries_without, slot_taken, opened}

abbrev pub number_of : ℕ × ℕ → ℕ
number_of e = e.0

-- where a number stands among entries in order, or would stand
rising_at : (low high i : ℕ) (ns : List ℕ) → IsRising low ns high → i < length ns → low ≤ get_or ns i 0
rising_at low high i [] h l = absurd (omega (arith, l))
rising_at low high zero (n ∷ ns) h l = h.0
rising_at low high (suc i) (n ∷ ns) h l = let r = rising_at (n + 1) high i ns h.1 (omega (arith, l)) in let first = h.0 in omega (arith, r, first)

ordered : (low high : ℕ) (ns : List ℕ) → IsRising low ns high → (i j : ℕ) → i < j → j < length ns → get_or ns i 0 < get_or ns j 0
ordered low high [] h i j lt l = absurd (omega (arith, l))
ordered low high (n ∷ ns) h i zero lt l = absurd (omega (arith, lt))
ordered low high (n ∷ ns) h zero (suc j) lt l = let r = rising_at (n + 1) high j ns h.1 (omega (arith, l)) in omega (arith, r)
ordered low high (n ∷ ns) h (suc i) (suc j) lt l = ordered (n + 1) high ns h.1 i j (omega (arith, lt)) (omega (arith, l))

in_order : (low high : ℕ) (ns : List ℕ) → IsRising low ns high → (i j : ℕ) → i ≤ j → j < length ns → get_or ns i 0 ≤ get_or ns j 0
in_order low high ns h i j le l = by (i == j) refl
  where
    by : (b : Bool) → (i == j) ≡ b → get_or ns i 0 ≤ get_or ns j 0
    by true e = let same : i ≡ j = grind (arith, nat_tests, e) in let is = ap (λ k. get_or ns k 0) same in omega (arith, is)
    by false e = let less = ordered low high ns h i j (grind (arith, nat_tests, e, le)) l in omega (arith, less)

with_at : (n slot i : ℕ) (ws : List (ℕ × ℕ)) → i ≤ length (map number_of ws) → ((k : ℕ) → k < i → get_or (map number_of ws) k 0 < n) → ((k : ℕ) → i ≤ k → k < length (map number_of ws) → n ≤ get_or (map number_of ws) k 0)
    → with_entry n slot ws ≡ insert ws i (n, slot)
with_at n slot zero [] l below above = refl
with_at n slot (suc i) [] l below above = absurd (omega (arith, l))
with_at n slot zero (e ∷ ws) l below above =
    let more = above 0 (omega arith) (omega arith) in
    let lt : nat_lt e.0 n ≡ false = grind (arith, nat_tests, more) in
    rw lt refl
with_at n slot (suc i) (e ∷ ws) l below above =
    let less = below 0 (omega arith) in
    let lt : nat_lt e.0 n ≡ true = grind (arith, nat_tests, less) in
    rw lt (ap (λ xs. e ∷ xs) (with_at n slot i ws (omega (arith, l)) (λ k a. below (suc k) (omega (arith, a))) (λ k a b. above (suc k) (omega (arith, a)) (omega (arith, b)))))

none_without : (n : ℕ) (ws : List (ℕ × ℕ)) → ((k : ℕ) → k < length (map number_of ws) → (get_or (map number_of ws) k 0 == n) ≡ false) → without_entry n ws ≡ ws
none_without n [] others = refl
none_without n (e ∷ ws) others = let no = others 0 (omega arith) in rw no (ap (λ xs. e ∷ xs) (none_without n ws (λ k l. others (suc k) (omega (arith, l)))))

without_at : (n low high i : ℕ) (ws : List (ℕ × ℕ)) → IsRising low (map number_of ws) high → i < length (map number_of ws) → get_or (map number_of ws) i 0 ≡ n → without_entry n ws ≡ remove ws i
without_at n low high i [] h l e = absurd (omega (arith, l))
without_at n low high zero (e ∷ ws) h l is =
    let same : (e.0 == n) ≡ true = grind (arith, nat_tests, is) in
    rw same (none_without n ws (λ k l. let r = rising_at (e.0 + 1) high k (map number_of ws) h.1 l in grind (arith, nat_tests, r, is)))
without_at n low high (suc i) (e ∷ ws) h l is =
    let r = rising_at (e.0 + 1) high i (map number_of ws) h.1 (omega (arith, l)) in
    let other : (e.0 == n) ≡ false = grind (arith, nat_tests, r, is) in
    rw other (ap (λ xs. e ∷ xs) (without_at n (e.0 + 1) high i ws h.1 (omega (arith, l)) is))

-- what a search by number says of them
by_numbers : (n : ℕ) (ws : List (ℕ × ℕ)) (r : Result ℕ ℕ) → IsBinarySearchResult (λ (y : ℕ × ℕ). nat_cmp y.0 n) ws r → IsBinarySearchResult (λ y. nat_cmp y n) (map number_of ws) r
by_numbers n ws (Ok i) h = λ d. subst (λ x. nat_cmp x n ≡ Equal) (sym (read_mapped number_of ws i (d, 0))) (h (d, 0))
by_numbers n ws (Err i) h = λ up.
    let len = length-map ws number_of in
    let parts = h (λ a b d le lt. subst (λ x. ordering_index (nat_cmp x n) ≤ ordering_index (nat_cmp (get_or ws b d).0 n)) (read_mapped number_of ws a d) (subst (λ x. ordering_index (nat_cmp (get_or (map number_of ws) a d.0) n) ≤ ordering_index (nat_cmp x n)) (read_mapped number_of ws b d) (up a b d.0 le (omega (arith, lt, len))))) in (
      λ k d low l. subst (λ x. nat_cmp x n ≡ Less) (sym (read_mapped number_of ws k (d, 0))) (parts.0 k (d, 0) low l),
      λ k d low l. subst (λ x. nat_cmp x n ≡ Greater) (sym (read_mapped number_of ws k (d, 0))) (parts.1 k (d, 0) low (omega (arith, l, len))),
    )

module _ (n : ℕ) (ws : List (ℕ × ℕ)) (h : (end : ℕ) × IsRising 1 (map (λ (e : ℕ × ℕ). e.0) ws) end) where
  pub with_found : (slot i : ℕ) → IsBinarySearchResult (λ (y : ℕ × ℕ). nat_cmp y.0 n) ws (Ok i) → with_entry n slot ws ≡ insert ws i (n, slot)
  with_found slot i r =
      let ns = map number_of ws in
      let f = searched ns n (Ok i) (by_numbers n ws (Ok i) r) (in_order 1 h.0 ns h.1) in
      let is = f.1 in
      let l = f.0 in
      with_at n slot i ws (omega (arith, l)) (λ k a. let o = ordered 1 h.0 ns h.1 k i a l in omega (arith, o, is)) (λ k a b. let o = in_order 1 h.0 ns h.1 i k a b in omega (arith, o, is))

  pub with_absent : (slot i : ℕ) → IsBinarySearchResult (λ (y : ℕ × ℕ). nat_cmp y.0 n) ws (Err i) → with_entry n slot ws ≡ insert ws i (n, slot)
  with_absent slot i r =
      let f = searched (map number_of ws) n (Err i) (by_numbers n ws (Err i) r) (in_order 1 h.0 (map number_of ws) h.1) in
      with_at n slot i ws f.0 f.1 (λ k a b. let less = f.2 k a b in omega (arith, less))

  pub without_found : (i : ℕ) → IsBinarySearchResult (λ (y : ℕ × ℕ). nat_cmp y.0 n) ws (Ok i) → without_entry n ws ≡ remove ws i
  without_found i r =
      let f = searched (map number_of ws) n (Ok i) (by_numbers n ws (Ok i) r) (in_order 1 h.0 (map number_of ws) h.1) in
      without_at n 1 h.0 i ws h.1 f.0 f.1

  pub without_absent : (i : ℕ) → IsBinarySearchResult (λ (y : ℕ × ℕ). nat_cmp y.0 n) ws (Err i) → without_entry n ws ≡ ws
  without_absent i r =
      none_without n ws (λ k l. by k l (nat_lt k i) refl)
    where
      f : (i ≤ length (map number_of ws)) × ((k : ℕ) → k < i → get_or (map number_of ws) k 0 < n) × ((k : ℕ) → i ≤ k → k < length (map number_of ws) → n < get_or (map number_of ws) k 0)
      f = searched (map number_of ws) n (Err i) (by_numbers n ws (Err i) r) (in_order 1 h.0 (map number_of ws) h.1)

      by : (k : ℕ) → k < length (map number_of ws) → (b : Bool) → nat_lt k i ≡ b → (get_or (map number_of ws) k 0 == n) ≡ false
      by k l true e = let less = f.1 k (grind (arith, nat_tests, e)) in grind (arith, nat_tests, less)
      by k l false e = let more = f.2 k (grind (arith, nat_tests, e)) l in grind (arith, nat_tests, more)

-- what an entry of an index leads to
pub record IsEntry (held : ℕ → HeldApp) (index : List (ℕ × ℕ)) (low : ℕ) (e : ℕ × ℕ) : Type 0 where
  pub above : low ≤ e.0
  pub number : (held e.1).app.number ≡ e.0
  pub leads : lookup (nat_eq e.0) index ≡ Some e.1

entry_is : (held : ℕ → HeldApp) (low next : ℕ) (index : List (ℕ × ℕ)) (e : ℕ × ℕ) → AreNumbered low (entries_at held index) next → IsIn e index → IsEntry held index low e
entry_is held low next [] e h m = absurd m
entry_is held low next (p ∷ ps) e h (inl is) =
    let me : nat_eq p.0 p.0 ≡ true = grind (arith, nat_tests) in
    subst (λ (x : ℕ × ℕ). IsEntry held (p ∷ ps) low x) is (record { above = h.0; number = h.1; leads = ap (λ c. cond c (Some p.1) (lookup (nat_eq p.0) ps)) me })
entry_is held low next (p ∷ ps) e h (inr m) =
    let r = entry_is held (p.0 + 1) next ps e h.2 m in
    let first = h.0 in
    let more = r.above in
    let no : nat_eq e.0 p.0 ≡ false = grind (arith, nat_tests, more) in
    record { above = omega (arith, first, more); number = r.number; leads = ap (λ c. cond c (Some p.1) (lookup (nat_eq e.0) ps)) no ∙ r.leads }

leads_in : (n slot : ℕ) (index : List (ℕ × ℕ)) → lookup (nat_eq n) index ≡ Some slot → IsIn (n, slot) index
leads_in n slot [] e = absurd (cc e)
leads_in n slot (p ∷ ps) e = by (nat_eq n p.0) refl e (leads_in n slot ps)
  where
    by : (b : Bool) → nat_eq n p.0 ≡ b → cond b (Some p.1) (lookup (nat_eq n) ps) ≡ Some slot → (lookup (nat_eq n) ps ≡ Some slot → IsIn (n, slot) ps) → IsIn (n, slot) (p ∷ ps)
    by true b a r =
        let number : p.0 ≡ n = grind (arith, nat_tests, b) in
        let here : p.1 ≡ slot = cc a in
        inl (λ i. (number i, here i))
    by false b a r = inr (r a)

numbers_rise_in : (held : ℕ → HeldApp) (low next : ℕ) (index : List (ℕ × ℕ)) → AreNumbered low (entries_at held index) next → IsRising low (map number_of index) next
numbers_rise_in held low next [] h = h
numbers_rise_in held low next (p ∷ ps) h = (h.0, numbers_rise_in held (p.0 + 1) next ps h.2)

-- those that wait, in order of number
abbrev pub waits_in : (ℕ → HeldApp) → ℕ × ℕ → Bool
waits_in held e = is_waiting (held e.1).app

module _ {held : ℕ → HeldApp} {index : List (ℕ × ℕ)} {next : ℕ} {ws : List (ℕ × ℕ)} {room : ℕ} (h : AreIndexed held index next ws room) where
  pub waiters_rise : (end : ℕ) × IsRising 1 (map (λ (e : ℕ × ℕ). e.0) ws) end
  waiters_rise = (next, subst (λ (xs : List (ℕ × ℕ)). IsRising 1 (map number_of xs) next) (sym h.waiting) (rising_kept number_of (waits_in held) 1 index next (numbers_rise_in held 1 next index h.numbered)))

  pub few_waiters : length ws ≤ length index
  few_waiters = let same = ap length h.waiting in let few = length-kept (waits_in held) index in omega (arith, same, few)

  pub waiters_are : map (λ (e : ℕ × ℕ). (held e.1).app) ws ≡ waiting_of (apps_of (entries_at held index))
  waiters_are =
      ap (map (λ (e : ℕ × ℕ). (held e.1).app)) h.waiting ∙ sym (filter_mapped is_waiting (λ (e : ℕ × ℕ). (held e.1).app) index)
      ∙ ap (filter is_waiting) (sym (map_twice (λ (e : ℕ × HeldApp). e.1.app) (λ (e : ℕ × ℕ). (e.0, held e.1)) index))

  pub waiters_count : length ws ≡ length (waiting_of (apps_of (entries_at held index)))
  waiters_count = sym (length-map ws (λ (e : ℕ × ℕ). (held e.1).app)) ∙ ap length waiters_are

-- one that begins to wait
with_first : (n slot next : ℕ) (ws : List (ℕ × ℕ)) → IsRising (n + 1) (map number_of ws) next → with_entry n slot ws ≡ (n, slot) ∷ ws
with_first n slot next [] h = refl
with_first n slot next (e ∷ ws) h = let first = h.0 in let lt : nat_lt e.0 n ≡ false = grind (arith, nat_tests, first) in rw lt refl

begun : (n slot : ℕ) (f g : ℕ × ℕ → Bool) (low next : ℕ) (index : List (ℕ × ℕ)) → IsRising low (map number_of index) next → IsIn (n, slot) index → f (n, slot) ≡ false → g (n, slot) ≡ true → ((e : ℕ × ℕ) → IsIn e index → (e.0 == n) ≡ false → g e ≡ f e)
    → filter g index ≡ with_entry n slot (filter f index)
begun n slot f g low next [] h m off on same = absurd m
begun n slot f g low next (e ∷ es) h (inl is) off on same =
    let number : e.0 ≡ n = ap number_of is in
    let rest = filter_same g f es (λ x m. let a = rising_from_low number_of (e.0 + 1) es next x h.1 m in same x (inr m) (grind (arith, nat_tests, a, number))) in
    let behind = subst (λ k. IsRising (k + 1) (map number_of (filter f es)) next) number (rising_kept number_of f (e.0 + 1) es next h.1) in
    ap (λ b. cond b (e ∷ filter g es) (filter g es)) (ap g is ∙ on)
    ∙ (λ i. is i ∷ rest i)
    ∙ sym (with_first n slot next (filter f es) behind)
    ∙ sym (ap (λ b. with_entry n slot (cond b (e ∷ filter f es) (filter f es))) (ap f is ∙ off))
begun n slot f g low next (e ∷ es) h (inr m) off on same =
    let above = rising_from_low number_of (e.0 + 1) es next (n, slot) h.1 m in
    ap (λ b. cond b (e ∷ filter g es) (filter g es)) (same e (inl refl) (grind (arith, nat_tests, above)))
    ∙ by (grind (arith, nat_tests, above)) (f e) (begun n slot f g (e.0 + 1) next es h.1 m off on (λ x k. same x (inr k)))
  where
    by : nat_lt e.0 n ≡ true → (b : Bool) → filter g es ≡ with_entry n slot (filter f es) → cond b (e ∷ filter g es) (filter g es) ≡ with_entry n slot (cond b (e ∷ filter f es) (filter f es))
    by lt true r = rw lt (ap (λ xs. e ∷ xs) r)
    by lt false r = r

length-with : (n slot : ℕ) (ws : List (ℕ × ℕ)) → length (with_entry n slot ws) ≡ length ws + 1
length-with n slot [] = refl
length-with n slot (e ∷ ws) = by (nat_lt e.0 n) (length-with n slot ws)
  where
    by : (b : Bool) → length (with_entry n slot ws) ≡ length ws + 1 → length (cond b (e ∷ with_entry n slot ws) ((n, slot) ∷ e ∷ ws)) ≡ length (e ∷ ws) + 1
    by true r = omega (arith, r)
    by false r = omega arith

-- a change in the slot of a number
module _ (held held' : ℕ → HeldApp) (n slot next : ℕ) (index : List (ℕ × ℕ)) (h : AreNumbered 1 (entries_at held index) next) (leads : Some slot ≡ lookup (is_at (nat_cmp n)) index) (others : (o : ℕ) → o ≢ slot → held' o ≡ held o) where
  its_slot : (e : ℕ × ℕ) → IsIn e index → (e.0 == n) ≡ true → e.1 ≡ slot
  its_slot e m is =
      let number : e.0 ≡ n = grind (arith, nat_tests, is) in
      cc (sym (by_number n index leads) ∙ subst (λ k. lookup (nat_eq k) index ≡ Some e.1) number (entry_is held 1 next index e h m).leads)

  other_waits : (e : ℕ × ℕ) → IsIn e index → (e.0 == n) ≡ false → waits_in held' e ≡ waits_in held e
  other_waits e m off =
      let number = (entry_is held 1 next index e h m).number in
      let own = (is_held held n next index h leads).1 in
      let other : e.1 ≢ slot = λ s. let same = ap (λ k. (held k).app.number) s in absurd (grind (arith, nat_tests, off, number, same, own)) in
      ap (λ (x : HeldApp). is_waiting x.app) (others e.1 other)

  pub begins : is_waiting (held slot).app ≡ false → is_waiting (held' slot).app ≡ true → filter (waits_in held') index ≡ with_entry n slot (filter (waits_in held) index)
  begins off on = begun n slot (waits_in held) (waits_in held') 1 next index (numbers_rise_in held 1 next index h) (leads_in n slot index (by_number n index leads)) off on other_waits

  pub goes_on : is_waiting (held' slot).app ≡ is_waiting (held slot).app → filter (waits_in held') index ≡ filter (waits_in held) index
  goes_on same = filter_same (waits_in held') (waits_in held) index (λ e m. by e m (e.0 == n) refl)
    where
      by : (e : ℕ × ℕ) → IsIn e index → (b : Bool) → (e.0 == n) ≡ b → waits_in held' e ≡ waits_in held e
      by e m true is = subst (λ s. is_waiting (held' s).app ≡ is_waiting (held s).app) (sym (its_slot e m is)) same
      by e m false off = other_waits e m off

  pub ceases : is_waiting (held' slot).app ≡ false → filter (waits_in held') index ≡ without_entry n (filter (waits_in held) index)
  ceases off =
      filter_same (waits_in held') (λ e. cond (waits_in held e) (not (e.0 == n)) false) index (λ e m. by e m (e.0 == n) refl (waits_in held e) refl)
      ∙ sym (filter_twice (λ e. not (e.0 == n)) (waits_in held) (λ e. cond (waits_in held e) (not (e.0 == n)) false) index (λ e. refl))
    where
      by : (e : ℕ × ℕ) → IsIn e index → (b : Bool) → (e.0 == n) ≡ b → (w : Bool) → waits_in held e ≡ w → waits_in held' e ≡ cond w (not (e.0 == n)) false
      by e m true is true w = subst (λ s. is_waiting (held' s).app ≡ false) (sym (its_slot e m is)) off ∙ sym (ap not is)
      by e m true is false w = subst (λ s. is_waiting (held' s).app ≡ false) (sym (its_slot e m is)) off
      by e m false is true w = other_waits e m is ∙ w ∙ sym (ap not is)
      by e m false is false w = other_waits e m is ∙ w

  pub leaves : filter (waits_in held') (without_entry n index) ≡ without_entry n (filter (waits_in held) index)
  leaves =
      filter_twice (waits_in held') (λ e. not (e.0 == n)) (λ e. cond (not (e.0 == n)) (waits_in held' e) false) index (λ e. refl)
      ∙ filter_same (λ e. cond (not (e.0 == n)) (waits_in held' e) false) (λ e. cond (waits_in held e) (not (e.0 == n)) false) index (λ e m. by e m (e.0 == n) refl (waits_in held e) refl)
      ∙ sym (filter_twice (λ e. not (e.0 == n)) (waits_in held) (λ e. cond (waits_in held e) (not (e.0 == n)) false) index (λ e. refl))
    where
      by : (e : ℕ × ℕ) → IsIn e index → (b : Bool) → (e.0 == n) ≡ b → (w : Bool) → waits_in held e ≡ w → cond (not (e.0 == n)) (waits_in held' e) false ≡ cond w (not (e.0 == n)) false
      by e m true is true w = rw is refl
      by e m true is false w = rw is refl
      by e m false is true w = rw is (other_waits e m is ∙ w)
      by e m false is false w = rw is (other_waits e m is ∙ w)

-- what a change of one application does to all
began : (waits waited : Bool) → beq waits waited ≡ false → waits ≡ true → waited ≡ false
began true true e on = absurd (cc e)
began true false e on = refl
began false d e on = absurd (cc on)

either : (w : Bool) (P : Bool → Type 0) → (w ≡ true → P true) → (w ≡ false → P false) → P w
either true P on off = on refl
either false P on off = off refl

pub record IsChanged (n : ℕ) (change : App → App) (a g e slot : ℕ) (now : HeldApp) (held held' : ℕ → HeldApp) (index : List (ℕ × ℕ)) (next : ℕ) (ws : List (ℕ × ℕ)) (room : ℕ) (waited waits : Bool) : Type 0 where
  pub entries : entries_at held' index ≡ set_value (nat_eq n) (entries_at held index) now
  pub table : record { active = apps_of (entries_at held' index); next = next } ≡ change_app n change (record { active = apps_of (entries_at held index); next = next })
  pub accounts : UsesRoom n a g e (accounts_of (entries_at held index)) (accounts_of (entries_at held' index))
  pub fits : beq waits waited ≡ false → waits ≡ true → length ws < room
  pub put : beq waits waited ≡ false → {ws2 : List (ℕ × ℕ)} {room2 : ℕ} → ws2 ≡ cond waits (with_entry n slot ws) (without_entry n ws) → room ≤ room2 → AreIndexed held' index next ws2 room2
  pub stays : waits ≡ waited → AreIndexed held' index next ws room

pub changed : {A : Type 0} (n : ℕ) (change : App → App) (keeps : (app : App) → AreKept app.asks → AreKept (change app).asks) (slot : ℕ) (b : Box HeldApp A) (old now : HeldApp) (apps : Slab (Box HeldApp A)) (index : List (ℕ × ℕ)) {a g e next : ℕ} {ws : List (ℕ × ℕ)} {room : ℕ} {waited waits : Bool}
    → AreIndexed (held_at apps) index next ws room → Some slot ≡ lookup (is_at (nat_cmp n)) index → get apps slot ≡ Some b → old ≡ b.value → now.app ≡ change old.app → now.app.number ≡ old.app.number → TakesRoom a g e old.account now.account
    → waited ≡ is_waiting old.app → waits ≡ is_waiting now.app → IsChanged n change a g e slot now (held_at apps) (held_at (with_value apps slot (with_boxed b now))) index next ws room waited waits
changed n change keeps slot b old now apps index {a} {g} {e} {next} {ws} {room} {waited} {waits} h f there is_old is number takes did does =
    let held = held_at apps in
    let held' = held_at (with_value apps slot (with_boxed b now)) in
    let es = entries_at held index in
    let found = opened apps index n slot b old f there is_old in
    let write = written apps slot (with_boxed b now) (ap is_some there) in
    let new_is : entries_at held' index ≡ set_value (nat_eq n) es now = held_set held held' slot n next index now write h.numbered f in
    let numbered : AreNumbered 1 (entries_at held' index) next = rw new_is (still_numbered 1 n next es old now h.numbered found number) in
    let few = h.few in
    let table = ap apps_of new_is ∙ one_changed 1 n next es old now change h.numbered found is in
    let kept = subst AreAllKept (sym table) (kept_changed n change keeps (apps_of es) h.kept) in
    let waited_is : waited ≡ is_waiting (held slot).app = did ∙ ap (λ (x : HeldApp). is_waiting x.app) (is_old ∙ sym (ap (λ o. option_map_or (λ c. c.value) o nobody) there)) in
    let waits_is : waits ≡ is_waiting (held' slot).app = does ∙ ap (λ (x : HeldApp). is_waiting x.app) (sym write.here) in
    let begin : waited ≡ false → waits ≡ true → filter (waits_in held') index ≡ with_entry n slot ws =
    λ off on. begins held held' n slot next index h.numbered f write.others (sym waited_is ∙ off) (sym waits_is ∙ on) ∙ ap (with_entry n slot) (sym h.waiting) in
    record {
      entries = new_is;
      table = ap (λ xs. record { active = xs; next = next }) table;
      accounts = rw new_is (one_uses n a g e es old now found takes);
      fits = λ other on. let more = ap length (begin (began waits waited other on) on) ∙ length-with n slot ws in let all = length-kept (waits_in held') index in omega (arith, more, all, few);
      put = λ other {ws2} {room2} is r. record {
        numbered = numbered;
        kept = kept;
        waiting =
            is
            ∙ either waits (λ w. cond w (with_entry n slot ws) (without_entry n ws) ≡ filter (waits_in held') index) (λ on. sym (begin (began waits waited other on) on))
            (λ off. ap (without_entry n) h.waiting ∙ sym (ceases held held' n slot next index h.numbered f write.others (sym waits_is ∙ off)));
        few = omega (arith, few, r);
      };
      stays = λ same. record { numbered = numbered; kept = kept; waiting = h.waiting ∙ sym (goes_on held held' n slot next index h.numbered f write.others (sym waits_is ∙ same ∙ waited_is)); few = few };
    }

-- where there is none of the number, nothing changes
pub unchanged : (n : ℕ) (change : App → App) (held : ℕ → HeldApp) (index : List (ℕ × ℕ)) (next : ℕ) → AreNumbered 1 (entries_at held index) next → None ≡ lookup (is_at (nat_cmp n)) index
    → record { active = apps_of (entries_at held index); next = next } ≡ change_app n change (record { active = apps_of (entries_at held index); next = next })
unchanged n change held index next h f =
    ap (λ xs. record { active = xs; next = next }) (none_changed 1 n next (entries_at held index) change h (by_number n (entries_at held index) (looked_at held n index f)))

-- one less
removed_is : (held : ℕ → HeldApp) (n low next : ℕ) (index : List (ℕ × ℕ)) → AreNumbered low (entries_at held index) next → remove_entry (nat_eq n) index ≡ without_entry n index
removed_is held n low next [] h = refl
removed_is held n low next (p ∷ ps) h = by (nat_eq n p.0) refl (removed_is held n (p.0 + 1) next ps h.2)
  where
    by : (b : Bool) → nat_eq n p.0 ≡ b → remove_entry (nat_eq n) ps ≡ without_entry n ps → cond b ps (p ∷ remove_entry (nat_eq n) ps) ≡ without_entry n (p ∷ ps)
    by true b r =
        let same : (p.0 == n) ≡ true = grind (arith, nat_tests, b) in
        let number : n ≡ p.0 = grind (arith, nat_tests, b) in
        rw same (sym (none_without n ps (λ k l. let a = rising_at (p.0 + 1) next k (map number_of ps) (numbers_rise_in held (p.0 + 1) next ps h.2) l in grind (arith, nat_tests, a, number))))
    by false b r = let other : (p.0 == n) ≡ false = grind (arith, nat_tests, b) in rw other (ap (λ qs. p ∷ qs) r)

pub record AreWithout (n : ℕ) (es new : List (ℕ × HeldApp)) (next : ℕ) : Type 0 where
  pub numbered : AreNumbered 1 new next
  pub table : record { active = apps_of new; next = next } ≡ remove_app n (record { active = apps_of es; next = next })
  pub accounts : IsLeft n (accounts_of es) (accounts_of new)
  pub impossible : AreAmong (impossible_in new) (impossible_in es)

pub without : (n next : ℕ) (held held' : ℕ → HeldApp) (index left : List (ℕ × ℕ)) → AreNumbered 1 (entries_at held index) next → left ≡ remove_entry (is_at (nat_cmp n)) index → lookup (is_at (nat_cmp n)) left ≡ None
    → ((m : ℕ) → is_at (nat_cmp n) m ≡ false → lookup (is_at (nat_cmp m)) left ≡ lookup (is_at (nat_cmp m)) index) → entries_at held' left ≡ entries_at held left → AreWithout n (entries_at held index) (entries_at held' left) next
without n next held held' index left h is none others kept =
    let es = entries_at held index in
    let left_is = ap (entries_at held) is ∙ entries_without held (is_at (nat_cmp n)) index ∙ ap (λ t. remove_entry t es) (is_number n) in
    let own = sym (looked_at held n left (sym none)) in
    rw kept (record {
      numbered = rw left_is (still_without 1 n next es h);
      table = table_without n next es (entries_at held left) h left_is;
      accounts = account_left n es (entries_at held left) own (λ m o. sym (looked_at held m left refl) ∙ ap (option_map held) (others m o) ∙ looked_at held m index refl);
      impossible = rw left_is (among_without (nat_eq n) es);
    })

pub taken_out : {A : Type 0} (n slot : ℕ) (apps apps' : Slab (Box HeldApp A)) (index left : List (ℕ × ℕ)) {next : ℕ} {ws : List (ℕ × ℕ)} {room : ℕ} → AreIndexed (held_at apps) index next ws room → left ≡ remove_entry (is_at (nat_cmp n)) index
    → lookup (is_at (nat_cmp n)) left ≡ None → ((m : ℕ) → is_at (nat_cmp n) m ≡ false → lookup (is_at (nat_cmp m)) left ≡ lookup (is_at (nat_cmp m)) index) → Some slot ≡ lookup (is_at (nat_cmp n)) index → Updates apps apps' slot None → length left ≤ length index
    → AreWithout n (entries_at (held_at apps) index) (entries_at (held_at apps') left) next × ((now : List (ℕ × ℕ)) (n_room : ℕ) → now ≡ without_entry n ws → room ≤ n_room → AreIndexed (held_at apps') left next now n_room)
taken_out n slot apps apps' index left {next} {ws} {room} h is none others e u less =
    let held = held_at apps in
    let held' = held_at apps' in
    let w = without n next held held' index left h.numbered is none others (held_without held held' slot n next index left (updated u) h.numbered e is none) in
    let few = h.few in
    let left_is = is ∙ ap (λ t. remove_entry t index) (is_number n) ∙ removed_is held n 1 next index h.numbered in (
      w,
      λ ws2 room2 now r. record {
        numbered = w.numbered;
        kept = subst AreAllKept (sym (ap (λ (t : AppTable). t.active) w.table)) (kept_left (λ (app : App). not (app.number == n)) (apps_of (entries_at held index)) h.kept);
        waiting = now ∙ ap (without_entry n) h.waiting ∙ sym (ap (filter (waits_in held')) left_is ∙ leaves held held' n slot next index h.numbered e (updated u).others);
        few = omega (arith, few, r, less);
      },
    )

same_push : {X : Type 0} (xs ys : List X) (x y : X) → xs ++ x ∷ [] ≡ ys ++ y ∷ [] → (xs ≡ ys) × (x ≡ y)
same_push xs ys x y e =
    let lengths = sym (length-append xs (x ∷ [])) ∙ ap length e ∙ length-append ys (y ∷ []) in
    let len : length xs ≡ length ys = omega (arith, lengths) in
    let front = sym (take_at xs (x ∷ []) (length xs) refl) ∙ ap (take (length xs)) e ∙ take_at ys (y ∷ []) (length xs) (sym len) in
    (front, cc (append_cancel_left xs (x ∷ []) (y ∷ []) (e ∙ ap (λ zs. zs ++ y ∷ []) (sym front))))

pub record AreBack (held held' : ℕ → HeldApp) (p : ℕ × ℕ) (index left ws : List (ℕ × ℕ)) (next room : ℕ) : Type 0 where
  pub whole : {now : List (ℕ × ℕ)} {n_room : ℕ} → now ≡ without_entry p.0 ws → room ≤ n_room → AreIndexed held' left p.0 now n_room
  pub table : (leaf user : List ℕ) (table : AppTable) → record { active = apps_of (entries_at held index); next = next } ≡ add_app leaf user table → record { active = apps_of (entries_at held' left); next = p.0 } ≡ table
  pub accounts : (number : ℕ) (account : Account) (accounts : List (ℕ × Account)) → accounts_of (entries_at held index) ≡ accounts ++ (number, account) ∷ [] → accounts_of (entries_at held' left) ≡ accounts
  pub impossible : AreAmong (impossible_in (entries_at held' left)) (impossible_in (entries_at held index))

pub taken_back : {A : Type 0} (q : ℕ × ℕ) (apps apps' : Slab (Box HeldApp A)) (index left : List (ℕ × ℕ)) {next : ℕ} {ws : List (ℕ × ℕ)} {room : ℕ} → AreIndexed (held_at apps) index next ws room
    → index ≡ left ++ q ∷ [] → lookup (is_at (nat_cmp q.0)) index ≡ Some q.1 → Updates apps apps' q.1 None → AreBack (held_at apps) (held_at apps') q index left ws next room
taken_back q apps apps' index left {next} {ws} {room} h last e u =
    let held = held_at apps in
    let held' = held_at apps' in
    let es = entries_at held index in
    let new = entries_at held' left in
    let p : ℕ × HeldApp = (q.0, held q.1) in
    let is = held_back held held' q next index left (updated u) h.numbered last in
    let numbered = subst (λ xs. AreNumbered 1 xs next) is h.numbered in
    let front = numbered_front 1 next new p numbered in
    let more = ap length last ∙ length-append left (q ∷ []) in
    let few = h.few in
    let gone : (q.0 == q.0) ≡ true = grind (arith, nat_tests) in
    let left_is : without_entry q.0 index ≡ left =
    ap (without_entry q.0) last ∙ filter-append (λ (e : ℕ × ℕ). not (e.0 == q.0)) left (q ∷ [])
    ∙ ap (λ b. without_entry q.0 left ++ cond (not b) (q ∷ []) []) gone
    ∙ append-nil (without_entry q.0 left)
    ∙ filter_whole (λ (e : ℕ × ℕ). not (e.0 == q.0)) left (λ x m. let below = rising_to_high number_of 1 left q.0 x (numbers_rise_in held' 1 q.0 left front.0) m in grind (arith, nat_tests, below)) in
    record {
      whole = λ {now = ws2} {n_room = room2} now r. record {
        numbered = front.0;
        kept = kept_before (apps_of new) p.1.app (subst AreAllKept (ap apps_of is ∙ map_push (λ (x : ℕ × HeldApp). x.1.app) new p) h.kept);
        waiting = now ∙ ap (without_entry q.0) h.waiting ∙ sym (ap (filter (waits_in held')) (sym left_is) ∙ leaves held held' q.0 q.1 next index h.numbered (sym e) (updated u).others);
        few = omega (arith, few, more, r);
      };
      table = λ leaf user table e.
          let parts = same_push (apps_of new) table.active p.1.app (new_app table.next leaf user) (sym (ap apps_of is ∙ map_push (λ (x : ℕ × HeldApp). x.1.app) new p) ∙ ap (λ (t : AppTable). t.active) e) in
          let number = sym front.1 ∙ ap (λ (app : App). app.number) parts.1 in
          ap (λ xs. record { active = xs; next = q.0 }) parts.0 ∙ ap (λ k. record { active = table.active; next = k }) number;
      accounts = λ number account accounts e.
          (same_push (accounts_of new) accounts (q.0, p.1.account) (number, account) (sym (ap accounts_of is ∙ map_push (λ (x : ℕ × HeldApp). (x.0, x.1.account)) new p) ∙ e)).0;
      impossible = rw is (among_front new p);
    }

-- all that grew before a change
pub grown : {held held' : ℕ → HeldApp} {index : List (ℕ × ℕ)} {next : ℕ} {ws now : List (ℕ × ℕ)} {room n_room : ℕ} → AreIndexed held index next ws room → held' ≡ held → now ≡ ws → room ≤ n_room → AreIndexed held' index next now n_room
grown {held} {held'} {index} {next} {ws} {now} {room} {n_room} h same is r =
    let few = h.few in
    subst (λ (f : ℕ → HeldApp). AreIndexed f index next now n_room) (sym same) (record { numbered = h.numbered; kept = h.kept; waiting = is ∙ h.waiting; few = omega (arith, few, r) })

-- one more, that does not wait yet
pub record IsEnteredAs (x : HeldApp) (held held' : ℕ → HeldApp) (index more : List (ℕ × ℕ)) (next : ℕ) (ws : List (ℕ × ℕ)) : Type 0 where
  pub entries : entries_at held' more ≡ entries_at held index ++ (next, x) ∷ []
  pub whole : {room : ℕ} → length index + 1 ≤ room → AreIndexed held' more (next + 1) ws room

pub entered : {A : Type 0} (slot : ℕ) (b : Box HeldApp A) (x : HeldApp) (apps apps' : Slab (Box HeldApp A)) (index more : List (ℕ × ℕ)) {next : ℕ} {ws : List (ℕ × ℕ)} {room : ℕ} → AreIndexed (held_at apps) index next ws room
    → more ≡ insert_entry nat_cmp index next slot → Updates apps apps' slot (Some b) → get apps slot ≡ None → b.value ≡ x → x.app.number ≡ next → AreKept x.app.asks → is_waiting x.app ≡ false → IsEnteredAs x (held_at apps) (held_at apps') index more next ws
entered {A} slot b x apps apps' index more {next} {ws} {room} h last u vacant value number rising rests =
    let held = held_at apps in
    let held' = held_at apps' in
    let none = ap (λ o. option_map_or (λ (c : Box HeldApp A). c.value) o nobody) vacant in
    let pushed = held_push held held' slot next index more b.value (updated u) none h.numbered last in
    let is = pushed.1 ∙ ap (λ y. entries_at held index ++ (next, y) ∷ []) value in
    let size = ap length pushed.0 ∙ length-append index ((next, slot) ∷ []) in
    let own : waits_in held' (next, slot) ≡ false = ap (λ (y : HeldApp). is_waiting y.app) ((updated u).here ∙ value) ∙ rests in
    let others : (e : ℕ × ℕ) → IsIn e index → waits_in held' e ≡ waits_in held e =
    λ e m.
    let i = entry_is held 1 next index e h.numbered m in
    let above = i.above in
    let its = i.number in
    let other : e.1 ≢ slot = λ s. let same = ap (λ k. (held k).app.number) s ∙ ap (λ (y : HeldApp). y.app.number) none in absurd (omega (arith, above, its, same)) in
    ap (λ (y : HeldApp). is_waiting y.app) ((updated u).others e.1 other) in
    record {
      entries = is;
      whole = λ {room = room2} r. record {
        numbered = rw is (numbered_push 1 next (entries_at held index) x h.numbered number);
        kept = subst AreAllKept (sym (ap apps_of is ∙ map_push (λ (y : ℕ × HeldApp). y.1.app) (entries_at held index) (next, x))) (kept_more (apps_of (entries_at held index)) x.app h.kept rising);
        waiting =
            h.waiting
            ∙ sym (ap (filter (waits_in held')) pushed.0 ∙ filter-append (waits_in held') index ((next, slot) ∷ [])
            ∙ ap (λ b. filter (waits_in held') index ++ cond b ((next, slot) ∷ []) []) own
            ∙ append-nil (filter (waits_in held') index)
            ∙ filter_same (waits_in held') (waits_in held) index others);
        few = omega (arith, size, r);
      };
    }

-- the one at an index among those that wait is in the slot beside its number
in_at : {X : Type 0} (xs : List X) (i : ℕ) (x : X) → slice_get xs i ≡ Some x → IsIn x xs
in_at [] i x e = absurd (cc e)
in_at (y ∷ xs) zero x e = inl (cc e)
in_at (y ∷ xs) (suc i) x e = inr (in_at xs i x e)

pub record IsWaiter {A : Type 0} (apps : Slab (Box HeldApp A)) (index : List (ℕ × ℕ)) (i slot : ℕ) : Type 0 where
  pub there : ContainsKey apps slot
  pub app : (b : Box HeldApp A) (x : HeldApp) → get apps slot ≡ Some b → x ≡ b.value → slice_get (waiting_of (apps_of (entries_at (held_at apps) index))) i ≡ Some x.app
  pub account : (b : Box HeldApp A) (x : HeldApp) → get apps slot ≡ Some b → x ≡ b.value → account_of x.app.number (accounts_of (entries_at (held_at apps) index)) ≡ Some x.account
  pub impossible : (b : Box HeldApp A) (x : HeldApp) → get apps slot ≡ Some b → x ≡ b.value → AreAmong x.impossible (impossible_in (entries_at (held_at apps) index))

pub waiter_at : {A : Type 0} (apps : Slab (Box HeldApp A)) (index : List (ℕ × ℕ)) {next : ℕ} {ws : List (ℕ × ℕ)} {room : ℕ} → AreIndexed (held_at apps) index next ws room → (i : ℕ) (e : ℕ × ℕ) → i < length ws → e ≡ get_or ws i e → IsWaiter apps index i e.1
waiter_at {A} apps index {next} {ws} {room} h i e l is =
    let held = held_at apps in
    let at = slice_get_read ws (length ws) i e refl l is in
    let entry = entry_is held 1 next index e h.numbered (of_filter (waits_in held) index e (subst (IsIn e) h.waiting (in_at ws i e at))).1 in
    let found : Some e.1 ≡ lookup (is_at (nat_cmp e.0)) index = sym (ap (λ t. lookup t index) (is_number e.0) ∙ entry.leads) in
    let here = by_number e.0 (entries_at held index) (looked_at held e.0 index found) in
    let own = account_there e.0 (entries_at held index) (held e.1) here in
    let same : (b : Box HeldApp A) (x : HeldApp) → get apps e.1 ≡ Some b → x ≡ b.value → x ≡ held e.1 = λ b x there v. v ∙ sym (ap (λ o. option_map_or (λ (c : Box HeldApp A). c.value) o nobody) there) in
    record {
      there = slot_taken apps index e.0 next h.numbered found;
      app = λ b x there v. ap (λ xs. slice_get xs i) (sym (waiters_are h)) ∙ slice_get-map (λ (e : ℕ × ℕ). (held e.1).app) ws i ∙ ap (option_map (λ (e : ℕ × ℕ). (held e.1).app)) at ∙ ap (λ (y : HeldApp). Some y.app) (sym (same b x there v));
      account = λ b x there v. subst (λ (y : HeldApp). account_of y.app.number (accounts_of (entries_at held index)) ≡ Some y.account) (sym (same b x there v)) (subst (λ k. account_of k (accounts_of (entries_at held index)) ≡ Some (held e.1).account) (sym entry.number) own);
      impossible = λ b x there v. subst (λ (y : HeldApp). AreAmong y.impossible (impossible_in (entries_at held index))) (sym (same b x there v)) (own_wants e.0 (entries_at held index) (held e.1) here);
    }
