-- The entries of an index whose values are held in slots.
use Rattle.cap_asks.proofs.Prelude.{◌≡◌, ◌≢◌, ℕ, zero, suc, ◌+◌, ◌≤◌, ◌<◌, Bool, true, false, cond, List, [], ◌∷◌, ◌++◌, length, refl, sym, ◌∙◌, ap, subst, arith, nat_cmp, get_or, Box, Option, Some, None, is_some, nat_eq, option_map, option_map_or, lookup, set_value, remove_entry, insert_entry, is_at, nat_cmp_is, Greater, nat_tests, map_push, get_or-set_same, get_or-set_other, lookup-map_values, Slab, ContainsKey, Updates, with_value, get, HeldApp, AreNumbered, entries_at, held_at, nobody}
use Rattle.cap_asks.proofs.Entries.{is_number, by_number, above_absent, next_absent, low_below, numbered_front, still_without, found_number}

-- one slot holds another than before
pub record IsWritten (held held' : ℕ → HeldApp) (slot : ℕ) (now : HeldApp) : Type 0 where
  pub here : held' slot ≡ now
  pub others : (o : ℕ) → o ≢ slot → held' o ≡ held o

within : {X : Type 0} (xs : List (Option X)) (i : ℕ) → is_some (get_or xs i None) ≡ true → i < length xs
within [] i h = absurd (cc h)
within (x ∷ xs) zero h = omega arith
within (x ∷ xs) (suc i) h = let r = within xs i h in omega (arith, r)

pub written : {A : Type 0} (apps : Slab (Box HeldApp A)) (slot : ℕ) (b : Box HeldApp A) → ContainsKey apps slot → IsWritten (held_at apps) (held_at (with_value apps slot b)) slot b.value
written {A} apps slot b there = record {
  here = ap (λ o. option_map_or (λ (c : Box HeldApp A). c.value) o nobody) (get_or-set_same apps.slots slot (Some b) None (within apps.slots slot there));
  others = λ o other. ap (λ x. option_map_or (λ (c : Box HeldApp A). c.value) x nobody) (get_or-set_other apps.slots slot o (Some b) None other);
}

pub updated : {A : Type 0} {apps apps' : Slab (Box HeldApp A)} {slot : ℕ} {o : Option (Box HeldApp A)} → Updates apps apps' slot o → IsWritten (held_at apps) (held_at apps') slot (option_map_or (λ b. b.value) o nobody)
updated {A} u = record {
  here = ap (λ o. option_map_or (λ (c : Box HeldApp A). c.value) o nobody) u.changed;
  others = λ o other. ap (λ x. option_map_or (λ (c : Box HeldApp A). c.value) x nobody) (u.others o other);
}

-- what is found by a number, and the slot that it leads to
pub looked_at : (held : ℕ → HeldApp) (n : ℕ) (index : List (ℕ × ℕ)) {o : Option ℕ} → o ≡ lookup (is_at (nat_cmp n)) index → option_map held o ≡ lookup (is_at (nat_cmp n)) (entries_at held index)
looked_at held n index e = ap (option_map held) e ∙ sym (lookup-map_values held (is_at (nat_cmp n)) index)

-- where it leads an application of the number is held
pub is_held : (held : ℕ → HeldApp) (n next : ℕ) (index : List (ℕ × ℕ)) {slot : ℕ} → AreNumbered 1 (entries_at held index) next → Some slot ≡ lookup (is_at (nat_cmp n)) index → (1 ≤ n) × ((held slot).app.number ≡ n)
is_held held n next index {slot} h e = found_number 1 n next (entries_at held index) (held slot) h (by_number n (entries_at held index) (looked_at held n index e))

-- a change in the slot of a number that no entry has
kept_others : (held held' : ℕ → HeldApp) (slot n low next : ℕ) (index : List (ℕ × ℕ)) → ((o : ℕ) → o ≢ slot → held' o ≡ held o) → (held slot).app.number ≡ n → AreNumbered low (entries_at held index) next → lookup (nat_eq n) (entries_at held index) ≡ None
    → entries_at held' index ≡ entries_at held index
kept_others held held' slot n low next [] others number h none = refl
kept_others held held' slot n low next (p ∷ ps) others number h none = by (nat_eq n p.0) refl none (kept_others held held' slot n (p.0 + 1) next ps others number h.2)
  where
    by : (b : Bool) → nat_eq n p.0 ≡ b → cond b (Some (held p.1)) (lookup (nat_eq n) (entries_at held ps)) ≡ None → (lookup (nat_eq n) (entries_at held ps) ≡ None → entries_at held' ps ≡ entries_at held ps)
        → (p.0, held' p.1) ∷ entries_at held' ps ≡ (p.0, held p.1) ∷ entries_at held ps
    by true b e r = absurd (cc e)
    by false b e r =
        let own = h.1 in
        let other : p.1 ≢ slot = λ s. let same = ap (λ k. (held k).app.number) s in absurd (grind (arith, nat_tests, b, own, same, number)) in
        ap (λ x. (p.0, x) ∷ entries_at held' ps) (others p.1 other)
        ∙ ap (λ es. (p.0, held p.1) ∷ es) (r e)

-- a change in the slot of a number
set_held : (held held' : ℕ → HeldApp) (slot n low next : ℕ) (index : List (ℕ × ℕ)) (now : HeldApp) → IsWritten held held' slot now → (held slot).app.number ≡ n → AreNumbered low (entries_at held index) next → lookup (nat_eq n) index ≡ Some slot
    → entries_at held' index ≡ set_value (nat_eq n) (entries_at held index) now
set_held held held' slot n low next [] now w number h found = refl
set_held held held' slot n low next (p ∷ ps) now w number h found = by (nat_eq n p.0) refl found (set_held held held' slot n (p.0 + 1) next ps now w number h.2)
  where
    by : (b : Bool) → nat_eq n p.0 ≡ b → cond b (Some p.1) (lookup (nat_eq n) ps) ≡ Some slot → (lookup (nat_eq n) ps ≡ Some slot → entries_at held' ps ≡ set_value (nat_eq n) (entries_at held ps) now)
        → (p.0, held' p.1) ∷ entries_at held' ps ≡ cond b ((p.0, now) ∷ entries_at held ps) ((p.0, held p.1) ∷ set_value (nat_eq n) (entries_at held ps) now)
    by true b e r =
        let n_is : n ≡ p.0 = grind (arith, nat_tests, b) in
        let here : p.1 ≡ slot = cc e in
        let none = above_absent (p.0 + 1) n next (entries_at held ps) h.2 (omega (arith, n_is)) in
        ap (λ x. (p.0, x) ∷ entries_at held' ps) (ap held' here ∙ w.here)
        ∙ ap (λ es. (p.0, now) ∷ es) (kept_others held held' slot n (p.0 + 1) next ps w.others number h.2 none)
    by false b e r =
        let own = h.1 in
        let other : p.1 ≢ slot = λ s. let same = ap (λ k. (held k).app.number) s in absurd (grind (arith, nat_tests, b, own, same, number)) in
        ap (λ x. (p.0, x) ∷ entries_at held' ps) (w.others p.1 other)
        ∙ ap (λ es. (p.0, held p.1) ∷ es) (r e)

pub held_set : (held held' : ℕ → HeldApp) (slot n next : ℕ) (index : List (ℕ × ℕ)) (now : HeldApp) → IsWritten held held' slot now → AreNumbered 1 (entries_at held index) next → Some slot ≡ lookup (is_at (nat_cmp n)) index
    → entries_at held' index ≡ set_value (nat_eq n) (entries_at held index) now
held_set held held' slot n next index now w h e =
    set_held held held' slot n 1 next index now w (is_held held n next index h e).1 h (by_number n index e)

-- without an entry
pub entries_without : (held : ℕ → HeldApp) (test : ℕ → Bool) (index : List (ℕ × ℕ)) → entries_at held (remove_entry test index) ≡ remove_entry test (entries_at held index)
entries_without held test [] = refl
entries_without held test (p ∷ ps) = by (test p.0) (entries_without held test ps)
  where
    by : (b : Bool) → entries_at held (remove_entry test ps) ≡ remove_entry test (entries_at held ps) → entries_at held (cond b ps (p ∷ remove_entry test ps)) ≡ cond b (entries_at held ps) ((p.0, held p.1) ∷ remove_entry test (entries_at held ps))
    by true r = refl
    by false r = ap (λ es. (p.0, held p.1) ∷ es) r

pub held_without : (held held' : ℕ → HeldApp) (slot n next : ℕ) (index left : List (ℕ × ℕ)) → IsWritten held held' slot nobody → AreNumbered 1 (entries_at held index) next → Some slot ≡ lookup (is_at (nat_cmp n)) index
    → left ≡ remove_entry (is_at (nat_cmp n)) index → lookup (is_at (nat_cmp n)) left ≡ None → entries_at held' left ≡ entries_at held left
held_without held held' slot n next index left w h e is none =
    let es = ap (entries_at held) is ∙ entries_without held (is_at (nat_cmp n)) index ∙ ap (λ t. remove_entry t (entries_at held index)) (is_number n) in
    let numbered = subst (λ xs. AreNumbered 1 xs next) (sym es) (still_without 1 n next (entries_at held index) h) in
    kept_others held held' slot n 1 next left w.others (is_held held n next index h e).1 numbered (by_number n (entries_at held left) (looked_at held n left (sym none)))

-- one more, under the next number
inserted_last : (held : ℕ → HeldApp) (low next slot : ℕ) (index : List (ℕ × ℕ)) → AreNumbered low (entries_at held index) next → insert_entry nat_cmp index next slot ≡ index ++ (next, slot) ∷ []
inserted_last held low next slot [] h = refl
inserted_last held low next slot (p ∷ ps) h =
    let below = low_below (p.0 + 1) next (entries_at held ps) h.2 in
    let greater : nat_cmp next p.0 ≡ Greater = sym (nat_cmp_is next p.0 Greater (omega (arith, below))) in
    rw greater (ap (λ qs. p ∷ qs) (inserted_last held (p.0 + 1) next slot ps h.2))

pub held_push : (held held' : ℕ → HeldApp) (slot next : ℕ) (index more : List (ℕ × ℕ)) (now : HeldApp) → IsWritten held held' slot now → held slot ≡ nobody → AreNumbered 1 (entries_at held index) next → more ≡ insert_entry nat_cmp index next slot
    → (more ≡ index ++ (next, slot) ∷ []) × (entries_at held' more ≡ entries_at held index ++ (next, now) ∷ [])
held_push held held' slot next index more now w vacant h is =
    let last = is ∙ inserted_last held 1 next slot index h in
    let none = above_absent 1 0 next (entries_at held index) h (omega arith) in (
      last,
      ap (entries_at held') last ∙ map_push (λ (p : ℕ × ℕ). (p.0, held' p.1)) index (next, slot) ∙ ap (λ x. entries_at held' index ++ (next, x) ∷ []) w.here
          ∙ ap (λ es. es ++ (next, now) ∷ []) (kept_others held held' slot 0 1 next index w.others (ap (λ (x : HeldApp). x.app.number) vacant) h none),
    )

-- and without the last
pub held_back : (held held' : ℕ → HeldApp) (p : ℕ × ℕ) (next : ℕ) (index left : List (ℕ × ℕ)) → IsWritten held held' p.1 nobody → AreNumbered 1 (entries_at held index) next → index ≡ left ++ p ∷ []
    → entries_at held index ≡ entries_at held' left ++ (p.0, held p.1) ∷ []
held_back held held' p next index left w h is =
    let es = ap (entries_at held) is ∙ map_push (λ (q : ℕ × ℕ). (q.0, held q.1)) left p in
    let front = numbered_front 1 next (entries_at held left) (p.0, held p.1) (subst (λ xs. AreNumbered 1 xs next) es h) in
    es ∙ ap (λ xs. xs ++ (p.0, held p.1) ∷ []) (sym (kept_others held held' p.1 p.0 1 p.0 left w.others front.1 front.0 (next_absent 1 p.0 (entries_at held left) front.0)))

-- an application in the slot that its number leads to
pub slot_taken : {A : Type 0} (apps : Slab (Box HeldApp A)) (index : List (ℕ × ℕ)) (n next : ℕ) {slot : ℕ} → AreNumbered 1 (entries_at (held_at apps) index) next → Some slot ≡ lookup (is_at (nat_cmp n)) index → ContainsKey apps slot
slot_taken {A} apps index n next {slot} h e = let i = is_held (held_at apps) n next index h e in by (get apps slot) i.1 i.0
  where
    by : (o : Option (Box HeldApp A)) → (option_map_or (λ b. b.value) o nobody).app.number ≡ n → 1 ≤ n → is_some o ≡ true
    by None e l = absurd (omega (arith, e, l))
    by (Some b) e l = refl

pub opened : {A : Type 0} (apps : Slab (Box HeldApp A)) (index : List (ℕ × ℕ)) (n slot : ℕ) (b : Box HeldApp A) (old : HeldApp) → Some slot ≡ lookup (is_at (nat_cmp n)) index → get apps slot ≡ Some b → old ≡ b.value
    → lookup (nat_eq n) (entries_at (held_at apps) index) ≡ Some old
opened {A} apps index n slot b old e there is =
    by_number n (entries_at (held_at apps) index) (looked_at (held_at apps) n index e)
    ∙ ap (λ o. Some (option_map_or (λ (c : Box HeldApp A). c.value) o nobody)) there ∙ ap (λ (x : HeldApp). Some x) (sym is)
