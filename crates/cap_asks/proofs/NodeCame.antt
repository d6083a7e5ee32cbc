-- All applications, after a node came: slot by slot.
use Rattle.std.proofs.lemmas.List.{get_or_past}
use Rattle.cap_base.proofs.lists.Members.{in_either, in_left, in_right}
use Rattle.cap_base.proofs.lists.Filters.{filter_same}
use Rattle.std.specs.Prelude.{◌||◌}
use Rattle.cap_asks.specs.Apps.{impossible_in}
use Rattle.cap_asks.specs.Impossible.{AreLeftBy}
use Rattle.cap_asks.proofs.Prelude.{◌≡◌, ◌≢◌, ℕ, ◌+◌, ◌≤◌, ◌<◌, Bool, true, false, List, [], ◌∷◌, length, refl, sym, ◌∙◌, ap, subst, inl, inr, arith, nat_eq, nat_lt, nat_tests, Box, Option, Some, None, is_some, option_map_or, Slab, ContainsKey, get, HeldApp, IsIn, AreIndexed, AreNumbered, AreAllKept, entries_at, held_at, is_waiting, nobody}
use Rattle.cap_asks.specs.Apps.{AreAfterNode, IsAfterNode}
use Rattle.cap_asks.proofs.Impossible.{none_among}
use Rattle.cap_asks.proofs.Entries.{apps_of, accounts_of}
use Rattle.cap_asks.proofs.Slots.{IsWritten}

-- those in slots before one were seen, and the flag says whether one of them has an impossible ask still; the others are as before
pub record AreSeenBefore (host rack total : List ℕ) (held old : ℕ → HeldApp) (slot : ℕ) (flag : Bool) : Type 0 where
  pub seen : (s : ℕ) → s < slot → IsAfterNode host rack total (old s) (held s)
  pub clear : flag ≡ false → (s : ℕ) → s < slot → (held s).impossible ≡ []
  pub others : (s : ℕ) → slot ≤ s → held s ≡ old s

pub none_after : (host rack total : List ℕ) (held : ℕ → HeldApp) → AreSeenBefore host rack total held held 0 false
none_after host rack total held = record { seen = λ s l. absurd (omega (arith, l)); clear = λ f s l. absurd (omega (arith, l)); others = λ s l. refl }

-- a slot with nothing in it
pub after_vacant : (host rack total : List ℕ) (held old : ℕ → HeldApp) (slot : ℕ) (flag : Bool) → held slot ≡ nobody → AreSeenBefore host rack total held old slot flag → AreSeenBefore host rack total held old (slot + 1) flag
after_vacant host rack total held old slot flag vacant a =
    let own : old slot ≡ nobody = sym (a.others slot (omega arith)) ∙ vacant in
    record {
      seen = λ s l. by s l (nat_eq s slot) refl own;
      clear = λ f s l. clear s f l (nat_eq s slot) refl;
      others = λ s l. a.others s (omega (arith, l));
    }
  where
    by : (s : ℕ) → s < slot + 1 → (b : Bool) → nat_eq s slot ≡ b → old slot ≡ nobody → IsAfterNode host rack total (old s) (held s)
    by s l true e own =
        let same : s ≡ slot = grind (arith, nat_tests, e) in
        let here = ap held same ∙ vacant in
        let was = ap old same ∙ own in
        subst (λ x. IsAfterNode host rack total (old s) x) (was ∙ sym here) (record { app = refl; account = refl; impossible = λ want m. absurd (subst (λ (x : HeldApp). IsIn want x.impossible) was m) })
    by s l false e own = a.seen s (grind (arith, nat_tests, l, e))

    clear : (s : ℕ) → flag ≡ false → s < slot + 1 → (b : Bool) → nat_eq s slot ≡ b → (held s).impossible ≡ []
    clear s f l true e = let same : s ≡ slot = grind (arith, nat_tests, e) in ap (λ (x : HeldApp). x.impossible) (ap held same ∙ vacant)
    clear s f l false e = a.clear f s (grind (arith, nat_tests, l, e))

-- one with an application, which has seen the node
pub after_one : (host rack total : List ℕ) (held held' old : ℕ → HeldApp) (slot : ℕ) (flag more : Bool) (was now : HeldApp) → was ≡ held slot → IsWritten held held' slot now → IsAfterNode host rack total was now → (more ≡ false → now.impossible ≡ [])
    → AreSeenBefore host rack total held old slot flag → AreSeenBefore host rack total held' old (slot + 1) (flag || more)
after_one host rack total held held' old slot flag more was now own w after none a = record {
  seen = λ s l. by s l (nat_eq s slot) refl;
  clear = λ f s l. clear s f l (nat_eq s slot) refl;
  others = λ s l. w.others s (λ e. absurd (omega (arith, e, l))) ∙ a.others s (omega (arith, l));
}
  where
    by : (s : ℕ) → s < slot + 1 → (b : Bool) → nat_eq s slot ≡ b → IsAfterNode host rack total (old s) (held' s)
    by s l true e =
        let same : s ≡ slot = grind (arith, nat_tests, e) in
        let before = own ∙ a.others slot (omega arith) ∙ ap old (sym same) in
        subst (λ x. IsAfterNode host rack total (old s) x) (sym (ap held' same ∙ w.here)) (subst (λ x. IsAfterNode host rack total x now) before after)
    by s l false e =
        let other : s ≢ slot = λ x. absurd (grind (arith, nat_tests, e, x)) in
        subst (λ x. IsAfterNode host rack total (old s) x) (sym (w.others s other)) (a.seen s (grind (arith, nat_tests, l, e)))

    neither : (x y : Bool) → (x || y) ≡ false → (x ≡ false) × (y ≡ false)
    neither true y e = absurd (cc e)
    neither false y e = (refl, e)

    clear : (s : ℕ) → (flag || more) ≡ false → s < slot + 1 → (b : Bool) → nat_eq s slot ≡ b → (held' s).impossible ≡ []
    clear s f l true e = let same : s ≡ slot = grind (arith, nat_tests, e) in ap (λ (x : HeldApp). x.impossible) (ap held' same ∙ w.here) ∙ none (neither flag more f).1
    clear s f l false e =
        let other : s ≢ slot = λ x. absurd (grind (arith, nat_tests, e, x)) in
        ap (λ (x : HeldApp). x.impossible) (w.others s other) ∙ a.clear (neither flag more f).0 s (grind (arith, nat_tests, l, e))

-- after all slots were
module _ (host rack total : List ℕ) (held old : ℕ → HeldApp) (all : (s : ℕ) → IsAfterNode host rack total (old s) (held s)) where
  pub same_apps_after : (index : List (ℕ × ℕ)) → apps_of (entries_at held index) ≡ apps_of (entries_at old index)
  same_apps_after [] = refl
  same_apps_after (e ∷ es) = λ i. (all e.1).app i ∷ same_apps_after es i

  pub same_accounts_after : (index : List (ℕ × ℕ)) → accounts_of (entries_at held index) ≡ accounts_of (entries_at old index)
  same_accounts_after [] = refl
  same_accounts_after (e ∷ es) = λ i. (e.0, (all e.1).account i) ∷ same_accounts_after es i

  pub left_after : (index : List (ℕ × ℕ)) → AreLeftBy host rack total (impossible_in (entries_at held index)) (impossible_in (entries_at old index))
  left_after [] want m = absurd m
  left_after (e ∷ es) want m =
      elim (in_either want (held e.1).impossible (impossible_in (entries_at held es)) m) [
        | inl a ↦ (let r = (all e.1).impossible want a in (in_left want (old e.1).impossible (impossible_in (entries_at old es)) r.0, r.1))
        | inr b ↦ (let r = left_after es want b in (in_right want (old e.1).impossible (impossible_in (entries_at old es)) r.0, r.1))
      ]

  numbered_after : (low : ℕ) (index : List (ℕ × ℕ)) (next : ℕ) → AreNumbered low (entries_at old index) next → AreNumbered low (entries_at held index) next
  numbered_after low [] next h = h
  numbered_after low (e ∷ es) next h = (h.0, ap (λ x. x.number) (all e.1).app ∙ h.1, numbered_after (e.0 + 1) es next h.2)

  pub indexed_after : (index : List (ℕ × ℕ)) (next : ℕ) (ws : List (ℕ × ℕ)) (room : ℕ) → AreIndexed old index next ws room → AreIndexed held index next ws room
  indexed_after index next ws room h = record {
    numbered = numbered_after 1 index next h.numbered;
    kept = subst AreAllKept (sym (same_apps_after index)) h.kept;
    waiting = h.waiting ∙ filter_same _ _ index (λ e m. ap is_waiting (sym (all e.1).app));
    few = h.few;
  }

  pub none_left : (index : List (ℕ × ℕ)) → ((s : ℕ) → (held s).impossible ≡ []) → impossible_in (entries_at held index) ≡ []
  none_left [] none = refl
  none_left (e ∷ es) none = none_among _ [] (λ want m. elim (in_either want (held e.1).impossible (impossible_in (entries_at held es)) m) [ inl a ↦ subst (IsIn want) (none e.1) a | inr b ↦ subst (IsIn want) (none_left es none) b ]) refl

-- a slot past the last has nothing in it
pub past_last : {A : Type 0} (apps : Slab (Box HeldApp A)) (slot : ℕ) → length apps.slots ≤ slot → held_at apps slot ≡ nobody
past_last {A} apps slot l = ap (λ o. option_map_or (λ (b : Box HeldApp A). b.value) o nobody) (get_or_past apps.slots slot None l)

pub found_slot : {A : Type 0} (apps : Slab (Box HeldApp A)) (slot : ℕ) (b : Box HeldApp A) (x : HeldApp) → get apps slot ≡ Some b → x ≡ b.value → x ≡ held_at apps slot
found_slot {A} apps slot b x there is = is ∙ sym (ap (λ o. option_map_or (λ (c : Box HeldApp A). c.value) o nobody) there)

pub not_there : {A : Type 0} (apps : Slab (Box HeldApp A)) (slot : ℕ) (there : Bool) → (ContainsKey apps slot → there ≡ true) → there ≡ false → get apps slot ≡ None
not_there {A} apps slot there h off = by (get apps slot) h
  where
    by : (o : Option (Box HeldApp A)) → (is_some o ≡ true → there ≡ true) → o ≡ None
    by None f = refl
    by (Some b) f = absurd (cc (sym off ∙ f refl))

pub vacant_slot : {A : Type 0} (apps : Slab (Box HeldApp A)) (slot : ℕ) → get apps slot ≡ None → held_at apps slot ≡ nobody
vacant_slot {A} apps slot e = ap (λ o. option_map_or (λ (b : Box HeldApp A). b.value) o nobody) e

-- once all slots were seen, no matter which is asked for
all_after : {A : Type 0} (host rack total : List ℕ) (held : ℕ → HeldApp) (old : Slab (Box HeldApp A)) (slot : ℕ) (flag : Bool) → length old.slots ≤ slot → AreSeenBefore host rack total held (held_at old) slot flag → (s : ℕ) → IsAfterNode host rack total (held_at old s) (held s)
all_after host rack total held old slot flag l a s = by (nat_lt s slot) refl
  where
    by : (b : Bool) → nat_lt s slot ≡ b → IsAfterNode host rack total (held_at old s) (held s)
    by true e = a.seen s (grind (arith, nat_tests, e))
    by false e = subst (λ x. IsAfterNode host rack total (held_at old s) x) (sym (a.others s (grind (arith, nat_tests, e)))) (record { app = refl; account = refl; impossible = λ want m. absurd (subst (λ (x : HeldApp). IsIn want x.impossible) (past_last old s (grind (arith, nat_tests, e, l))) m) })

none_anywhere : {A : Type 0} (host rack total : List ℕ) (held : ℕ → HeldApp) (old : Slab (Box HeldApp A)) (slot : ℕ) (flag : Bool) → length old.slots ≤ slot → AreSeenBefore host rack total held (held_at old) slot flag → flag ≡ false → (s : ℕ) → (held s).impossible ≡ []
none_anywhere host rack total held old slot flag l a f s = by (nat_lt s slot) refl
  where
    by : (b : Bool) → nat_lt s slot ≡ b → (held s).impossible ≡ []
    by true e = a.clear f s (grind (arith, nat_tests, e))
    by false e = ap (λ (x : HeldApp). x.impossible) (a.others s (grind (arith, nat_tests, e)) ∙ past_last old s (grind (arith, nat_tests, e, l)))

pub all_seen_after : {A : Type 0} (host rack total : List ℕ) (held : ℕ → HeldApp) (old : Slab (Box HeldApp A)) (slot : ℕ) (flag : Bool) → length old.slots ≤ slot → AreSeenBefore host rack total held (held_at old) slot flag → AreAfterNode host rack total (held_at old) held flag
all_seen_after host rack total held old slot flag l a = record {
  each = all_after host rack total held old slot flag l a;
  clear = λ f s. none_anywhere host rack total held old slot flag l a f s;
}
