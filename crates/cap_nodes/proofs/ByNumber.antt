-- Items under their numbers, as one more comes, one changes and one goes.
use Rattle.cap_nodes.proofs.Prelude.{◌≡◌, ℕ, ◌+◌, ◌≤◌, ◌<◌, Bool, cond, List, [], ◌∷◌, ◌++◌, length, length-append, length-map, map, not, sym, ap, ◌∙◌, arith, subst, Option, None, Some, filter, find, ◌==◌, IfSome, nat_cmp, nat_eq, insert_entry, is_at, lookup, remove_entry, set_value, same_Some, values_of, IsRising, Container, rising_kept, rising_more, length-kept, nat_tests, tagged_items, IsNumbered}
use Rattle.cap_base.proofs.lists.Members.{found as passes_found}
use Rattle.cap_nodes.proofs.Numbered.{remove-tagged, insert-tagged, push-tagged, set-tagged, kept-change, same_tie, same_number, lookup-tagged, none_at_end, values-tagged}

-- entries that are some items by number
pub record Are {X : Type 0} (num : X → ℕ) (most : ℕ) (entries : List (ℕ × X)) (xs : List X) (next : ℕ) : Type 0 where
  pub values : values_of entries ≡ xs
  pub numbered : IsNumbered num most entries next

are : {X : Type 0} (num : X → ℕ) (most : ℕ) (entries : List (ℕ × X)) (xs : List X) (next : ℕ) → entries ≡ tagged_items num xs → IsRising 1 (map num xs) next → length xs ≤ most → Are num most entries xs next
are num most entries xs next e rising few =
    let vs : values_of entries ≡ xs = ap values_of e ∙ values-tagged num xs in
    record { values = vs; numbered = record { tagged = e ∙ ap (tagged_items num) (sym vs); rising = subst (λ ys. IsRising 1 (map num ys) next) (sym vs) rising; few = subst (λ ys. length ys ≤ most) (sym vs) few } }

module _ {X : Type 0} {num : X → ℕ} {most : ℕ} {old : List (ℕ × X)} {next : ℕ} (h : IsNumbered num most old next) where
  abbrev xs : List X
  xs = values_of old

  -- the item of a number, in an ordered map and in a hash table
  pub found : (n : ℕ) → lookup (is_at (nat_cmp n)) old ≡ find (λ x. num x == n) (values_of old)
  found n = ap (lookup (is_at (nat_cmp n))) h.tagged ∙ lookup-tagged num (is_at (nat_cmp n)) n (same_tie n) xs

  pub found_by_hash : (n : ℕ) → lookup (nat_eq n) old ≡ find (λ x. num x == n) (values_of old)
  found_by_hash n = ap (lookup (nat_eq n)) h.tagged ∙ lookup-tagged num (nat_eq n) n (same_number n) xs

  pub fresh : find (λ x. num x == next) (values_of old) ≡ None
  fresh = none_at_end num next 1 xs h.rising

  pub removed : (test : ℕ → Bool) (n : ℕ) → ((k : ℕ) → test k ≡ (k == n)) → (new : List (ℕ × X)) → new ≡ remove_entry test old → Are num most new (filter (λ x. not (num x == n)) (values_of old)) next
  removed test n same new e =
      let t = λ (x : X). not (num x == n) in
      are num most new (filter t xs) next (e ∙ ap (remove_entry test) h.tagged ∙ remove-tagged num test n same 1 xs next h.rising) (rising_kept num t 1 xs next h.rising)
      (let kept = length-kept t xs in let few = h.few in omega (arith, kept, few))

  module _ (new : List (ℕ × X)) (x : X) (room : length (values_of old) < most) (is : num x ≡ next) where
    more : new ≡ tagged_items num (xs ++ x ∷ []) → Are num most new (xs ++ x ∷ []) (next + 1)
    more e = are num most new (xs ++ x ∷ []) (next + 1) e (rising_more num 1 xs x next is h.rising) (let size = length-append xs (x ∷ []) in omega (arith, size, room))

    pub inserted : new ≡ insert_entry nat_cmp old next x → Are num most new (values_of old ++ x ∷ []) (next + 1)
    inserted e = more (e ∙ ap (λ es. insert_entry nat_cmp es next x) h.tagged ∙ insert-tagged num 1 xs next x is h.rising)

    pub pushed : new ≡ old ++ (next, x) ∷ [] → Are num most new (values_of old ++ x ∷ []) (next + 1)
    pushed e = more (e ∙ ap (λ (es : List (ℕ × X)). es ++ (next, x) ∷ []) h.tagged ∙ push-tagged num xs next x is)

  pub changed : (change : X → X) → ((x : X) → num (change x) ≡ num x) → (n : ℕ) (new : List (ℕ × X)) (p w : X) → Some p ≡ lookup (nat_eq n) old → w ≡ change p → new ≡ set_value (nat_eq n) old w →
      Are num most new (map (λ x. cond (num x == n) (change x) x) (values_of old)) next
  changed change keeps n new p w at is e =
      let only : (q : X) → find (λ x. num x == n) xs ≡ Some q → w ≡ change q = λ q is_it. is ∙ ap change (same_Some p q (at ∙ found_by_hash n ∙ is_it)) in
      are num most new (map (λ x. cond (num x == n) (change x) x) xs) next
      (e ∙ ap (λ (es : List (ℕ × X)). set_value (nat_eq n) es w) h.tagged ∙ set-tagged num (nat_eq n) n (same_number n) change keeps w 1 xs next h.rising only)
      (subst (λ ns. IsRising 1 ns next) (sym (kept-change num num n change keeps xs)) h.rising)
      (let size = length-map xs (λ x. cond (num x == n) (change x) x) in let few = h.few in omega (arith, size, few))

-- the container that is found by a number is found by its own
pub found_by_its_own : (live : List Container) (n : ℕ) (o : Option Container) → o ≡ find (λ c. c.number == n) live → IfSome o (λ c. find (λ d. d.number == c.number) live ≡ Some c)
found_by_its_own live n None e = tt
found_by_its_own live n (Some c) e =
    let t = (passes_found (λ (d : Container). d.number == n) live c (sym e)).1 in
    let is : c.number ≡ n = grind (arith, nat_tests, t) in
    ap (λ k. find (λ (d : Container). d.number == k) live) is ∙ sym e
