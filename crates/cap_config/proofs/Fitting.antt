-- Capacities of a text with no fault fit.
use Rattle.cap_config.proofs.Prelude.{◌≡◌, ℕ, List, Bool, true, false, cond, not, Option, Some, None, refl, sym, ap, ◌∙◌, arith, subst, ◌&&◌, bytes_eq, not-true, resources, zeros, amount-zeros, Entry, Value, Names, Amounts, Queues, Capacity, MaximumCapacity, root, parts_at_last_dot, entry_for, is_entry_for, is_path_at, same_setting, names_below, names_or_none, names_in_value, guaranteed, maximum, amounts_at, amounts_or, or_zero, exceeds, exceeds_limit, is_over_limit, is_over_maximum, over_maximum_line, is_over_parts, guaranteed_below, is_over_above, is_over_parent, over_parent_line}
use Rattle.cap_config.proofs.Exceeding.{exceeds_not}
use Rattle.cap_config.proofs.Sums.{none_below}
use Rattle.cap_config.proofs.Above.{parent_is}
use Rattle.cap_config.proofs.Trees.{maximum_own, maximum_inherited}
use Rattle.cap_config.proofs.Found.{found_has, names_at, nowhere_all}

-- the setting and the queue of an entry that is found
for_both : (same : Bool) (queue : Option (List ℕ)) (path : List ℕ) → is_path_at (cond same queue None) path ≡ true → (same ≡ true) × (queue ≡ Some path)
for_both true queue path h = (refl, names_at true queue path h)
for_both false queue path h = absurd (cc h)

zero_fits : (limit : Option (List ℕ)) → exceeds_limit (zeros resources) limit ≡ false
zero_fits (Some most) = exceeds_not (zeros resources) most (λ k small. let e = amount-zeros resources k in omega (arith, e))
zero_fits None = refl

-- an entry with no fault of its capacity
own_fits : (entries : List Entry) (same : Bool) (queue : Option (List ℕ)) (value : Value) (path : List ℕ) → same ≡ true → queue ≡ Some path → not (same && is_over_limit entries queue value) ≡ true →
    exceeds_limit (or_zero (amounts_or None value)) (maximum entries path) ≡ false
own_fits entries true (Some p) (Amounts amounts) path s q h =
    let here : exceeds_limit amounts (maximum entries p) ≡ false = not-true _ h in
    subst (λ (o : Option (List ℕ)). is_over_limit entries o (Amounts amounts) ≡ false) q here
own_fits entries true (Some p) _ path s q h = zero_fits (maximum entries path)
own_fits entries true None value path s q h = absurd (cc q)
own_fits entries false queue value path s q h = absurd (cc s)

fits_at : (entries : List Entry) (path : List ℕ) (o : Option Entry) → entry_for entries Capacity path ≡ o → over_maximum_line entries ≡ None → exceeds_limit (or_zero (amounts_at None o)) (maximum entries path) ≡ false
unfolding entry_for
fits_at entries path (Some entry) is none =
    let has = found_has (is_entry_for Capacity path) (λ e. not (is_over_maximum entries e)) entries entry is (nowhere_all (is_over_maximum entries) entries none) in
    let for = for_both (same_setting entry.setting Capacity) entry.queue path has.0 in
    own_fits entries (same_setting entry.setting Capacity) entry.queue entry.value path for.0 for.1 has.1
fits_at entries path None is none = zero_fits (maximum entries path)

-- a queue's capacity fits its maximum
pub guarantee_fits : (entries : List Entry) → over_maximum_line entries ≡ None → (path : List ℕ) → exceeds_limit (guaranteed entries path) (maximum entries path) ≡ false
guarantee_fits entries none path = fits_at entries path (entry_for entries Capacity path) refl none

-- the capacities of those below it
spent : (a b : Bool) → a ≡ false → (not a && b) ≡ false → b ≡ false
spent true b other h = absurd (cc other)
spent false b other h = h

below_fits : (entries : List Entry) (value : Value) (queue : Option (List ℕ)) (path : List ℕ) → queue ≡ Some path → bytes_eq path root ≡ false → (of_maximum : Bool) → not (is_over_above entries of_maximum queue value) ≡ true →
    exceeds (guaranteed_below entries path (names_in_value value)) (guaranteed entries path) ≡ false
below_fits entries (Names names) queue path q other of_maximum h =
    let here : is_over_above entries of_maximum (Some path) (Names names) ≡ false = not-true _ (subst (λ (o : Option (List ℕ)). not (is_over_above entries of_maximum o (Names names)) ≡ true) q h) in
    spent (bytes_eq path root) _ other here
below_fits entries _ queue path q other of_maximum h = none_below entries path (guaranteed entries path)

sum_at : (entries : List Entry) (path : List ℕ) (o : Option Entry) → entry_for entries Queues path ≡ o → over_parent_line entries ≡ None → bytes_eq path root ≡ false →
    exceeds (guaranteed_below entries path (names_or_none o)) (guaranteed entries path) ≡ false
unfolding entry_for
sum_at entries path (Some entry) is none other =
    let has = found_has (is_entry_for Queues path) (λ e. not (is_over_parent entries e)) entries entry is (nowhere_all (is_over_parent entries) entries none) in
    let for = for_both (same_setting entry.setting Queues) entry.queue path has.0 in
    below_fits entries entry.value entry.queue path for.1 other (same_setting entry.setting MaximumCapacity) has.1
sum_at entries path None is none other = none_below entries path (guaranteed entries path)

pub children_fit : (entries : List Entry) → over_parent_line entries ≡ None → (path : List ℕ) → bytes_eq path root ≡ false →
    exceeds (guaranteed_below entries path (names_below entries path)) (guaranteed entries path) ≡ false
children_fit entries none path other = sum_at entries path (entry_for entries Queues path) refl none other

-- a maximum below that of the queue above
abbrev pub is_over : Option (List ℕ) → Option (List ℕ) → Bool
is_over (Some amounts) limit = exceeds_limit amounts limit
is_over None limit = false

itself_fits : (limit : Option (List ℕ)) → is_over limit limit ≡ false
itself_fits (Some amounts) = exceeds_not amounts amounts (λ k small. omega arith)
itself_fits None = refl

own_maximum : (entries : List Entry) (same : Bool) (queue : Option (List ℕ)) (value : Value) (path parent name amounts : List ℕ) → same ≡ true → queue ≡ Some path → parts_at_last_dot path ≡ Some (parent, name) →
    amounts_or None value ≡ Some amounts → not (is_over_above entries same queue value) ≡ true → exceeds_limit amounts (maximum entries parent) ≡ false
own_maximum entries same queue (Amounts a) path parent name amounts s q parts is h =
    let at : not (is_over_above entries true (Some path) (Amounts a)) ≡ true = subst (λ (o : Option (List ℕ)). not (is_over_above entries true o (Amounts a)) ≡ true) q (subst (λ b. not (is_over_above entries b queue (Amounts a)) ≡ true) s h) in
    let over : is_over_parts entries a (parts_at_last_dot path) ≡ false = not-true _ at in
    let here : is_over_parts entries a (Some (parent, name)) ≡ false = ap (is_over_parts entries a) (sym parts) ∙ over in
    subst (λ (x : List ℕ). exceeds_limit x (maximum entries parent) ≡ false) (let e : a ≡ amounts = cc is in e) here
own_maximum entries same queue _ path parent name amounts s q parts is h = absurd (cc is)

maximum_by : (entries : List Entry) (path parent name : List ℕ) (o : Option Entry) (r : Option (List ℕ)) → entry_for entries MaximumCapacity path ≡ o → amounts_at None o ≡ r → over_parent_line entries ≡ None →
    parts_at_last_dot path ≡ Some (parent, name) → is_over (maximum entries path) (maximum entries parent) ≡ false
unfolding entry_for
maximum_by entries path parent name (Some entry) (Some amounts) is at none parts =
    let has = found_has (is_entry_for MaximumCapacity path) (λ e. not (is_over_parent entries e)) entries entry is (nowhere_all (is_over_parent entries) entries none) in
    let for = for_both (same_setting entry.setting MaximumCapacity) entry.queue path has.0 in
    let own = maximum_own entries path parent amounts (parent_is path parent name parts) (ap (amounts_at None) is ∙ at) in
    ap (λ (m : Option (List ℕ)). is_over m (maximum entries parent)) own
    ∙ own_maximum entries (same_setting entry.setting MaximumCapacity) entry.queue entry.value path parent name amounts for.0 for.1 parts at has.1
maximum_by entries path parent name (Some entry) None is at none parts =
    let inherited = maximum_inherited entries path parent (parent_is path parent name parts) (ap (amounts_at None) is ∙ at) in
    ap (λ (m : Option (List ℕ)). is_over m (maximum entries parent)) inherited ∙ itself_fits (maximum entries parent)
maximum_by entries path parent name None r is at none parts =
    let inherited = maximum_inherited entries path parent (parent_is path parent name parts) (ap (amounts_at None) is) in
    ap (λ (m : Option (List ℕ)). is_over m (maximum entries parent)) inherited ∙ itself_fits (maximum entries parent)

-- a queue's maximum fits that of the queue above
pub maximum_fits : (entries : List Entry) → over_parent_line entries ≡ None → (path parent name : List ℕ) → parts_at_last_dot path ≡ Some (parent, name) → is_over (maximum entries path) (maximum entries parent) ≡ false
maximum_fits entries none path parent name parts = maximum_by entries path parent name (entry_for entries MaximumCapacity path) (amounts_at None (entry_for entries MaximumCapacity path)) refl refl none parts
