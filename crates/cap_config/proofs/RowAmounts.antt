-- Each vector of the settings has an amount of each resource, and the bounds of a container are resources.
use Rattle.cap_config.proofs.Prelude.{◌≡◌, ℕ, zero, suc, List, [], ◌∷◌, length, true, Option, Some, None, refl, subst, arith, IfSome, All, flat_map, lines, eqb-true, All-cons, All-nil, IsResource, resources, Entry, Value, Amounts, Setting, Capacity, MaximumCapacity, MinimumMemory, MinimumVcores, MinimumGpu, MaximumMemory, MaximumVcores, MaximumGpu, root, above, amounts_at, amounts_or, child, entry_for, guaranteed, is_entry_for, names_below, nearest_maximum, or_zero, minimum_allocation, maximum_allocation, row_of, rows_under, settings_of, are_bounded, is_bounded, is_kept, most_of, HasAmounts, QueueHasAmounts, SettingsHaveAmounts}
use Rattle.cap_config.proofs.Found.{found_has, number_small}
use Rattle.cap_config.proofs.FaultLines.{lines_kept}
use Rattle.cap_config.proofs.Listing.{all_small}
use Rattle.cap_config.proofs.Resources.{three_are_vector}
use Rattle.cap_config.proofs.RowTrees.{made_of}

abbrev HasEach : Option (List ℕ) → Type 0
HasEach amounts = IfSome amounts (λ a. length a ≡ resources)

value_has : (most : ℕ) (queue other : Option (List ℕ)) (value : Value) → is_kept most value queue ≡ true → HasEach other → HasEach (amounts_or other value)
value_has most queue other (Amounts amounts) kept h = eqb-true (length amounts) resources kept
value_has most queue other _ kept h = h

entry_has : (entries : List Entry) (setting : Setting) (path : List ℕ) (other : Option (List ℕ)) (o : Option Entry) → entry_for entries setting path ≡ o → are_bounded entries ≡ true → HasEach other →
    HasEach (amounts_at other o)
unfolding entry_for
entry_has entries setting path other (Some entry) is all h = value_has (most_of entry.setting) entry.queue other entry.value (found_has (is_entry_for setting path) is_bounded entries entry is all).1 h
entry_has entries setting path other None is all h = h

zero_has : (amounts : Option (List ℕ)) → HasEach amounts → length (or_zero amounts) ≡ resources
zero_has (Some amounts) h = h
zero_has None h = refl

guaranteed_has : (entries : List Entry) (path : List ℕ) → are_bounded entries ≡ true → length (guaranteed entries path) ≡ resources
guaranteed_has entries path all = zero_has _ (entry_has entries Capacity path None (entry_for entries Capacity path) refl all tt)

maximum_has : (entries : List Entry) (path : List ℕ) (more : List (List ℕ)) → are_bounded entries ≡ true → HasEach (nearest_maximum entries path more)
maximum_has entries path [] all = entry_has entries MaximumCapacity path None (entry_for entries MaximumCapacity path) refl all tt
maximum_has entries path (parent ∷ more) all =
    entry_has entries MaximumCapacity path (nearest_maximum entries parent more) (entry_for entries MaximumCapacity path) refl all (maximum_has entries parent more all)

row_has : (entries : List Entry) (path : List ℕ) → are_bounded entries ≡ true → QueueHasAmounts resources (row_of entries path)
unfolding row_of
row_has entries path all = record { guaranteed = guaranteed_has entries path all; maximum = maximum_has entries path (above path) all }

no_rows : (entries : List Entry) (p : List ℕ) → All (QueueHasAmounts resources) (rows_under zero entries p)
unfolding rows_under
no_rows entries p = All-nil (QueueHasAmounts resources)

first_row : (entries : List Entry) (n : ℕ) (p : List ℕ) → QueueHasAmounts resources (row_of entries p) → All (QueueHasAmounts resources) (flat_map (λ name. rows_under n entries (child p name)) (names_below entries p)) →
    All (QueueHasAmounts resources) (rows_under (suc n) entries p)
unfolding rows_under
first_row entries n p here later = All-cons (QueueHasAmounts resources) (row_of entries p) (flat_map (λ name. rows_under n entries (child p name)) (names_below entries p)) here later

rows_have : (entries : List Entry) → are_bounded entries ≡ true → (n : ℕ) (p : List ℕ) → All (QueueHasAmounts resources) (rows_under n entries p)
rows_have entries all zero p = no_rows entries p
rows_have entries all (suc n) p =
    first_row entries n p (row_has entries p all)
    (all_small (QueueHasAmounts resources) (λ name. rows_under n entries (child p name)) (λ name. rows_have entries all n (child p name)) (names_below entries p))

have_amounts : (entries : List Entry) → are_bounded entries ≡ true → HasAmounts resources (settings_of entries)
unfolding settings_of
have_amounts entries all = record { queues = rows_have entries all 16 root; minimum_allocation = refl; maximum_allocation = refl }

pub settings_have : SettingsHaveAmounts
settings_have text settings h =
    let of = made_of text settings h in
    subst (HasAmounts resources) of.made (have_amounts of.entries (lines_kept (lines text) of.entries of.read))

-- the bounds of a container
pub minimum_is_resource : (entries : List Entry) → are_bounded entries ≡ true → IsResource resources (minimum_allocation entries)
minimum_is_resource entries all =
    three_are_vector _ _ _
    (number_small entries MinimumMemory 1024 _ all (omega arith) refl)
    (number_small entries MinimumVcores 1 _ all (omega arith) refl)
    (number_small entries MinimumGpu 0 _ all (omega arith) refl)

pub maximum_is_resource : (entries : List Entry) → are_bounded entries ≡ true → IsResource resources (maximum_allocation entries)
maximum_is_resource entries all =
    three_are_vector _ _ _
    (number_small entries MaximumMemory 8192 _ all (omega arith) refl)
    (number_small entries MaximumVcores 4 _ all (omega arith) refl)
    (number_small entries MaximumGpu 1099511627776 _ all (omega arith) refl)
