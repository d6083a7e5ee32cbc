-- The values of a text keep their bounds.
use Rattle.cap_config.proofs.Prelude.{◌≡◌, ℕ, ◌≤◌, List, [], ◌∷◌, Bool, true, false, cond, leb, Option, Some, None, refl, sym, ap, subst, arith, ◌&&◌, option_and_then, list_all, same_Some, nat_tests, amount_max, is_within, applications_max, factor_max, Value, Names, Amounts, Number, Running, Setting, Queues, Capacity, MaximumCapacity, UserLimitFactor, State, MaximumApplications, MinimumMemory, MinimumVcores, MinimumGpu, MaximumMemory, MaximumVcores, MaximumGpu, digits_max, value_at, is_name_under, as_names, as_amounts, number_within, state_of, names_for, names_of, are_new, amounts_of, amounts_in, in_brackets, pieces_of, resource, number_of, most_of, has_each, is_kept}

kept_as : (most : ℕ) (queue : Option (List ℕ)) (value v : Value) → value ≡ v → is_kept most value queue ≡ true → is_kept most v queue ≡ true
kept_as most queue value v e h = subst (λ (x : Value). is_kept most x queue ≡ true) e h

names_kept : (most : ℕ) (path : List ℕ) (test : Bool) (names : List (List ℕ)) (v : Value) → test ≡ (list_all (is_name_under path) names && are_new [] names) →
    as_names (cond test (Some names) None) ≡ Some v → is_kept most v (Some path) ≡ true
names_kept most path true names v u h = kept_as most (Some path) (Names names) v (same_Some _ _ h) (sym u)
names_kept most path false names v u h = absurd (cc h)

as_resource : (within : Bool) (m v g : ℕ) (amounts : List ℕ) → cond within (Some (m ∷ v ∷ g ∷ [])) None ≡ Some amounts → has_each amounts ≡ true
as_resource true m v g amounts h = ap has_each (sym (same_Some _ _ h))
as_resource false m v g amounts h = absurd (cc h)

resource_has_each : (memory vcores gpus : Option ℕ) (amounts : List ℕ) → resource memory vcores gpus ≡ Some amounts → has_each amounts ≡ true
unfolding resource
resource_has_each (Some m) (Some v) (Some g) amounts h = as_resource (is_within amount_max (m ∷ v ∷ g ∷ [])) m v g amounts h
resource_has_each _ _ _ amounts h = absurd (cc h)

amounts_have_each : (inner : Option (List ℕ)) (amounts : List ℕ) → option_and_then (λ bytes. amounts_in (pieces_of bytes)) inner ≡ Some amounts → has_each amounts ≡ true
unfolding amounts_in
amounts_have_each (Some bytes) amounts h = resource_has_each _ _ _ amounts h
amounts_have_each None amounts h = absurd (cc h)

amounts_by : (most : ℕ) (queue : Option (List ℕ)) (bytes : List ℕ) (r : Option (List ℕ)) (v : Value) → amounts_of bytes ≡ r → as_amounts r ≡ Some v → is_kept most v queue ≡ true
unfolding amounts_of
amounts_by most queue bytes (Some amounts) v is h = kept_as most queue (Amounts amounts) v (same_Some _ _ h) (amounts_have_each (in_brackets bytes) amounts is)
amounts_by most queue bytes None v is h = absurd (cc h)

amounts_kept : (most : ℕ) (queue : Option (List ℕ)) (bytes : List ℕ) (v : Value) → as_amounts (amounts_of bytes) ≡ Some v → is_kept most v queue ≡ true
amounts_kept most queue bytes v h = amounts_by most queue bytes (amounts_of bytes) v refl h

number_by : (most : ℕ) (queue : Option (List ℕ)) (test : Bool) (n : ℕ) (v : Value) → (test ≡ true → leb n most ≡ true) → cond test (Some (Number n)) None ≡ Some v → is_kept most v queue ≡ true
number_by most queue true n v small h = kept_as most queue (Number n) v (same_Some _ _ h) (small refl)
number_by most queue false n v small h = absurd (cc h)

number_kept : (bound : ℕ) (queue : Option (List ℕ)) (least most : ℕ) (r : Option ℕ) (v : Value) → most ≤ bound →
    option_and_then (λ n. cond (leb least n && leb n most) (Some (Number n)) None) r ≡ Some v → is_kept bound v queue ≡ true
number_kept bound queue least most (Some n) v within h = number_by bound queue (leb least n && leb n most) n v (λ t. grind (arith, nat_tests)) h
number_kept bound queue least most None v within h = absurd (cc h)

state_kept : (most : ℕ) (queue : Option (List ℕ)) (a b : Bool) (v : Value) → cond a (Some (Running true)) (cond b (Some (Running false)) None) ≡ Some v → is_kept most v queue ≡ true
state_kept most queue true b v h = kept_as most queue (Running true) v (same_Some _ _ h) refl
state_kept most queue false true v h = kept_as most queue (Running false) v (same_Some _ _ h) refl
state_kept most queue false false v h = absurd (cc h)

pub value_kept : (queue : Option (List ℕ)) (setting : Setting) (bytes : List ℕ) (v : Value) → value_at queue setting bytes ≡ Some v → is_kept (most_of setting) v queue ≡ true
unfolding value_at number_within state_of names_for
value_kept (Some path) Queues bytes v h = names_kept amount_max path (list_all (is_name_under path) (names_of bytes) && are_new [] (names_of bytes)) (names_of bytes) v refl h
value_kept None Queues bytes v h = absurd (cc h)
value_kept queue Capacity bytes v h = amounts_kept amount_max queue bytes v h
value_kept queue MaximumCapacity bytes v h = amounts_kept amount_max queue bytes v h
value_kept queue UserLimitFactor bytes v h = number_kept factor_max queue 1 1000 (number_of digits_max bytes) v (omega arith) h
value_kept queue State bytes v h = state_kept amount_max queue _ _ v h
value_kept queue MaximumApplications bytes v h = number_kept applications_max queue 1 1000000 (number_of digits_max bytes) v (omega arith) h
value_kept queue MinimumMemory bytes v h = number_kept amount_max queue 1 amount_max (number_of digits_max bytes) v (omega arith) h
value_kept queue MinimumVcores bytes v h = number_kept amount_max queue 1 amount_max (number_of digits_max bytes) v (omega arith) h
value_kept queue MinimumGpu bytes v h = number_kept amount_max queue 0 amount_max (number_of digits_max bytes) v (omega arith) h
value_kept queue MaximumMemory bytes v h = number_kept amount_max queue 1 amount_max (number_of digits_max bytes) v (omega arith) h
value_kept queue MaximumVcores bytes v h = number_kept amount_max queue 1 amount_max (number_of digits_max bytes) v (omega arith) h
value_kept queue MaximumGpu bytes v h = number_kept amount_max queue 0 amount_max (number_of digits_max bytes) v (omega arith) h
