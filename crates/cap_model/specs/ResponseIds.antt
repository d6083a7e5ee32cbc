-- Response ids: which request is the next one, and which repeats the last.
use Rattle.std.specs.Prelude.{ℕ, ◌+◌, ◌%◌, Bool, ◌&&◌, not, ◌||◌, Option, is_some, nat_lt, ◌==◌}
use Rattle.cap_base.specs.Limits.{response_end}

-- the response id that answers a processed request of this id
abbrev pub next_response : ℕ → ℕ
next_response id = (id + 1) % response_end

-- whether a request is to be processed: it has the last id that was answered
abbrev pub is_current : ℕ → ℕ → Bool
is_current last id = id == last

-- whether it repeats the request that was processed last, where its reply is kept
abbrev pub repeats : ℕ → Bool → ℕ → Bool
repeats last is_kept id = is_kept && nat_lt id response_end && next_response id == last

-- whether it is neither of the two
abbrev pub is_bad : ℕ → Bool → ℕ → Bool
is_bad last is_kept id = not (is_current last id || repeats last is_kept id)

-- the same, of the reply that is kept
abbrev pub is_repeated : {A : Type 0} → ℕ → Option A → ℕ → Bool
is_repeated last kept id = repeats last (is_some kept) id

abbrev pub is_bad_id : {A : Type 0} → ℕ → Option A → ℕ → Bool
is_bad_id last kept id = is_bad last (is_some kept) id
