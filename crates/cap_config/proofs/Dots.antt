-- The last dot.
use Rattle.cap_config.proofs.Prelude.{◌≡◌, ℕ, zero, suc, ◌+◌, ◌-◌, ◌<◌, ◌≤◌, List, [], ◌∷◌, length, get_or, take, drop, true, Some, None, refl, arith, add-one, rest_all, last_dot, is_dot, parts_at_last_dot}

pub last_dot_here : (bytes : List ℕ) (i : ℕ) → i < length bytes → last_dot (drop (suc i) bytes) ≡ None → is_dot (get_or bytes i 0) ≡ true → last_dot bytes ≡ Some i
last_dot_here [] i h none dot = absurd (omega arith)
last_dot_here (b ∷ bytes) zero h none dot = rw (none, dot) refl
last_dot_here (b ∷ bytes) (suc i) h none dot = rw (last_dot_here bytes i (omega arith) none dot, add-one) refl

pub dot_found : (bytes : List ℕ) (end i : ℕ) → end ≡ suc i → end ≤ length bytes → last_dot (drop end bytes) ≡ None → is_dot (get_or bytes i 0) ≡ true →
    parts_at_last_dot bytes ≡ Some (take i bytes, take (length bytes - (i + 1)) (drop (i + 1) bytes))
unfolding parts_at_last_dot
dot_found bytes end i e h none dot = rw (last_dot_here bytes i (omega arith) (rw e at none) dot, rest_all bytes (i + 1)) refl
