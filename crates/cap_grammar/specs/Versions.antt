-- The versions of messages.
use Rattle.std.specs.Prelude.{ℕ, Bool, ◌==◌, ◌&&◌, ◌||◌, nat_le, if◌then◌else◌}

-- how many amounts of each vector a version spells: memory and vcores in version 1, and yarn.io/gpu too in version 2
abbrev pub amounts_in : ℕ → ℕ
amounts_in version = if version == 1 then 2 else 3

-- whether messages about K resources have this version
abbrev pub is_version : ℕ → ℕ → Bool
is_version K version = (version == 1 || version == 2) && nat_le (amounts_in version) K
