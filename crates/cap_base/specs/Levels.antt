-- The order of sibling queues: the less full is served first.
use Rattle.std.specs.Prelude.{ℕ, List}
use Rattle.std.specs.Ordering.{nat_cmp, then_cmp, on}
use Rattle.std.specs.declared.cmp.Ordering.{Ordering}
use Rattle.std.specs.Cmp.Lexicographic.{slice_cmp}
use Rattle.cap_vector.specs.declared.fullness.Share.{Share}
use Rattle.cap_vector.specs.Fullness.{shares_cmp}

-- what decides between sibling queues: fullness against the own guarantee, then the name in byte order
pub record Level : Type 0 where
  pub fullness : List Share
  pub name : List ℕ

abbrev pub level_cmp : Level → Level → Ordering
level_cmp = then_cmp (on (λ l. l.fullness) shares_cmp) (on (λ l. l.name) (slice_cmp nat_cmp))
