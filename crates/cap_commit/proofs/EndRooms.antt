-- The room for ends, as containers end.
use Rattle.cap_commit.proofs.Prelude.{◌≡◌, ℕ, Bool, true, false, List, refl, ◌∙◌, arith, ◌==◌, if◌then◌else◌, Account, UsesRoom}
use Rattle.cap_commit.specs.Owners.{TakesEndRoom}

none_taken : (b : Bool) → (if b then 0 else 0) ≡ (let k : ℕ = 0 in k)
none_taken true = refl
none_taken false = refl

-- where none ends
pub no_end : (accounts : List (ℕ × Account)) → TakesEndRoom accounts accounts
no_end accounts = record { positions = λ m. refl; asks = λ m. omega arith; grants = λ m. omega arith; ends = λ m. omega arith }

-- where one does
pub one_end : (n : ℕ) (old new : List (ℕ × Account)) → UsesRoom n 0 0 1 old new → TakesEndRoom old new
one_end n old new u = record {
  positions = u.positions;
  asks = λ m. let a = u.asks m in let z = none_taken (m == n) in omega (arith, a, z);
  grants = λ m. let a = u.grants m in let z = none_taken (m == n) in omega (arith, a, z);
  ends = λ m. let a = u.ends m in let l = u.live m in let z = none_taken (m == n) in omega (arith, a, l, z);
}

-- and after some more
pub more_ends : (old mid new : List (ℕ × Account)) → TakesEndRoom old mid → TakesEndRoom mid new → TakesEndRoom old new
more_ends old mid new a b = record {
  positions = λ m. b.positions m ∙ a.positions m;
  asks = λ m. let x = a.asks m in let y = b.asks m in omega (arith, x, y);
  grants = λ m. let x = a.grants m in let y = b.grants m in omega (arith, x, y);
  ends = λ m. let x = a.ends m in let y = b.ends m in omega (arith, x, y);
}
