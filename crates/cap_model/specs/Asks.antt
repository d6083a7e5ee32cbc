-- The asks of an application, and their keys.
use Rattle.std.specs.Prelude.{ℕ, Bool, List, ◌==◌, ◌&&◌}
use Rattle.std.specs.Ordering.{nat_cmp, then_cmp, on}
use Rattle.std.specs.declared.cmp.Ordering.{Ordering}
use Rattle.cap_model.specs.declared.ask.Key.{Key}

abbrev pub same_key : Key → Key → Bool
same_key a b = a.priority == b.priority && a.request == b.request

-- keys in the order in which they are served: the smaller priority number first, then the smaller request id
abbrev pub ask_key_cmp : Key → Key → Ordering
ask_key_cmp = then_cmp (on (λ k. k.priority) nat_cmp) (on (λ k. k.request) nat_cmp)

-- an ask: how many containers of this resource are still wanted for the key, and where (any place is an asterisk)
pub record Ask : Type 0 where
  pub key : Key
  pub count : ℕ
  pub resource : List ℕ
  pub place : List ℕ
