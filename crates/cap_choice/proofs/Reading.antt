-- What a read says of a value that is there.
use Rattle.cap_choice.proofs.Prelude.{◌≡◌, ℕ, Some, sym, ◌∙◌, ap, Option, option_map, unwrap_or, slice_get, Ask, AppSight, Sight, IsOffer, IsSeenApp}
use Rattle.cap_choice.proofs.Choosing.{slice_get_in}

pub read : {A : Type 0} (f : A → ℕ) (o : Option A) (x : A) (r : ℕ) → option_map f o ≡ Some r → o ≡ Some x → f x ≡ r
read f o x r e at = ap (λ y. unwrap_or y r) (sym (ap (option_map f) at) ∙ e)

pub offer_at : {K : ℕ} (sight : Sight K) (app : AppSight) (i : ℕ) (ask : Ask) → IsSeenApp sight app → slice_get app.asks i ≡ Some ask → IsOffer sight (record { app = app; ask = ask })
offer_at sight app i ask seen at = record { found = seen; member = slice_get_in app.asks i ask at }
