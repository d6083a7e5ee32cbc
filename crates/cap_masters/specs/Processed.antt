-- Before an allocate is processed.
use Rattle.std.specs.Prelude.{◌≡◌, ℕ, Some, Option, option_and_then}
use Rattle.cap_model.specs.Flat.{Flat, App, app_at}
use Rattle.cap_asks.specs.Accounts.{repeated_numbers}
use Rattle.cap_model.specs.declared.replies.Reported.{Reported}

-- an application is active, and this is the response id that it was given last
abbrev pub HasResponse : {K : ℕ} → Flat K → ℕ → ℕ → Type 0
HasResponse cluster n id = (app : App) × (app_at cluster n ≡ Some app) × (app.response ≡ id)

-- the numbers of the kept reply, where a request of this response id repeats the last processed one of an application
abbrev pub repeated_at : {K : ℕ} → Flat K → ℕ → ℕ → Option Reported
repeated_at cluster n id = option_and_then (λ app. repeated_numbers app id) (app_at cluster n)
