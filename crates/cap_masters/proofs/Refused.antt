-- What is known where no refusal holds, and how amounts are compared.
use Rattle.cap_masters.proofs.Prelude.{◌≡◌, ℕ, Bool, true, false, List, [], ◌∷◌, refl, sym, ◌∙◌, ap, Option, Some, None, IsSome, IsTrue, ◌↔◌, is_none, option_map, if◌then◌else◌, not, find, ◌==◌, ◌&&◌, list_any, Fits, fits, earliest, holds_of, Refusal, Ask, Flat, App, AppTable, app_at, is_bad_id, is_repeated, allocate_refusal, has_too_many_keys, is_too_large, finish_master_refusal, fits_amounts, amounts_fit, AllocateReply, Reported, repeated_numbers, reported_of}

-- the first test says that there is one
pub is_there : {A B : Type 0} (o : Option A) (x : B) (rest : List (Bool × B)) → earliest ((is_none o, x) ∷ rest) ≡ None → IsSome o
is_there None x rest e = absurd (cc e)
is_there (Some a) x rest e = refl

-- a comparison that is computed is the one of the flat cluster
pub fits_is : (b : Bool) (v most : List ℕ) → (IsTrue b ↔ Fits v most) → b ≡ fits v most
fits_is true v most h = sym (amounts_fit v most (h.0 refl))
fits_is false v most h = by (fits v most) refl
  where
    by : (c : Bool) → fits v most ≡ c → false ≡ c
    by false e = refl
    by true e = absurd (cc (h.1 (fits_amounts v most e)))

-- an application whose finish is not refused is there
pub finish_there : {K : ℕ} (cluster : Flat K) (n : ℕ) → finish_master_refusal cluster n ≡ None → IsSome (app_at cluster n)
finish_there cluster n e = is_there (app_at cluster n) Refusal.UnknownApplication ((not (holds_of (λ a. a.registered) (app_at cluster n)), Refusal.NotRegistered) ∷ []) e

-- the tests of an allocate of an application that is there
pub allocate_tests : {K : ℕ} (cluster : Flat K) (n id : ℕ) (asks : List Ask) (app : App) (unregistered bad repeated large many : Bool) → app_at cluster n ≡ Some app →
    not app.registered ≡ unregistered → is_bad_id app.response app.kept id ≡ bad → is_repeated app.response app.kept id ≡ repeated → list_any (is_too_large cluster) asks ≡ large → has_too_many_keys app asks ≡ many →
    allocate_refusal cluster n id asks ≡
    earliest ((unregistered, Refusal.NotRegistered) ∷ (bad, Refusal.BadResponseId) ∷ (not repeated && large, Refusal.AskTooLarge) ∷ (not repeated && many, Refusal.TooManyAsks) ∷ [])
allocate_tests cluster n id asks app unregistered bad repeated large many there a b c d e = rw (there, ← a, ← b, ← c, ← d, ← e) refl

-- what the table of applications shows is what the flat cluster has
pub app_shown : {K : ℕ} (cluster : Flat K) (table : AppTable) (n : ℕ) (app : App) → table ≡ cluster.apps → Some app ≡ find (λ (a : App). a.number == n) table.active → app_at cluster n ≡ Some app
app_shown cluster table n app is found = ap (λ (t : AppTable). find (λ (a : App). a.number == n) t.active) (sym is) ∙ sym found

pub app_missing : {K : ℕ} (cluster : Flat K) (table : AppTable) (n : ℕ) → table ≡ cluster.apps → None ≡ find (λ (a : App). a.number == n) table.active → app_at cluster n ≡ None
app_missing cluster table n is missing = ap (λ (t : AppTable). find (λ (a : App). a.number == n) t.active) (sym is) ∙ sym missing

-- the kept reply, where the request repeats the last one
pub repeats_it : (app : App) (id : ℕ) (reported : Reported) → Some reported ≡ repeated_numbers app id → (is_repeated app.response app.kept id ≡ true) × (option_map reported_of app.kept ≡ Some reported)
repeats_it app id reported e = by (is_repeated app.response app.kept id) refl e
  where
    by : (b : Bool) → is_repeated app.response app.kept id ≡ b → Some reported ≡ (if b then option_map reported_of app.kept else None) → (is_repeated app.response app.kept id ≡ true) × (option_map reported_of app.kept ≡ Some reported)
    by true f h = (f, sym h)
    by false f h = absurd (cc h)

-- and where it gives none, it repeats nothing
pub repeats_none : (app : App) (id : ℕ) → None ≡ repeated_numbers app id → is_repeated app.response app.kept id ≡ false
repeats_none app id e = by app.kept refl (is_repeated app.response app.kept id) refl e
  where
    by : (o : Option AllocateReply) → app.kept ≡ o → (b : Bool) → is_repeated app.response app.kept id ≡ b → None ≡ (if b then option_map reported_of app.kept else None) → is_repeated app.response app.kept id ≡ false
    by None f b g h = ap (λ k. is_repeated app.response k id) f
    by (Some r) f true g h = absurd (cc (h ∙ ap (option_map reported_of) f))
    by (Some r) f false g h = g
