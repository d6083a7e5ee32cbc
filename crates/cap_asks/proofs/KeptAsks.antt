-- The asks of all applications stay in order of key.
use Rattle.cap_asks.proofs.Prelude.{◌≡◌, ℕ, Bool, true, false, cond, List, [], ◌∷◌, ◌++◌, map, filter, refl, sym, ap, subst, ◌==◌, if◌then◌else◌, is_some, Option, Some, None, App, Ask, Key, AreAllKept, AreKept, ask_at, take_one}
use Rattle.cap_asks.proofs.Keeping.{kept_put, none_taken, one_taken}
use Rattle.cap_asks.specs.declared.change.Change.{Change}
use Rattle.cap_asks.specs.declared.change.Change.TheVariants.{Register, PutAsk, TakeOne, AddGrant, AddEnd}
use Rattle.cap_asks.specs.Changes.{changed_by}
use Rattle.cap_model.proofs.calls.KeptAsks.{one_less}

-- of one that takes an ask, or one container less
kept_one_less : (key : Key) (asks : List Ask) → AreKept asks → AreKept (take_one key asks)
kept_one_less key asks k = by (ask_at key asks) refl
  where
    by : (o : Option Ask) → ask_at key asks ≡ o → AreKept (take_one key asks)
    by None e = subst AreKept (sym (none_taken key asks k (ap is_some e))) k
    by (Some ask) e = subst AreKept (sym (one_taken key ask asks k e)) (kept_put (one_less ask) asks k)

pub keeps_asks : {K : ℕ} (change : Change K) (app : App) → AreKept app.asks → AreKept (changed_by change app).asks
keeps_asks Register app k = k
keeps_asks (PutAsk put impossible) app k = kept_put put.now app.asks k
keeps_asks (TakeOne key) app k = kept_one_less key.now app.asks k
keeps_asks (AddGrant grant) app k = k
keeps_asks (AddEnd end) app k = k

-- of all, after one changed
pub kept_changed : (n : ℕ) (change : App → App) → ((app : App) → AreKept app.asks → AreKept (change app).asks) → (apps : List App) → AreAllKept apps → AreAllKept (map (λ app. if app.number == n then change app else app) apps)
kept_changed n change keeps [] k = tt
kept_changed n change keeps (app ∷ apps) k = (by (app.number == n), kept_changed n change keeps apps k.1)
  where
    by : (b : Bool) → AreKept (cond b (change app) app).asks
    by true = keeps app k.0
    by false = k.0

-- of those that are left, of those before the last, and with one more
pub kept_left : (test : App → Bool) (apps : List App) → AreAllKept apps → AreAllKept (filter test apps)
kept_left test [] k = tt
kept_left test (app ∷ apps) k = by (test app) (kept_left test apps k.1)
  where
    by : (b : Bool) → AreAllKept (filter test apps) → AreAllKept (cond b (app ∷ filter test apps) (filter test apps))
    by true rest = (k.0, rest)
    by false rest = rest

pub kept_before : (apps : List App) (last : App) → AreAllKept (apps ++ last ∷ []) → AreAllKept apps
kept_before [] last k = tt
kept_before (app ∷ apps) last k = (k.0, kept_before apps last k.1)

pub kept_more : (apps : List App) (last : App) → AreAllKept apps → AreKept last.asks → AreAllKept (apps ++ last ∷ [])
kept_more [] last k one = (one, tt)
kept_more (app ∷ apps) last k one = (k.0, kept_more apps last k.1 one)
