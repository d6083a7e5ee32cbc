-- What the parts of a cluster say of the whole.
use Rattle.cap_laws.proofs.Prelude.{◌≡◌, ℕ, Bool, true, false, List, [], ◌∷◌, refl, sym, ◌∙◌, ap, inl, inr, arith, Option, Some, None, IfSome, find, not, ◌==◌, cond, map, count_by, if◌then◌else◌, nat_tests, QueueRow, Ask, Flat, App, AppTable, queue_at, with_reserved, app_at, with_app, change_app, is_under, queue_use, has_children, is_running, queue_report, after_ask, rounded_ask, put_ask, after_telling, IsRising, IsIn, found_by_number, kept_by_ask}

-- what is reported of a queue
pub report_is : {K : ℕ} (cluster : Flat K) (path : List ℕ) (q : QueueRow) (running below : Bool) (guaranteed : List ℕ) (maximum : Option (List ℕ)) (used : List ℕ) (apps : ℕ)
    → queue_at cluster path ≡ Some q → running ≡ is_running cluster path → below ≡ has_children cluster path → guaranteed ≡ q.guaranteed → maximum ≡ q.maximum → used ≡ queue_use cluster path
    → apps ≡ count_by (λ app. is_under path app.leaf) cluster.apps.active
    → record { running = running; leaf = not below; guaranteed = guaranteed; maximum = maximum; used = used; apps = apps } ≡ queue_report cluster path
report_is cluster path q running below guaranteed maximum used apps found a b c d e f = rw (found, a, b, c, d, e, f) refl

-- an ask is put, where the reservations that it does not leave were dropped before
pub ask_put : {K : ℕ} (old dropped : Flat K) (table' : AppTable) (n : ℕ) (ask kept : Ask) → kept ≡ rounded_ask K old.settings ask → dropped ≡ with_reserved (kept_by_ask n kept old) old →
    table' ≡ change_app n (λ app. record app { asks = put_ask kept app.asks }) dropped.apps → record dropped { apps = table' } ≡ after_ask n old (rounded_ask K old.settings ask)
ask_put {K} old dropped table' n ask kept is drops put =
    ap (λ t. record dropped { apps = t }) put
    ∙ ap (λ (f : Flat K). record f { apps = change_app n (λ app. record app { asks = put_ask kept app.asks }) f.apps }) drops
    ∙ ap (λ k. with_reserved (kept_by_ask n k old) (record old { apps = change_app n (λ app. record app { asks = put_ask k app.asks }) old.apps })) is

-- of applications in order, only the one that is found by a number has it
pub only_found : (n : ℕ) (apps : List App) (next : ℕ) (f : App → App → App) (a : App) → IsRising 1 (map (λ app. app.number) apps) next → find (λ app. app.number == n) apps ≡ Some a →
    map (λ app. if app.number == n then f app app else app) apps ≡ map (λ app. if app.number == n then f a app else app) apps
only_found n apps next f a r e = same apps (λ x m. m)
  where
    is : (x : App) → IsIn x apps → x.number == n ≡ true → x ≡ a
    is x m t =
        let number : x.number ≡ n = grind (arith, nat_tests, t) in
        let at : find (λ app. app.number == n) apps ≡ Some x = ap (λ k. find (λ (app : App). app.number == k) apps) (sym number) ∙ found_by_number (λ (app : App). app.number) 1 apps next x r m in
        cc (at, e)

    same : (xs : List App) → ((x : App) → IsIn x xs → IsIn x apps) → map (λ app. if app.number == n then f app app else app) xs ≡ map (λ app. if app.number == n then f a app else app) xs
    same [] h = refl
    same (x ∷ xs) h = λ i. here (x.number == n) refl i ∷ same xs (λ y m. h y (inr m)) i
      where
        here : (b : Bool) → x.number == n ≡ b → (if b then f x x else x) ≡ (if b then f a x else x)
        here true t = ap (λ y. f y x) (is x (h x (inl refl)) t)
        here false t = refl

-- an application that is told, as it is found
pub told_is : {K : ℕ} (old : Flat K) (table' : AppTable) (n ignored : ℕ) → IsRising 1 (map (λ app. app.number) old.apps.active) old.apps.next → table' ≡ change_app n (λ app. after_telling app.response ignored app) old.apps →
    IfSome (app_at old n) (λ app. record old { apps = table' } ≡ with_app n (after_telling app.response ignored) old)
told_is old table' n ignored r e = by (app_at old n) refl
  where
    by : (o : Option App) → app_at old n ≡ o → IfSome o (λ app. record old { apps = table' } ≡ with_app n (after_telling app.response ignored) old)
    by None f = tt
    by (Some a) f =
        ap (λ t. record old { apps = t }) e
        ∙ ap (λ active. record old { apps = record old.apps { active = active } }) (only_found n old.apps.active old.apps.next (λ x app. after_telling x.response ignored app) a r f)

-- and where none has the number, nothing changes
none_changed : (n : ℕ) (f : App → App) (apps : List App) → find (λ app. app.number == n) apps ≡ None → map (λ app. if app.number == n then f app else app) apps ≡ apps
none_changed n f [] e = refl
none_changed n f (a ∷ apps) e = by (a.number == n) refl e (none_changed n f apps)
  where
    by : (b : Bool) → a.number == n ≡ b → cond b (Some a) (find (λ app. app.number == n) apps) ≡ None → (find (λ app. app.number == n) apps ≡ None → map (λ app. if app.number == n then f app else app) apps ≡ apps)
        → map (λ app. if app.number == n then f app else app) (a ∷ apps) ≡ a ∷ apps
    by true h g r = absurd (cc g)
    by false h g r = λ i. ap (λ b. if b then f a else a) h i ∷ r g i

pub unknown_is : {K : ℕ} (old : Flat K) (table' : AppTable) (n ignored : ℕ) → table' ≡ change_app n (λ app. after_telling app.response ignored app) old.apps → app_at old n ≡ None → record old { apps = table' } ≡ old
unknown_is old table' n ignored e none = ap (λ t. record old { apps = t }) (e ∙ ap (λ active. record old.apps { active = active }) (none_changed n (λ app. after_telling app.response ignored app) old.apps.active none))
