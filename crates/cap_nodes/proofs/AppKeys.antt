-- Keys of applications: when two are the same, and how many reservations are for one.
use Rattle.cap_nodes.proofs.Prelude.{◌≡◌, ℕ, Bool, true, false, List, length, refl, arith, filter, ◌==◌, ◌&&◌, eqb-true, length-filter, nat_tests, Key, Container, AreCounted, app_key, app_key_of, count_in, is_kept_for, same_app_key}
use Rattle.cap_nodes.proofs.Counting.{count_is}
use Rattle.cap_nodes.specs.declared.app_key.AppKey.{AppKey}

pub same_own : (k : AppKey) → same_app_key k k ≡ true
same_own k =
    let app : (k.app == k.app) ≡ true = grind (arith, nat_tests) in
    let priority : (k.priority == k.priority) ≡ true = grind (arith, nat_tests) in
    let request : (k.request == k.request) ≡ true = grind (arith, nat_tests) in
    rw (app, priority, request) refl

pub same_decides : (j k : AppKey) → same_app_key j k ≡ true → j ≡ k
same_decides j k e = by (j.app == k.app) (j.priority == k.priority) (j.request == k.request) refl refl refl e
  where
    by : (a b c : Bool) → (j.app == k.app) ≡ a → (j.priority == k.priority) ≡ b → (j.request == k.request) ≡ c → (a && (b && c)) ≡ true → j ≡ k
    by true true true a b c h = λ i. record { app = eqb-true j.app k.app a i; priority = eqb-true j.priority k.priority b i; request = eqb-true j.request k.request c i }
    by true true false a b c h = absurd (cc h)
    by true false c a b d h = absurd (cc h)
    by false b c a d e h = absurd (cc h)

-- what is kept of a key of an application is how many are for it
pub count_kept : (entries : List (AppKey × ℕ)) (cs : List Container) (app : ℕ) (key : Key) → AreCounted same_app_key app_key_of entries cs → count_in same_app_key entries (app_key app key) ≡ length (filter (is_kept_for app key) cs)
count_kept entries cs app key counts = let kept = count_is same_app_key app_key_of entries cs (app_key app key) counts in let all = length-filter (is_kept_for app key) cs in omega (arith, kept, all)
