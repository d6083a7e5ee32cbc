-- The applications and the uses that count for a queue or a user, after the changes that calls make.
use Rattle.cap_laws.proofs.Prelude.{◌≡◌, ℕ, ◌+◌, ◌<◌, Bool, true, false, List, [], ◌∷◌, ◌++◌, length, refl, sym, ◌∙◌, ap, subst, inl, inr, arith, IsSome, cond, not, ◌==◌, ◌||◌, filter, find, map, count_by, if◌then◌else◌, sum_by, ext_get_or, sum_by-cons, length-map-range_with_len, nat_tests, amount, part, Cause, Flat, App, Container, Reservation, app_at, Holding, holdings, use_of, is_among, after_ends, IsRising, container_numbers, IsIn, filter_whole, count_cons, sum_by_agree, rising_from_low, find_others, find_with_more, standing, counts, counted, live_part, reserved_part, use_amount, same_counts}
use Rattle.cap_laws.proofs.calls.Lessening.{IsSite, change_stands}
use Rattle.cap_laws.proofs.calls.Moves.{KeepsApp, AppsChange, ends_change}

-- which applications count: a test of the leaf queue and the user
abbrev pub Test : Type 0
Test = List ℕ → List ℕ → Bool

-- how many applications count
abbrev pub count_of : Test → List App → ℕ
count_of test active = count_by (λ a. test a.leaf a.user) active

-- the use of those that count
abbrev pub used_by : {K : ℕ} → Flat K → Test → List ℕ
used_by cluster test = use_of cluster (λ a. test a.leaf a.user)

pub length_used : {K : ℕ} (cluster : Flat K) (test : Test) → length (used_by cluster test) ≡ K
length_used {K} cluster test = length-map-range_with_len (part (λ (x : Holding). counts test (app_at cluster x.app)) (λ x. x.resource) (holdings cluster)) 0 K

-- counting after a change that keeps applications what they are
pub count_changed : (f : App → App) → KeepsApp f → (test : Test) (active : List App) → count_of test (map f active) ≡ count_of test active
count_changed f k test [] = refl
count_changed f k test (a ∷ active) =
    count_cons (λ (x : App). test x.leaf x.user) (f a) (map f active)
    ∙ (λ i. cond (test (k.leaf a i) (k.user a i)) 1 0 + count_changed f k test active i)
    ∙ sym (count_cons (λ (x : App). test x.leaf x.user) a active)

-- of containers in order, one of another number than the first is not the first
not_first : (c d : Container) (low : ℕ) (cs : List Container) (high : ℕ) → IsRising (d.number + 1) (container_numbers cs) high → IsIn c cs → is_among (c ∷ []) d ≡ false
not_first c d low cs high r m = let above = rising_from_low (λ (z : Container). z.number) (d.number + 1) cs high c r m in let t : c.number == d.number ≡ false = grind (arith, nat_tests, above) in ap (λ b. b || false) t

all_later : (d : Container) (cs : List Container) (high : ℕ) → IsRising (d.number + 1) (container_numbers cs) high → filter (λ c. not (is_among (d ∷ []) c)) cs ≡ cs
all_later d cs high r =
    filter_whole (λ c. not (is_among (d ∷ []) c)) cs
    (λ c m. let above = rising_from_low (λ (z : Container). z.number) (d.number + 1) cs high c r m in let t : d.number == c.number ≡ false = grind (arith, nat_tests, above) in ap (λ b. not (b || false)) t)

-- a sum over containers in order is the sum without one of them, and what that one gives
pub sum_without : (f : Container → ℕ) (low : ℕ) (cs : List Container) (high : ℕ) (c : Container) → IsRising low (container_numbers cs) high → IsIn c cs →
    sum_by f cs ≡ sum_by f (filter (λ d. not (is_among (c ∷ []) d)) cs) + f c
sum_without f low [] high c r m = absurd m
sum_without f low (d ∷ cs) high c r (inl e) = subst (λ x. sum_by f (d ∷ cs) ≡ sum_by f (filter (λ y. not (is_among (x ∷ []) y)) (d ∷ cs)) + f x) e here
  where
    same : is_among (d ∷ []) d ≡ true
    same = let t : d.number == d.number ≡ true = grind (arith, nat_tests) in ap (λ b. b || false) t

    kept : filter (λ y. not (is_among (d ∷ []) y)) (d ∷ cs) ≡ cs
    kept = ap (λ b. cond (not b) (d ∷ filter (λ y. not (is_among (d ∷ []) y)) cs) (filter (λ y. not (is_among (d ∷ []) y)) cs)) same ∙ all_later d cs high r.1

    here : sum_by f (d ∷ cs) ≡ sum_by f (filter (λ y. not (is_among (d ∷ []) y)) (d ∷ cs)) + f d
    here = let k : sum_by f (filter (λ y. not (is_among (d ∷ []) y)) (d ∷ cs)) ≡ sum_by f cs = ap (sum_by f) kept in omega (arith, k, sum_by-cons f d cs)
sum_without f low (d ∷ cs) high c r (inr m) =
    let rest : List Container = filter (λ y. not (is_among (c ∷ []) y)) cs in
    let stays : filter (λ y. not (is_among (c ∷ []) y)) (d ∷ cs) ≡ d ∷ rest = ap (λ b. cond (not b) (d ∷ rest) rest) (not_first c d low cs high r.1 m) in
    let k : sum_by f (filter (λ y. not (is_among (c ∷ []) y)) (d ∷ cs)) ≡ sum_by f (d ∷ rest) = ap (sum_by f) stays in
    omega (arith, k, sum_by-cons f d cs, sum_by-cons f d rest, sum_without f (d.number + 1) cs high c r.1 m)

module _ {K : ℕ} (old new : Flat K) where
  -- what is held stays, and who holds it stays in its leaf queue with its user
  pub record HoldsSame : Type 0 where
    pub live : new.nodes.live ≡ old.nodes.live
    pub reserved : new.nodes.reserved ≡ old.nodes.reserved
    pub apps : (app node : ℕ) → IsSite old app node → standing (app_at new app) ≡ standing (app_at old app)

  module _ (h : HoldsSame) (test : Test) where
    same_live : (k : ℕ) → live_part new test k new.nodes.live ≡ live_part old test k old.nodes.live
    same_live k =
        ap (live_part new test k) h.live
        ∙ sum_by_agree (λ (c : Container). counted new test k c.app c.resource) (λ c. counted old test k c.app c.resource) old.nodes.live
        (λ c m. ap (λ b. if b then amount c.resource k else 0) (same_counts test (app_at new c.app) (app_at old c.app) (h.apps c.app c.node (inl (c, m, refl, refl)))))

    same_reserved : (k : ℕ) → reserved_part new test k new.nodes.reserved ≡ reserved_part old test k old.nodes.reserved
    same_reserved k =
        ap (reserved_part new test k) h.reserved
        ∙ sum_by_agree (λ (c : Reservation). counted new test k c.app c.resource) (λ c. counted old test k c.app c.resource) old.nodes.reserved
        (λ c m. ap (λ b. if b then amount c.resource k else 0) (same_counts test (app_at new c.app) (app_at old c.app) (h.apps c.app c.node (inr (c, m, refl, refl)))))

    pub same_use : used_by new test ≡ used_by old test
    same_use = ext_get_or 0 (used_by new test) (used_by old test) (length_used new test ∙ sym (length_used old test))
        (λ k b. let below : k < K = omega (arith, b, length_used new test) in
        omega (arith, use_amount new test k below, use_amount old test k below, same_live k, same_reserved k))

  -- a change of applications that keeps what they are
  pub change_holds : AppsChange old new → new.nodes.live ≡ old.nodes.live → new.nodes.reserved ≡ old.nodes.reserved → HoldsSame
  change_holds c l r = record { live = l; reserved = r; apps = λ app node s. change_stands old new c app }

  -- an application comes, where all that is held is held by one that is there
  pub coming_holds : (a : App) → new.apps.active ≡ old.apps.active ++ a ∷ [] → ((app node : ℕ) → IsSite old app node → IsSome (app_at old app)) → new.nodes.live ≡ old.nodes.live → new.nodes.reserved ≡ old.nodes.reserved → HoldsSame
  coming_holds a e p l r = record {
    live = l;
    reserved = r;
    apps = λ app node s. ap standing (ap (find (λ (x : App). x.number == app)) e ∙ find_with_more (λ (x : App). x.number) app old.apps.active (a ∷ []) (p app node s));
  }

  -- an application that holds nothing goes
  pub going_holds : (n : ℕ) → new.apps.active ≡ filter (λ a. not (a.number == n)) old.apps.active → ((app node : ℕ) → IsSite old app node → n == app ≡ false) → new.nodes.live ≡ old.nodes.live → new.nodes.reserved ≡ old.nodes.reserved → HoldsSame
  going_holds n e p l r = record {
    live = l;
    reserved = r;
    apps = λ app node s. ap standing (ap (find (λ (x : App). x.number == app)) e ∙ find_others (λ (x : App). x.number) n app (p app node s) old.apps.active);
  }

module _ {K : ℕ} (old : Flat K) (cause : Cause) (c : Container) (rising : IsRising 1 (container_numbers old.nodes.live) old.nodes.next_container) (there : IsIn c old.nodes.live) (test : Test) where
  -- the cluster after the container has ended
  abbrev pub ended : Flat K
  ended = after_ends cause (c ∷ []) old

  -- its use is what it was without the container's, where that counts
  pub ended_amount : (k : ℕ) → k < K → amount (used_by old test) k ≡ amount (used_by ended test) k + counted old test k c.app c.resource
  ended_amount k b =
      let kept : List Container = filter (λ d. not (is_among (c ∷ []) d)) old.nodes.live in
      let change : AppsChange old ended = ends_change cause (c ∷ []) old ended refl refl in
      let stands : (n : ℕ) → counts test (app_at ended n) ≡ counts test (app_at old n) = λ n. same_counts test (app_at ended n) (app_at old n) (change_stands old ended change n) in
      let live : live_part ended test k kept ≡ live_part old test k kept =
      sum_by_agree (λ (d : Container). counted ended test k d.app d.resource) (λ d. counted old test k d.app d.resource) kept (λ d m. ap (λ t. if t then amount d.resource k else 0) (stands d.app)) in
      let reserved : reserved_part ended test k old.nodes.reserved ≡ reserved_part old test k old.nodes.reserved =
      sum_by_agree (λ (d : Reservation). counted ended test k d.app d.resource) (λ d. counted old test k d.app d.resource) old.nodes.reserved (λ d m. ap (λ t. if t then amount d.resource k else 0) (stands d.app)) in
      let whole = sum_without (λ (d : Container). counted old test k d.app d.resource) 1 old.nodes.live old.nodes.next_container c rising there in
      omega (arith, use_amount old test k b, use_amount ended test k b, live, reserved, whole)
