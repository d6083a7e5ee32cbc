-- The live containers of active applications, and how many each has.
use Rattle.cap_commit.proofs.Prelude.{◌≡◌, ℕ, Bool, true, false, cond, List, [], ◌∷◌, length, Option, Some, None, refl, sym, ◌∙◌, ap, subst, inl, inr, arith, IsSome, ◌==◌, filter, count_by, All, length-filter, Flat, App, Container, Reservation, app_at, containers_of, Cause, after_ends, IsIn, in_filter, each_of, of_each, IsSite, change_stands, standing, ends_change, Account, UsesRoom, live_of}

-- how many live containers an application has
abbrev pub count_for : ℕ → List Container → ℕ
count_for n live = count_by (λ c. c.app == n) live

-- a live container, and a reservation, is an active application's
abbrev pub IsOwned : {K : ℕ} → Flat K → Container → Type 0
IsOwned cluster c = IsSome (app_at cluster c.app)

abbrev pub IsReservedFor : {K : ℕ} → Flat K → Reservation → Type 0
IsReservedFor cluster r = IsSome (app_at cluster r.app)

-- no more containers are live where none is granted and none ends
zero_where : (b : Bool) → cond b 0 0 ≡ (let n : ℕ = 0 in n)
zero_where true = refl
zero_where false = refl

pub live_kept : (n asks : ℕ) (old new : List (ℕ × Account)) → UsesRoom n asks 0 0 old new → (m : ℕ) → live_of m new ≡ live_of m old
live_kept n asks old new h m = let e = h.live m in let z = zero_where (m == n) in omega (arith, e, z)

some_stands : (o p : Option App) → standing o ≡ standing p → IsSome p → IsSome o
some_stands (Some x) p e h = refl
some_stands None (Some y) e h = absurd (cc e)
some_stands None None e h = h

module _ {K : ℕ} where
  -- all that is held is held by an active application
  pub sites_owned : (cluster : Flat K) → All (IsOwned cluster) cluster.nodes.live → All (IsReservedFor cluster) cluster.nodes.reserved → (app node : ℕ) → IsSite cluster app node → IsSome (app_at cluster app)
  sites_owned cluster a b app node (inl (c, m, e, f)) = subst (λ n. IsSome (app_at cluster n)) e (each_of (IsOwned cluster) cluster.nodes.live a c m)
  sites_owned cluster a b app node (inr (r, m, e, f)) = subst (λ n. IsSome (app_at cluster n)) e (each_of (IsReservedFor cluster) cluster.nodes.reserved b r m)

  -- what stays is still an active application's where applications stay
  pub owned_after : {X : Type 0} (of : X → ℕ) (xs ys : List X) (old new : Flat K) → ((n : ℕ) → IsSome (app_at old n) → IsSome (app_at new n)) → ((x : X) → IsIn x ys → IsIn x xs) →
      All (λ x. IsSome (app_at old (of x))) xs → All (λ x. IsSome (app_at new (of x))) ys
  owned_after of xs ys old new f m a = of_each (λ x. IsSome (app_at new (of x))) ys (λ x i. f (of x) (each_of (λ y. IsSome (app_at old (of y))) xs a x (m x i)))

  pub owned_stands : {X : Type 0} (of : X → ℕ) (xs ys : List X) (old new : Flat K) → ((n : ℕ) → standing (app_at new n) ≡ standing (app_at old n)) → ((x : X) → IsIn x ys → IsIn x xs) →
      All (λ x. IsSome (app_at old (of x))) xs → All (λ x. IsSome (app_at new (of x))) ys
  owned_stands of xs ys old new s m a = owned_after of xs ys old new (λ n h. some_stands (app_at new n) (app_at old n) (s n) h) m a

-- an application stays active where containers end
pub still_active : {K : ℕ} (cause : Cause) (gone : List Container) (old : Flat K) (n : ℕ) → IsSome (app_at old n) → IsSome (app_at (after_ends cause gone old) n)
still_active cause gone old n there =
    let ended = after_ends cause gone old in
    some_stands (app_at ended n) (app_at old n) (change_stands old ended (ends_change cause gone old ended refl refl) n) there

-- an application that has no live container
pub none_of : (n : ℕ) (live : List Container) → count_for n live ≡ 0 → (c : Container) → IsIn c live → c.app == n ≡ false
none_of n live z c m = by (c.app == n) refl
  where
    by : (b : Bool) → c.app == n ≡ b → b ≡ false
    by false e = refl
    by true e = absurd (
        let i = in_filter (λ (x : Container). x.app == n) live c m e in
        let l = length-filter (λ (x : Container). x.app == n) live in
        some_in (filter (λ (x : Container). x.app == n) live) i (l ∙ z)
        )
      where
        some_in : (cs : List Container) → IsIn c cs → length cs ≡ 0 → ⊥
        some_in [] i e = i
        some_in (x ∷ cs) i e = omega (arith, e)

-- one whose containers have all ended has none
pub none_left : {K : ℕ} (cluster : Flat K) (n : ℕ) → containers_of cluster.nodes n ≡ [] → count_for n cluster.nodes.live ≡ 0
none_left cluster n none = sym (length-filter (λ (c : Container). c.app == n) cluster.nodes.live) ∙ ap length none

-- one for which nothing is reserved
pub none_reserved : (n : ℕ) (rs : List Reservation) → filter (λ r. r.app == n) rs ≡ [] → (r : Reservation) → IsIn r rs → r.app == n ≡ false
none_reserved n rs none r m = by (r.app == n) refl
  where
    by : (b : Bool) → r.app == n ≡ b → b ≡ false
    by false e = refl
    by true e = absurd (subst (IsIn r) none (in_filter (λ (x : Reservation). x.app == n) rs r m e))
