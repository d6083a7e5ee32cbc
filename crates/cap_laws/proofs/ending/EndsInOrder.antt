-- Containers end one after the other.
use Rattle.cap_laws.proofs.Prelude.{◌≡◌, ℕ, ◌+◌, Bool, true, false, List, [], ◌∷◌, ◌++◌, map, subst, refl, sym, ◌∙◌, ap, arith, Option, Some, None, cond, not, ◌||◌, ◌==◌, filter, find, if◌then◌else◌, nat_tests, append_assoc, append-nil, map-append, filter-append, list_any-append, Cause, Flat, App, Container, is_among, with_ends, after_ends, IsRising, container_numbers, map_twice, filter_twice, filter_whole, rising_from_low, none_before}

not_or : (a b : Bool) → not (a || b) ≡ cond (not a) (not b) false
not_or true b = refl
not_or false b = refl

-- live containers without some and then without more
pub without_more : (gone more live : List Container) →
    filter (λ d. not (is_among (gone ++ more) d)) live ≡ filter (λ d. not (is_among more d)) (filter (λ d. not (is_among gone d)) live)
without_more gone more live =
    sym (filter_twice (λ d. not (is_among more d)) (λ d. not (is_among gone d)) (λ d. not (is_among (gone ++ more) d)) live
    (λ d. ap not (list_any-append (λ (e : Container). e.number == d.number) gone more) ∙ not_or (is_among gone d) (is_among more d)))

-- an application that is told of some ends, and then of more
more_told : (cause : Cause) (gone more : List Container) (app : App) → with_ends cause (gone ++ more) app ≡ with_ends cause more (with_ends cause gone app)
more_told cause gone more app = ap (λ ends. record app { ends = ends })
    (ap (λ cs. app.ends ++ map (λ (d : Container). record { container = d.number; cause = cause }) cs) (filter-append (λ (d : Container). d.app == app.number) gone more)
    ∙ ap (λ es. app.ends ++ es) (map-append (λ (d : Container). record { container = d.number; cause = cause }) (filter (λ (d : Container). d.app == app.number) gone) (filter (λ (d : Container). d.app == app.number) more))
    ∙ sym (append_assoc app.ends _ _))

all_told : (cause : Cause) (gone more : List Container) (apps : List App) → map (with_ends cause (gone ++ more)) apps ≡ map (with_ends cause more) (map (with_ends cause gone) apps)
all_told cause gone more apps = (λ i. map (λ app. more_told cause gone more app i) apps) ∙ sym (map_twice (with_ends cause more) (with_ends cause gone) apps)

no_ends : (cause : Cause) (apps : List App) → map (with_ends cause []) apps ≡ apps
no_ends cause [] = refl
no_ends cause (a ∷ apps) = λ i. (record a { ends = append-nil a.ends i }) ∷ no_ends cause apps i

module _ {K : ℕ} where
  pub ends_none : (cause : Cause) (old : Flat K) → after_ends cause [] old ≡ old
  ends_none cause old = λ i. record old {
    apps = record old.apps { active = no_ends cause old.apps.active i };
    nodes = record old.nodes { live = filter_whole (λ d. not (is_among [] d)) old.nodes.live (λ d m. refl) i };
  }

  -- some ends and then more
  pub ends_then : (cause : Cause) (gone more : List Container) (old : Flat K) → after_ends cause (gone ++ more) old ≡ after_ends cause more (after_ends cause gone old)
  ends_then cause gone more old = λ i. record old {
    apps = record old.apps { active = all_told cause gone more old.apps.active i };
    nodes = record old.nodes { live = without_more gone more old.nodes.live i };
  }

-- a container that is found, where it passes a test
abbrev pub kept_if_passes : (Container → Bool) → Option Container → Option Container
kept_if_passes t None = None
kept_if_passes t (Some c) = if t c then Some c else None

pub find_among_some : (t : Container → Bool) (n low : ℕ) (xs : List Container) (high : ℕ) → IsRising low (container_numbers xs) high →
    find (λ c. c.number == n) (filter t xs) ≡ kept_if_passes t (find (λ c. c.number == n) xs)
find_among_some t n low [] high r = refl
find_among_some t n low (x ∷ xs) high r = by (x.number == n) (t x) refl refl (find_among_some t n (x.number + 1) xs high r.1)
  where
    by : (b p : Bool) → x.number == n ≡ b → t x ≡ p → find (λ c. c.number == n) (filter t xs) ≡ kept_if_passes t (find (λ c. c.number == n) xs) →
        find (λ c. c.number == n) (cond p (x ∷ filter t xs) (filter t xs)) ≡ kept_if_passes t (cond b (Some x) (find (λ c. c.number == n) xs))
    by true true e p i = ap (λ b. cond b (Some x) (find (λ (c : Container). c.number == n) (filter t xs))) e ∙ ap (λ b. cond b (Some x) None) (sym p)
    by true false e p i =
        i
        ∙ ap (kept_if_passes t) (none_before (λ (z : Container). z.number) n (x.number + 1) xs high r.1 (grind (arith, nat_tests, e)))
        ∙ ap (λ b. cond b (Some x) None) (sym p)
    by false true e p i = ap (λ b. cond b (Some x) (find (λ (c : Container). c.number == n) (filter t xs))) e ∙ i
    by false false e p i = i

-- the first that passes a test, and those that are left of them
module _ (t : Container → Bool) where
  others_pass : (x : Container) (low : ℕ) (xs : List Container) (high : ℕ) → IsRising (x.number + 1) (container_numbers xs) high → filter t (filter (λ d. not (is_among (x ∷ []) d)) xs) ≡ filter t xs
  others_pass x low xs high r = ap (filter t) (filter_whole (λ d. not (is_among (x ∷ []) d)) xs
      (λ d m. let above = rising_from_low (λ (z : Container). z.number) (x.number + 1) xs high d r m in let no : x.number == d.number ≡ false = grind (arith, nat_tests, above) in ap (λ b. not (b || false)) no))

  pub first_passes : (low : ℕ) (xs : List Container) (high : ℕ) (c : Container) → IsRising low (container_numbers xs) high → find t xs ≡ Some c →
      filter t xs ≡ c ∷ filter t (filter (λ d. not (is_among (c ∷ []) d)) xs)
  first_passes low [] high c r e = absurd (cc e)
  first_passes low (x ∷ xs) high c r e = by (t x) refl e (λ f. first_passes (x.number + 1) xs high c r.1 f)
    where
      rest : Container → List Container
      rest d = filter (λ y. not (is_among (d ∷ []) y)) xs

      by : (b : Bool) → t x ≡ b → cond b (Some x) (find t xs) ≡ Some c → (find t xs ≡ Some c → filter t xs ≡ c ∷ filter t (rest c)) →
          cond b (x ∷ filter t xs) (filter t xs) ≡ c ∷ filter t (cond (not (is_among (c ∷ []) x)) (x ∷ rest c) (rest c))
      by true p f i =
          let same : x ≡ c = cc f in
          let yes : is_among (x ∷ []) x ≡ true = (let s : x.number == x.number ≡ true = grind (arith, nat_tests) in ap (λ b. b || false) s) in
          subst (λ d. x ∷ filter t xs ≡ d ∷ filter t (cond (not (is_among (d ∷ []) x)) (x ∷ rest d) (rest d))) same
          (ap (λ cs. x ∷ cs) (sym (others_pass x low xs high r.1) ∙ ap (λ b. filter t (cond (not b) (x ∷ rest x) (rest x))) (sym yes)))
      by false p f i = i f ∙ ap (λ cs. c ∷ cs) (kept (is_among (c ∷ []) x))
        where
          kept : (b : Bool) → filter t (rest c) ≡ filter t (cond (not b) (x ∷ rest c) (rest c))
          kept true = refl
          kept false = sym (ap (λ b. cond b (x ∷ filter t (rest c)) (filter t (rest c))) p)

  pub none_pass : (xs : List Container) → find t xs ≡ None → filter t xs ≡ []
  none_pass [] e = refl
  none_pass (x ∷ xs) e = by (t x) e (λ f. none_pass xs f)
    where
      by : (b : Bool) → cond b (Some x) (find t xs) ≡ None → (find t xs ≡ None → filter t xs ≡ []) → cond b (x ∷ filter t xs) (filter t xs) ≡ []
      by true f i = absurd (cc f)
      by false f i = i f
