-- What each ask wants at least, after asks were put and taken out.
use Rattle.cap_asks.proofs.Prelude.{◌≡◌, ℕ, Bool, true, false, cond, List, [], ◌∷◌, length, get_or, get_or-set_other, get_or-set_same, map, refl, slice_set, ◌<◌, ◌≤◌, subst, ◌∙◌, ap, inl, inr, arith, not, ◌-◌, ◌==◌, nat_tests, Ask, Key, IsIn, ask_key_cmp, is_lt, same_key, put_ask, take_one, with_ask, without_key, of_filter, of_map, Fits, WantAtLeast, ◌⊎◌}

pub fits_through : (a b c : List ℕ) → Fits a b → Fits b c → Fits a c
fits_through a b c f g k = let x = f k in let y = g k in omega (arith, x, y)

-- one more amount that is no more than the one given
pub no_more_set : (given amounts : List ℕ) (i x : ℕ) → i < length amounts → x ≤ get_or given i 0 → ((j : ℕ) → get_or amounts j 0 ≤ get_or given j 0) → (j : ℕ) → get_or (slice_set amounts i x) j 0 ≤ get_or given j 0
no_more_set given amounts i x within few each j = by (j == i) refl
  where
    by : (b : Bool) → (j == i) ≡ b → get_or (slice_set amounts i x) j 0 ≤ get_or given j 0
    by true e =
        let same : j ≡ i = grind (arith, nat_tests, e) in
        let here = ap (λ k. get_or (slice_set amounts i x) k 0) same ∙ get_or-set_same amounts i x 0 within in
        let there = ap (λ k. get_or given k 0) same in
        omega (arith, here, there, few)
    by false e = let kept = get_or-set_other amounts i j x 0 (grind (arith, nat_tests, e)) in let h = each j in omega (arith, kept, h)

pub want_less : (a b : List ℕ) (asks : List Ask) → Fits a b → WantAtLeast b asks → WantAtLeast a asks
want_less a b asks f wants ask m = fits_through a b ask.resource f (wants ask m)

pub none_want : (least : List ℕ) (asks : List Ask) → (length asks == 0) ≡ true → WantAtLeast least asks
none_want least [] e ask m = absurd m
none_want least (x ∷ asks) e ask m = absurd (grind (arith, nat_tests, e))

in_with : (x ask : Ask) (asks : List Ask) → IsIn ask (with_ask x asks) → (x ≡ ask) ⊎ IsIn ask asks
in_with x ask [] m = m
in_with x ask (y ∷ asks) m = by (is_lt (ask_key_cmp x.key y.key)) (in_with x ask asks) m
  where
    by : (b : Bool) → (IsIn ask (with_ask x asks) → (x ≡ ask) ⊎ IsIn ask asks) → IsIn ask (cond b (x ∷ y ∷ asks) (y ∷ with_ask x asks)) → (x ≡ ask) ⊎ IsIn ask (y ∷ asks)
    by true rest n = n
    by false rest (inl e) = inr (inl e)
    by false rest (inr n) = elim (rest n) [ inl e ↦ inl e | inr r ↦ inr (inr r) ]

module _ (least : List ℕ) (x : Ask) (asks : List Ask) (wants : WantAtLeast least asks) where
  others_want : WantAtLeast least (without_key x.key asks)
  others_want ask m = wants ask (of_filter (λ (a : Ask). not (same_key a.key x.key)) asks ask m).1

  after_put : (b : Bool) → (b ≡ false → Fits least x.resource) → WantAtLeast least (cond b (without_key x.key asks) (with_ask x (without_key x.key asks)))
  after_put true fits ask m = others_want ask m
  after_put false fits ask m = elim (in_with x ask (without_key x.key asks) m) [
    | inl e ↦ subst (λ (a : Ask). Fits least a.resource) e (fits refl)
    | inr r ↦ others_want ask r
  ]

  -- an ask is put that wants no less, or is taken away
  pub put_wants : ((x.count == 0) ≡ false → Fits least x.resource) → WantAtLeast least (put_ask x asks)
  put_wants fits = after_put (x.count == 0) fits

-- one container less is wanted for a key
pub taken_wants : (least : List ℕ) (key : Key) (asks : List Ask) → WantAtLeast least asks → WantAtLeast least (take_one key asks)
taken_wants least key asks wants ask m =
    let one_less = λ (a : Ask). cond (same_key a.key key) (record a { count = a.count - 1 }) a in
    let r = of_map one_less asks ask (of_filter (λ (a : Ask). not (a.count == 0)) (map one_less asks) ask m).1 in
    subst (λ (a : Ask). Fits least a.resource) (r.2) (same_resource (r.0) (same_key (r.0).key key) (wants (r.0) (r.1)))
  where
    same_resource : (a : Ask) (b : Bool) → Fits least a.resource → Fits least (cond b (record a { count = a.count - 1 }) a).resource
    same_resource a true f = f
    same_resource a false f = f
