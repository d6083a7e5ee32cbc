-- Each step keeps the rule.
use Rattle.cap_shared.proofs.Prelude.{◌≡◌, ◌≢◌, ℕ, zero, suc, ◌+◌, ◌≤◌, true, false, List, [], ◌∷◌, ◌++◌, set, refl, ap, sym, ◌∙◌, subst, ⊎_elim, arith, step, Allows, Splits, Joins, opening, at_set, at_snoc, Entry, Mark, Sitting, View, Addition, Enters, Notes, Nothing, addition_of, nobody, first_view, without_first, only_first, with_guest, IsOf, AllFit, times, total, Knows, Holds, log_after, sits_after, view_with, IsAdded, IsCompared}
use mathlib.Core.Option.{some, none, some-ne-none, some-injective}
use lib.ListN.{get_elem?}
use Rattle.atomic_table.specs.Table.{keeps as no_act}
use Rattle.cap_shared.proofs.Lists.{one, one_same, times-append, times-parts, total-set, total-push, total_at, total_two, fresh_fits, fresh_once, all_fit_after, times_after, absent_from, all_fit_others, all_fit-append, all_fit_rest, all_fit_head}

off : false ≡ true → ⊥
off e = absurd (cc (e))

knows_set : (at : ℕ) (log : List Entry) (views : List View) (by : ℕ) (w : View) → ((j : ℕ) (u : View) → j ≢ by → get_elem? views j ≡ some u → Knows at log j u) → Knows at log by w
    → (j : ℕ) (u : View) → get_elem? (set views by w) j ≡ some u → Knows at log j u
knows_set at log views by w others mine j u e =
    ⊎_elim
    (λ (x : (j ≡ by) × (w ≡ u)). subst (λ (y : ℕ × View). Knows at log y.0 y.1) (λ i. (sym x.0 i, x.1 i)) mine)
    (λ (x : (j ≢ by) × (get_elem? views j ≡ some u)). others j u x.0 x.1)
    (at_set views by j w u e)

knows_push : (at : ℕ) (log : List Entry) (views : List View) (w : View) → ((j : ℕ) (u : View) → get_elem? views j ≡ some u → Knows at log j u) → ((j : ℕ) → Knows at log j w)
    → (j : ℕ) (u : View) → get_elem? (views ++ w ∷ []) j ≡ some u → Knows at log j u
knows_push at log views w others mine j u e =
    ⊎_elim (λ (was : get_elem? views j ≡ some u). others j u was) (λ (same : w ≡ u). subst (λ (y : View). Knows at log j y) same (mine j)) (at_snoc views w u j e)

-- making
pub begins : (k : ℕ) → Holds k (opening (0 ∷ []) [] (first_view k))
begins k = record { keeper_at = 0; log = []; knows = here; once = λ x. (let f = fresh_once x 0 k in omega arith) }
  where
    here : (by : ℕ) (v : View) → get_elem? (first_view k ∷ []) by ≡ some v → Knows 0 [] by v
    here zero v e = subst (λ (y : View). Knows 0 [] 0 y) (some-injective _ _ e) (record { keeps = λ _. (refl, refl); fits = fresh_fits 0 k })
    here (suc by) v e = absurd (some-ne-none v (sym e))

-- a sitting goes to a new pass
pub splits : (k id : ℕ) (v : View) → Splits (Holds k) id v (without_first v) (only_first v)
splits k id v s h at =
    let mine = h.knows id v at in
    let left = without_first v in
    let right = only_first v in record {
      keeper_at = h.keeper_at;
      log = h.log;
      knows = knows_push h.keeper_at h.log (set s.views id left) right
          (knows_set h.keeper_at h.log s.views id left (λ j u _ e. h.knows j u e) (record { keeps = mine.keeps; fits = all_fit_rest h.log v.sits mine.fits }))
          (λ j. record { keeps = λ c. absurd (off c); fits = all_fit_head h.log v.sits mine.fits });
      once = λ x.
          let a = total-set x s.views id v left at in
          let b = total-push x (set s.views id left) right in
          let p = times-parts x v.sits in
          let o = h.once x in
          omega arith;
    }

-- a pass takes in the sittings of another
pub joins : (k id : ℕ) (v : View) (other : ℕ) (w : View) → Joins (Holds k) id v other w (with_guest v w) nobody
joins k id v other w s h at apart there =
    let both = with_guest v w in
    let mine = h.knows id v at in
    let was : get_elem? s.views other ≡ some w = ⊎_elim (λ (t : (other ≡ id) × (both ≡ w)). absurd (apart t.0)) (λ (t : (other ≢ id) × (get_elem? s.views other ≡ some w)). t.1) (at_set s.views id other both w there) in
    let theirs = h.knows other w was in record {
      keeper_at = h.keeper_at;
      log = h.log;
      knows = knows_set h.keeper_at h.log (set s.views id both) other nobody
          (λ j u _ e. knows_set h.keeper_at h.log s.views id both (λ i y _ f. h.knows i y f) (record { keeps = mine.keeps; fits = all_fit-append h.log v.sits w.sits mine.fits theirs.fits }) j u e)
          (record { keeps = λ c. absurd (off c); fits = tt });
      once = λ x.
          let a = total-set x s.views id v both at in
          let b = total-set x (set s.views id both) other w nobody there in
          let p = times-append x v.sits w.sits in
          let o = h.once x in
          omega arith;
    }

-- the keeper has the sitting of the seat whose the entry is
abbrev pub MayAdd : Addition → List Sitting → Type 0
MayAdd (Enters e) ss = times e.seat ss ≡ 1
MayAdd (Notes a) ss = Unit {0}
MayAdd Nothing ss = Unit {0}

absent : (x : Addition) (views : List View) (i j : ℕ) (v u : View) → MayAdd x v.sits → i ≢ j → get_elem? views i ≡ some v → get_elem? views j ≡ some u → ((n : ℕ) → total n views ≤ 1) → absent_from x u.sits
absent (Enters e) views i j v u may n at there once = let t = total_two e.seat views i j v u n at there in let o = once e.seat in omega arith
absent (Notes a) views i j v u may n at there once = tt
absent Nothing views i j v u may n at there once = tt

pub adds : (k slots id : ℕ) (v : View) (c : List (ℕ × Mark)) (old new : ℕ) (f : ℕ → ℕ) (m : Mark) → v.keeps ≡ true → MayAdd (addition_of m) v.sits
    → Allows (Holds k) slots id (v, c) 0 f (IsAdded (step slots 0 old new (some m)) (v, c))
adds k slots id v c old new f m keeps may s h len at fits =
    let x = addition_of m in
    let mine = h.knows id v at in
    let place = mine.keeps keeps in
    let w = view_with v x in
    let fit : AllFit v.log v.sits = subst (λ (l : List Entry). AllFit l v.sits) (sym place.1) mine.fits in (
      w,
      no_act,
      tt,
      record {
        keeper_at = h.keeper_at;
        log = log_after h.log x;
        knows = knows_set h.keeper_at (log_after h.log x) s.views id w
            (λ j u apart e. record {
              keeps = λ t. absurd (apart (((h.knows j u e).keeps t).0 ∙ sym place.0));
              fits = all_fit_others h.log x u.sits (absent x s.views id j v u may (λ q. apart (sym q)) at e h.once) (h.knows j u e).fits;
            })
            (record { keeps = λ _. (place.0, ap (λ l. log_after l x) place.1); fits = subst (λ (l : List Entry). AllFit (log_after h.log x) (sits_after l x v.sits)) (sym place.1) (all_fit_after h.log x v.sits mine.fits) });
        once = λ n.
            let a = total-set n s.views id v w at in
            let b = times_after n v.log x v.sits in
            let o = h.once n in
            omega arith;
      },
      (refl, fit),
    )

-- the keeper compares what it sits for
pub compares : (k slots id : ℕ) (v : View) (c : List (ℕ × Mark)) → v.keeps ≡ true → Allows (Holds k) slots id (v, c) 0 (λ n. n) (IsCompared (step slots 0 0 0 none) (v, c))
compares k slots id v c keeps s h len at fits =
    let mine = h.knows id v at in
    let place = mine.keeps keeps in (
      v,
      no_act,
      tt,
      record {
        keeper_at = h.keeper_at;
        log = h.log;
        knows = knows_set h.keeper_at h.log s.views id v (λ j u _ e. h.knows j u e) mine;
        once = λ n. (let a = total-set n s.views id v v at in let o = h.once n in omega arith);
      },
      (refl, subst (λ (l : List Entry). AllFit l v.sits) (sym place.1) mine.fits, λ n. (let t = total_at n s.views id v at in let o = h.once n in omega arith)),
    )

pub may_add : (x : Addition) (s : Sitting) → IsOf s.seat x → MayAdd x (s ∷ [])
may_add (Enters e) s is = let o : one s.seat e.seat ≡ 1 = subst (λ (k : ℕ). one s.seat k ≡ 1) (sym is) (one_same s.seat) in let g : one s.seat e.seat + 0 ≡ 1 = omega arith in g
may_add (Notes a) s is = tt
may_add Nothing s is = tt
