-- Each step keeps the rule.
use Rattle.cap_lanes.proofs.Prelude.{◌≡◌, ◌≢◌, ℕ, zero, suc, ◌<◌, ◌≤◌, ◌==◌, Bool, true, false, List, [], ◌∷◌, ◌++◌, length, set, refl, ap, sym, ◌∙◌, subst, ⊎_elim, arith, length-append, append-nil, Message, Pushes, Pops, Forks, Merges, Learns, at_set, at_snoc, Item, Lane, View, messages_of, is_over, EndsLast, lane, view_of, sender, nobody, first_view, without_first, only_first, with_guest, Fits, Sound, Knows, Holds, Tally, Tells, IsPut, IsTaken, lane_of}
use mathlib.Core.Option.{some, some-ne-none, some-injective}
use lib.ListN.{get_elem?}
use Rattle.cap_lanes.proofs.Lists.{one, one_same, same_of, test_same, messages_of-append, times-append, times-parts, total-set, total-push, total_at, total_two, fresh_fits, fresh_once, all_fit-append, all_fit_rest, all_fit_head, all_fit_popped, all_fit_others, fits_mine, of_mine, of_other, of_pushed, of_popped, WorkersBelow-push, EndsLast-push, not_over_before}

off : false ≡ true → ⊥
off e = absurd (cc (e))

knows_set : (at : ℕ) (got items : List Item) (views : List View) (by : ℕ) (w : View) → ((j : ℕ) (u : View) → j ≢ by → get_elem? views j ≡ some u → Knows at got items j u) → Knows at got items by w
    → (j : ℕ) (u : View) → get_elem? (set views by w) j ≡ some u → Knows at got items j u
knows_set at got items views by w others mine j u e =
    ⊎_elim
    (λ (x : (j ≡ by) × (w ≡ u)). subst (λ (y : ℕ × View). Knows at got items y.0 y.1) (λ i. (sym x.0 i, x.1 i)) mine)
    (λ (x : (j ≢ by) × (get_elem? views j ≡ some u)). others j u x.0 x.1)
    (at_set views by j w u e)

knows_push : (at : ℕ) (got items : List Item) (views : List View) (w : View) → ((j : ℕ) (u : View) → get_elem? views j ≡ some u → Knows at got items j u) → ((j : ℕ) → Knows at got items j w)
    → (j : ℕ) (u : View) → get_elem? (views ++ w ∷ []) j ≡ some u → Knows at got items j u
knows_push at got items views w others mine j u e =
    ⊎_elim (λ (was : get_elem? views j ≡ some u). others j u was) (λ (same : w ≡ u). subst (λ (y : View). Knows at got items j y) same (mine j)) (at_snoc views w u j e)

-- making
pub begins : Holds [] (first_view ∷ [])
begins = record {
  taker_at = 0;
  got = [];
  sound = record { taken = tt; held = tt; lanes = λ n. tt; room = omega arith };
  knows = here;
  once = λ x. (let f = fresh_once x 0 8 in omega arith);
}
  where
    here : (by : ℕ) (v : View) → get_elem? (first_view ∷ []) by ≡ some v → Knows 0 [] [] by v
    here zero v e = subst (λ (y : View). Knows 0 [] [] 0 y) (some-injective _ _ e) (record { takes = λ _. (refl, refl); fits = fresh_fits 0 8 (omega arith) })
    here (suc by) v e = absurd (some-ne-none v (sym e))

-- a lane goes to a new pass
pub splits : (id : ℕ) (v : View) → Forks Holds id v (without_first v) (only_first v)
splits id v items views h at =
    let mine = h.knows id v at in
    let left = without_first v in
    let right = only_first v in record {
      taker_at = h.taker_at;
      got = h.got;
      sound = h.sound;
      knows = knows_push h.taker_at h.got items (set views id left) right
          (knows_set h.taker_at h.got items views id left (λ j u _ e. h.knows j u e) (record { takes = mine.takes; fits = all_fit_rest h.got items v.lanes mine.fits }))
          (λ j. record { takes = λ c. absurd (off c); fits = all_fit_head h.got items v.lanes mine.fits });
      once = λ x.
          let a = total-set x views id v left at in
          let b = total-push x (set views id left) right in
          let p = times-parts x v.lanes in
          let o = h.once x in
          omega arith;
    }

-- a pass takes in the lanes of another
pub joins : (id : ℕ) (v : View) (other : ℕ) (w : View) → Merges Holds id v other w (with_guest v w) nobody
joins id v other w items views h at apart there =
    let both = with_guest v w in
    let mine = h.knows id v at in
    let was : get_elem? views other ≡ some w = ⊎_elim (λ (t : (other ≡ id) × (both ≡ w)). absurd (apart t.0)) (λ (t : (other ≢ id) × (get_elem? views other ≡ some w)). t.1) (at_set views id other both w there) in
    let theirs = h.knows other w was in record {
      taker_at = h.taker_at;
      got = h.got;
      sound = h.sound;
      knows = knows_set h.taker_at h.got items (set views id both) other nobody
          (λ j u _ e. knows_set h.taker_at h.got items views id both (λ i y _ f. h.knows i y f) (record { takes = mine.takes; fits = all_fit-append h.got items v.lanes w.lanes mine.fits theirs.fits }) j u e)
          (record { takes = λ c. absurd (off c); fits = tt });
      once = λ x.
          let a = total-set x views id v both at in
          let b = total-set x (set views id both) other w nobody there in
          let p = times-append x v.lanes w.lanes in
          let o = h.once x in
          omega arith;
    }

-- a worker puts an item
sound_pushed : (got items : List Item) (x : Item) (l : Lane) → Sound got items → Fits got items l → x.worker ≡ l.worker → is_over l.put ≡ false → length items < 1024 → Sound got (items ++ x ∷ [])
sound_pushed got items x l s f e o room = record {
  taken = s.taken;
  held = WorkersBelow-push items x s.held (let b = f.below in omega arith);
  lanes = λ n. by_lane n (x.worker == n) refl;
  room = omega (arith, length-append items (x ∷ []));
}
  where
    by_lane : (n : ℕ) (b : Bool) → (x.worker == n) ≡ b → EndsLast (messages_of n got ++ messages_of n (items ++ x ∷ []))
    by_lane n true t =
        let q : x.worker ≡ n = same_of x.worker n t in
        let was : is_over (messages_of n got ++ messages_of n items) ≡ false = subst (λ (k : ℕ). is_over (messages_of k got ++ messages_of k items) ≡ false) (sym e ∙ q) (subst (λ (zs : List Message). is_over zs ≡ false) f.put o) in
        subst EndsLast (ap (λ zs. (messages_of n got ++ messages_of n items) ++ zs) (sym (of_mine n x q)) ∙ sym (of_pushed n got items x)) (EndsLast-push (messages_of n got ++ messages_of n items) x.message (s.lanes n) was)
    by_lane n false t =
        let n' : x.worker ≢ n = λ q. off (sym t ∙ (ap (λ k. x.worker == k) (sym q) ∙ test_same x.worker)) in
        subst EndsLast (sym (append-nil (messages_of n got ++ messages_of n items)) ∙ ap (λ zs. (messages_of n got ++ messages_of n items) ++ zs) (sym (of_other n x n')) ∙ sym (of_pushed n got items x)) (s.lanes n)

pub pushes : (cap id : ℕ) (l : Lane) (x : Item) → x.worker ≡ l.worker → is_over l.put ≡ false → cap ≤ 1024 → Pushes Holds cap id (sender l) x (IsPut (sender l) x)
pushes cap id l x e o le items views room h at =
    let mine : Fits h.got items l = (h.knows id (sender l) at).fits.0 in
    let w = sender (lane l.worker (l.put ++ x.message ∷ [])) in
    let o₁ : one l.worker x.worker ≡ 1 = subst (λ (k : ℕ). one l.worker k ≡ 1) (sym e) (one_same l.worker) in (
      w,
      record {
        taker_at = h.taker_at;
        got = h.got;
        sound = sound_pushed h.got items x l h.sound mine e o (omega arith);
        knows = knows_set h.taker_at h.got (items ++ x ∷ []) views id w
            (λ j u apart f. record {
              takes = (h.knows j u f).takes;
              fits = all_fit_others h.got items x u.lanes
                  (let t = total_two x.worker views id j (sender l) u (λ q. apart (sym q)) at f in let m = h.once x.worker in omega arith)
                  (h.knows j u f).fits;
            })
            (record { takes = λ c. absurd (off c); fits = (fits_mine h.got items x l e mine, tt) });
        once = λ n. (let a = total-set n views id (sender l) w at in let m = h.once n in omega arith);
      },
      refl,
    )

-- the committer takes an item
sound_popped : (got items : List Item) (x : Item) → Sound got (x ∷ items) → Sound (got ++ x ∷ []) items
sound_popped got items x s = record {
  taken = WorkersBelow-push got x s.taken s.held.0;
  held = s.held.1;
  lanes = λ n. subst EndsLast (of_popped n got items x) (s.lanes n);
  room = (let r = s.room in omega arith);
}

not_over : (got items : List Item) (x : Item) → Sound got (x ∷ items) → is_over (messages_of x.worker got) ≡ false
not_over got items x s =
    not_over_before (messages_of x.worker got) x.message (messages_of x.worker items)
    (subst (λ (zs : List Message). EndsLast (messages_of x.worker got ++ zs)) (messages_of-append x.worker (x ∷ []) items ∙ ap (λ zs. zs ++ messages_of x.worker items) (of_mine x.worker x refl)) (s.lanes x.worker))

pub pops : (id : ℕ) (v : View) → v.takes ≡ true → Pops Holds id v (IsTaken v)
pops id v takes x items views h at =
    let mine = h.knows id v at in
    let place = mine.takes takes in
    let w = view_of v.takes (v.took ++ x ∷ []) v.lanes in
    let sound = sound_popped h.got items x h.sound in
    let fits = all_fit_popped h.got items x v.lanes mine.fits in
    let tally : Tally (h.got ++ x ∷ []) items v.lanes = record { sound = sound; fits = fits; once = λ n. (let t = total_at n views id v at in let o = h.once n in omega arith) } in (
      w,
      record {
        taker_at = h.taker_at;
        got = h.got ++ x ∷ [];
        sound = sound;
        knows = knows_set h.taker_at (h.got ++ x ∷ []) items views id w
            (λ j u apart f. record {
              takes = λ t. absurd (apart (((h.knows j u f).takes t).0 ∙ sym place.0));
              fits = all_fit_popped h.got items x u.lanes (h.knows j u f).fits;
            })
            (record { takes = λ _. (place.0, ap (λ g. g ++ x ∷ []) place.1); fits = fits });
        once = λ n. (let a = total-set n views id v w at in let o = h.once n in omega arith);
      },
      (
        refl,
        h.sound.held.0,
        subst (λ (g : List Item). is_over (messages_of x.worker g) ≡ false) (sym place.1) (not_over h.got items x h.sound),
        (items, subst (λ (g : List Item). Tally (g ++ x ∷ []) items v.lanes) (sym place.1) tally),
      ),
    )

-- what the committer's pass tells of what the channel holds
pub tells : (id : ℕ) (v : View) → v.takes ≡ true → Learns Holds id v (Tells v)
tells id v takes items views h at =
    let mine = h.knows id v at in
    let place = mine.takes takes in
    let tally : Tally h.got items v.lanes = record { sound = h.sound; fits = mine.fits; once = λ n. (let t = total_at n views id v at in let o = h.once n in omega arith) } in
    subst (λ (g : List Item). Tally g items v.lanes) (sym place.1) tally

pub pushes_as : (cap id : ℕ) (v : View) (x : Item) → v ≡ sender (lane_of v) → x.worker ≡ (lane_of v).worker → is_over (lane_of v).put ≡ false → cap ≤ 1024 → Pushes Holds cap id v x (IsPut v x)
pushes_as cap id v x is e o le = subst (λ (u : View). Pushes Holds cap id u x (IsPut u x)) (sym is) (pushes cap id (lane_of v) x e o le)
