-- Message the committer knows after it took an item.
use Rattle.cap_lanes.proofs.Prelude.{◌≡◌, ◌≢◌, ℕ, zero, suc, ◌+◌, ◌<◌, ◌≤◌, ◌==◌, Bool, List, [], ◌∷◌, ◌++◌, length, set, true, false, refl, ap, sym, ◌∙◌, subst, arith, append_assoc, length-append, Some, slice_get, nat_tests, append-nil, NodeProposal, Put, End, Item, View, messages_of, is_over, puts_if, puts_in, view_of, taker, IsTaken, Tally, Flags}
use Rattle.cap_lanes.proofs.Lists.{messages_of-append, of_mine, of_other, is_over-push_put, is_over-push_end, puts_in-append, length-puts_in, same_of}
use Rattle.cap_lanes.proofs.Tallies.{weight, weight_is, AllEnded, IsSoFar}

get_set_same : (l : List Bool) (i : ℕ) (a b : Bool) → slice_get l i ≡ Some b → slice_get (set l i a) i ≡ Some a
get_set_same [] i a b e = absurd (cc (e))
get_set_same (x ∷ xs) zero a b e = refl
get_set_same (x ∷ xs) (suc i) a b e = get_set_same xs i a b e

get_set_other : (l : List Bool) (i j : ℕ) (a : Bool) → j ≢ i → slice_get (set l i a) j ≡ slice_get l j
get_set_other [] i j a n = refl
get_set_other (x ∷ xs) zero zero a n = absurd (n refl)
get_set_other (x ∷ xs) zero (suc j) a n = refl
get_set_other (x ∷ xs) (suc i) zero a n = refl
get_set_other (x ∷ xs) (suc i) (suc j) a n = get_set_other xs i j a (λ e. n (ap suc e))

apart : (a b : ℕ) → (a == b) ≡ false → a ≢ b
apart a b e q = grind (arith, nat_tests)

-- whether an end was taken, after one item more
over_same : (w : ℕ) (took : List Item) (x : Item) → x.worker ≢ w → is_over (messages_of w (took ++ x ∷ [])) ≡ is_over (messages_of w took)
over_same w took x n = ap is_over (messages_of-append w took (x ∷ []) ∙ ap (λ zs. messages_of w took ++ zs) (of_other w x n) ∙ append-nil (messages_of w took))

over_here : (w : ℕ) (took : List Item) (x : Item) → x.worker ≡ w → is_over (messages_of w (took ++ x ∷ [])) ≡ is_over (messages_of w took ++ x.message ∷ [])
over_here w took x e = ap is_over (messages_of-append w took (x ∷ []) ∙ ap (λ zs. messages_of w took ++ zs) (of_mine w x e))

over_put : (w : ℕ) (took : List Item) (x : Item) (p : NodeProposal) → x.message ≡ Put p → (b : Bool) → (x.worker == w) ≡ b → is_over (messages_of w (took ++ x ∷ [])) ≡ is_over (messages_of w took)
over_put w took x p is true t = over_here w took x (same_of x.worker w t) ∙ ap (λ y. is_over (messages_of w took ++ y ∷ [])) is ∙ is_over-push_put (messages_of w took) p
over_put w took x p is false t = over_same w took x (apart x.worker w t)

module _ (v w : View) (x : Item) (h : IsTaken v x w) where
  took_is : w.took ≡ v.took ++ x ∷ []
  took_is = ap (λ (u : View). u.took) h.0

  pub taken_takes : v ≡ taker v.took [] → w ≡ taker w.took []
  taken_takes e = h.0 ∙ ap (λ (u : View). view_of u.takes (v.took ++ x ∷ []) u.lanes) e ∙ ap (λ zs. taker zs []) (sym took_is)

  -- a proposal
  pub taken_flags_put : (over : List Bool) (p : NodeProposal) → Flags over v.took → x.message ≡ Put p → Flags over w.took
  taken_flags_put over p f is n l = f n l ∙ ap Some (sym (ap (λ zs. is_over (messages_of n zs)) took_is ∙ over_put n v.took x p is (x.worker == n) refl))

  pub taken_put : (p : NodeProposal) → x.message ≡ Put p → puts_in w.took ≡ puts_in v.took ++ (x.worker, p) ∷ []
  taken_put p is = ap puts_in took_is ∙ puts_in-append v.took (x ∷ []) ∙ ap (λ y. puts_in v.took ++ puts_if y x.worker []) is

  pub taken_before : (over : List Bool) → Flags over v.took → slice_get over x.worker ≡ Some false
  taken_before over f = f x.worker h.1 ∙ ap Some h.2

  -- an end
  flag_end : (over : List Bool) → Flags over v.took → x.message ≡ End → (n : ℕ) → n < 8 → (b : Bool) → (x.worker == n) ≡ b → slice_get (set over x.worker true) n ≡ Some (is_over (messages_of n (v.took ++ x ∷ [])))
  flag_end over f is n l true t =
      let e = same_of x.worker n t in
      ap (λ (k : ℕ). slice_get (set over k true) n) e
      ∙ get_set_same over n true (is_over (messages_of n v.took)) (f n l)
      ∙ ap Some (sym (over_here n v.took x e ∙ ap (λ y. is_over (messages_of n v.took ++ y ∷ [])) is ∙ is_over-push_end (messages_of n v.took)))
  flag_end over f is n l false t =
      let a = apart x.worker n t in
      get_set_other over x.worker n true (λ q. a (sym q)) ∙ f n l ∙ ap Some (sym (over_same n v.took x a))

  pub taken_flags_end : (over : List Bool) → Flags over v.took → x.message ≡ End → Flags (set over x.worker true) w.took
  taken_flags_end over f is n l = flag_end over f is n l (x.worker == n) refl ∙ ap (λ zs. Some (is_over (messages_of n zs))) (sym took_is)

  pub taken_end : x.message ≡ End → puts_in w.took ≡ puts_in v.took
  taken_end is = ap puts_in took_is ∙ puts_in-append v.took (x ∷ []) ∙ ap (λ y. puts_in v.took ++ puts_if y x.worker []) is ∙ append-nil (puts_in v.took)

  later : (over : List Bool) → Flags over v.took → (n : ℕ) (b : Bool) → (x.worker == n) ≡ b → slice_get (set over x.worker true) n ≡ Some false → slice_get over n ≡ Some false
  later over f n true t s =
      let e = same_of x.worker n t in
      let y = taken_before over f in
      let z : slice_get (set over x.worker true) x.worker ≡ Some true = get_set_same over x.worker true false y in
      let z' : slice_get (set over x.worker true) n ≡ Some true = subst (λ (k : ℕ). slice_get (set over x.worker true) k ≡ Some true) e z in
      absurd (some_apart (sym z' ∙ s))
    where
      some_apart : Some true ≡ Some false → ⊥
      some_apart q = cc (q)
  later over f n false t s = let a = apart x.worker n t in sym (get_set_other over x.worker n true (λ q. a (sym q))) ∙ s

  pub taken_later : (over : List Bool) → Flags over v.took → (n : ℕ) → slice_get (set over x.worker true) n ≡ Some false → slice_get over n ≡ Some false
  taken_later over f n s = later over f n (x.worker == n) refl s

  kept : (over : List Bool) (n : ℕ) (b : Bool) → (x.worker == n) ≡ b → slice_get over n ≡ Some true → slice_get (set over x.worker true) n ≡ Some true
  kept over n true t s = ap (λ (k : ℕ). slice_get (set over k true) n) (same_of x.worker n t) ∙ get_set_same over n true true s
  kept over n false t s = let a = apart x.worker n t in get_set_other over x.worker n true (λ q. a (sym q)) ∙ s

  pub taken_kept : (over : List Bool) (n : ℕ) → slice_get over n ≡ Some true → slice_get (set over x.worker true) n ≡ Some true
  taken_kept over n s = kept over n (x.worker == n) refl s

-- what is taken at the end
view_eta : (v : View) → v.takes ≡ true → v ≡ view_of true v.took v.lanes
view_eta v e = ap (λ b. view_of b v.took v.lanes) e

pub so_far_none : (v w : View) (rest : List (ℕ × NodeProposal)) → v.takes ≡ true → w ≡ v → rest ≡ [] → IsSoFar v w rest
so_far_none v w rest t e r = record { more = []; now = e ∙ view_eta v t ∙ ap (λ zs. view_of true zs v.lanes) (sym (append-nil v.took)); left = r; none = λ _. refl }

module _ (v w u : View) (x : Item) (rest : List (ℕ × NodeProposal)) (s : IsSoFar v w rest) (h : IsTaken w x u) where
  fewer : (v.lanes ≡ w.lanes) × (w.took ≡ v.took ++ s.more)
  fewer = (ap (λ (y : View). y.lanes) (sym s.now), ap (λ (y : View). y.took) s.now)

  no_end : AllEnded v.took → s.more ≡ [] → ⊥
  no_end all none =
      let e : w.took ≡ v.took = fewer.1 ∙ ap (λ zs. v.took ++ zs) none ∙ append-nil v.took in
      let o : is_over (messages_of x.worker v.took) ≡ false = subst (λ (zs : List Item). is_over (messages_of x.worker zs) ≡ false) e h.2 in
      off (sym (all x.worker h.1) ∙ o)
    where
      off : true ≡ false → ⊥
      off q = cc (q)

  pub so_far_more : (rest' : List (ℕ × NodeProposal)) → rest' ≡ rest ++ puts_in (x ∷ []) → IsSoFar v u rest'
  so_far_more rest' r = record {
    more = s.more ++ x ∷ [];
    now = h.0 ∙ ap (λ (y : View). view_of y.takes (y.took ++ x ∷ []) y.lanes) s.now ∙ ap (λ zs. view_of true zs v.lanes) (append_assoc v.took s.more (x ∷ []));
    left = r ∙ ap (λ zs. zs ++ puts_in (x ∷ [])) s.left ∙ sym (puts_in-append s.more (x ∷ []));
    none = λ all. absurd (no_end all (s.none all));
  }

  pub so_far_put : (p : NodeProposal) (rest' : List (ℕ × NodeProposal)) → x.message ≡ Put p → rest' ≡ rest ++ (x.worker, p) ∷ [] → IsSoFar v u rest'
  so_far_put p rest' is r = so_far_more rest' (r ∙ ap (λ y. rest ++ puts_if y x.worker []) (sym is))

  pub so_far_end : x.message ≡ End → IsSoFar v u rest
  so_far_end is = so_far_more rest (sym (append-nil rest) ∙ ap (λ y. rest ++ puts_if y x.worker []) (sym is))

  -- the room that was there at the start is enough
  pub so_far_room : length v.lanes ≡ 8 → weight v.lanes ≤ length v.took + 1024 → length rest < 1024
  so_far_room eight bound =
      let t : Tally (w.took ++ x ∷ []) h.3.0 w.lanes = h.3.1 in
      let k : weight w.lanes ≡ length (w.took ++ x ∷ []) + length h.3.0 = weight_is (w.took ++ x ∷ []) h.3.0 w.lanes t (ap length (sym fewer.0) ∙ eight) in
      let same : weight v.lanes ≡ weight w.lanes = ap weight fewer.0 in
      let a : length (w.took ++ x ∷ []) ≡ length w.took + 1 = length-append w.took (x ∷ []) in
      let b : length w.took ≡ length v.took + length s.more = ap length fewer.1 ∙ length-append v.took s.more in
      let c : length rest ≤ length s.more = subst (λ (zs : List (ℕ × NodeProposal)). length zs ≤ length s.more) (sym s.left) (length-puts_in s.more) in
      omega arith

pub weight_bound : (items : List Item) (v : View) → Tally v.took items v.lanes → length v.lanes ≡ 8 → weight v.lanes ≤ length v.took + 1024
weight_bound items v t eight = let w = weight_is v.took items v.lanes t eight in let r = t.sound.room in omega arith
