-- What asks want beside the reservations of nodes, one node after the other.
use Rattle.cap_copy.proofs.Prelude.{◌≡◌, ℕ, suc, ◌+◌, ◌-◌, ◌<◌, ◌≤◌, Bool, true, false, cond, List, [], ◌∷◌, length, refl, sym, ◌∙◌, ap, subst, arith, take, Option, Some, None, ◌==◌, map, option_map, nat_lt, slice_get, and_parts, eqb-true, nat_tests, length-map, count_by_more_no, count_by_more_yes, get_or_from_slice_get, same_Some, slice_get-map, slice_get_within, holds_of, map_same, map_twice, same_key, Key, Reservation, is_for, NodeSight, AskRange, AskEntry, AreInside, AreRanges, IsRangeOf, LiesIn, beside, beside_one, reserved_on}

-- two lists are the same where each index has the same in both
pub same_slices : {A : Type 0} (xs ys : List A) → ((i : ℕ) → slice_get xs i ≡ slice_get ys i) → xs ≡ ys
same_slices [] [] h = refl
same_slices [] (y ∷ ys) h = absurd (cc (h 0))
same_slices (x ∷ xs) [] h = absurd (cc (h 0))
same_slices (x ∷ xs) (y ∷ ys) h = let e = same_Some x y (h 0) in let es = same_slices xs ys (λ i. h (suc i)) in λ k. e k ∷ es k

-- no node yet
pub none_beside : (e : AskEntry) → beside [] e ≡ e
none_beside e = let w : e.wanted - 0 ≡ e.wanted = omega arith in λ k. record e { wanted = w k }

pub none_beside_all : (es : List AskEntry) → map (beside []) es ≡ es
none_beside_all [] = refl
none_beside_all (e ∷ es) = λ k. none_beside e k ∷ none_beside_all es k

-- a node more
module _ (nodes : List NodeSight) (i : ℕ) (node : NodeSight) (at : slice_get nodes i ≡ Some node) where
  within : i < length nodes
  within = slice_get_within nodes i node at

  test_is : (app : ℕ) (key : Key) (o : Option Reservation) → node.reservation ≡ o → holds_of (is_for app key) ((Rattle.std.proofs.Common.get_or nodes i node).reservation) ≡ holds_of (is_for app key) o
  test_is app key o e = ap (λ (n : NodeSight). holds_of (is_for app key) n.reservation) (get_or_from_slice_get nodes i node node at) ∙ ap (holds_of (is_for app key)) e

  pub free_more : node.reservation ≡ None → (es : List AskEntry) → map (beside (take i nodes)) es ≡ map (beside (take (i + 1) nodes)) es
  free_more none es = map_same (beside (take i nodes)) (beside (take (i + 1) nodes)) es
      (λ e m. let same = count_by_more_no (λ (n : NodeSight). holds_of (is_for e.app e.ask.key) n.reservation) nodes i node within (test_is e.app e.ask.key None none) in λ k. record e { wanted = e.wanted - sym same k })

  one_beside : (r : Reservation) → node.reservation ≡ Some r → (e : AskEntry) → beside_one r (beside (take i nodes) e) ≡ beside (take (i + 1) nodes) e
  one_beside r some e = by (is_for e.app e.ask.key r) refl
    where
      by : (b : Bool) → is_for e.app e.ask.key r ≡ b → cond b (record e { wanted = e.wanted - reserved_on (take i nodes) e.app e.ask.key - 1 }) (beside (take i nodes) e) ≡ beside (take (i + 1) nodes) e
      by true t =
          let more = count_by_more_yes (λ (n : NodeSight). holds_of (is_for e.app e.ask.key) n.reservation) nodes i node within (test_is e.app e.ask.key (Some r) some ∙ t) in
          let w : e.wanted - reserved_on (take i nodes) e.app e.ask.key - 1 ≡ e.wanted - reserved_on (take (i + 1) nodes) e.app e.ask.key = omega (arith, more) in
          λ k. record e { wanted = w k }
      by false t =
          let same = count_by_more_no (λ (n : NodeSight). holds_of (is_for e.app e.ask.key) n.reservation) nodes i node within (test_is e.app e.ask.key (Some r) some ∙ t) in
          λ k. record e { wanted = e.wanted - sym same k }

  pub held_more : (r : Reservation) → node.reservation ≡ Some r → (es : List AskEntry) → map (beside_one r) (map (beside (take i nodes)) es) ≡ map (beside (take (i + 1) nodes)) es
  held_more r some es = map_twice (beside_one r) (beside (take i nodes)) es ∙ map_same (λ e. beside_one r (beside (take i nodes) e)) (beside (take (i + 1) nodes)) es (λ e m. one_beside r some e)

-- asks lie in the same ranges beside reservations
pub ranges_beside : (nodes : List NodeSight) (es : List AskEntry) (ranges : List AskRange) → AreRanges es ranges → AreRanges (map (beside nodes) es) ranges
ranges_beside nodes es ranges are = record {
  ends = λ i b at. let w = are.ends i b at in (w.0, (let l = length-map es (beside nodes) in let t = w.1 in omega (arith, l, t)));
  each = λ j e lt at. by j e (slice_get es j) refl (sym (slice_get-map (beside nodes) es j) ∙ at);
}
  where
    by : (j : ℕ) (e : AskEntry) (o : Option AskEntry) → slice_get es j ≡ o → option_map (beside nodes) o ≡ Some e → LiesIn ranges e j
    by j e None there h = absurd (cc h)
    by j e (Some f) there h =
        let l = are.each j f (slice_get_within es j f there) there in
        subst (λ x. LiesIn ranges x j) (same_Some (beside nodes f) e h) (record { range = l.range; at = l.at; app = l.app; from = l.from; to = l.to })

-- a reservation is for no ask of another application
pub not_for : (r : Reservation) (e : AskEntry) → (e.app ≡ r.app → ⊥) → beside_one r e ≡ e
not_for r e other = by (is_for e.app e.ask.key r) refl
  where
    by : (b : Bool) → is_for e.app e.ask.key r ≡ b → cond b (record e { wanted = e.wanted - 1 }) e ≡ e
    by true t = absurd (other (sym (eqb-true r.app e.app (and_parts (r.app == e.app) (same_key r.key e.ask.key) t).0)))
    by false t = refl

pub not_there : (r : Reservation) (es : List AskEntry) (ranges : List AskRange) → AreRanges es ranges → IsRangeOf r.app ranges None → map (beside_one r) es ≡ es
not_there r es ranges are none = same_slices (map (beside_one r) es) es (λ j. slice_get-map (beside_one r) es j ∙ by j (slice_get es j) refl)
  where
    by : (j : ℕ) (o : Option AskEntry) → slice_get es j ≡ o → option_map (beside_one r) o ≡ o
    by j None there = refl
    by j (Some e) there =
        let l = are.each j e (slice_get_within es j e there) there in
        ap (λ x. Some x) (not_for r e (λ same. none e.index l.range l.at (l.app ∙ same)))

-- the asks up to an index have been looked at
abbrev pub IsTakenTo : Reservation → List AskEntry → ℕ → List AskEntry → Type 0
IsTakenTo r old n now = (j : ℕ) → slice_get now j ≡ option_map (λ e. cond (nat_lt j n) (beside_one r e) e) (slice_get old j)

module _ (r : Reservation) (start end : ℕ) (old : List AskEntry) (inside : AreInside old r.app start end) where
  pub none_taken : IsTakenTo r old start old
  none_taken j = by (slice_get old j) refl
    where
      by : (o : Option AskEntry) → slice_get old j ≡ o → o ≡ option_map (λ e. cond (nat_lt j start) (beside_one r e) e) o
      by None there = refl
      by (Some e) there = ap (λ x. Some x) (own (nat_lt j start) refl)
        where
          own : (b : Bool) → nat_lt j start ≡ b → e ≡ cond b (beside_one r e) e
          own true t = sym (not_for r e (λ same. let i = inside j e there same in let s = i.0 in absurd (grind (arith, nat_tests, t, s))))
          own false t = refl

  pub all_taken : (n : ℕ) (now : List AskEntry) → end ≤ n → IsTakenTo r old n now → now ≡ map (beside_one r) old
  all_taken n now past is = same_slices now (map (beside_one r) old) (λ j. is j ∙ by j (slice_get old j) refl ∙ sym (slice_get-map (beside_one r) old j))
    where
      by : (j : ℕ) (o : Option AskEntry) → slice_get old j ≡ o → option_map (λ e. cond (nat_lt j n) (beside_one r e) e) o ≡ option_map (beside_one r) o
      by j None there = refl
      by j (Some e) there = ap (λ x. Some x) (own (nat_lt j n) refl)
        where
          own : (b : Bool) → nat_lt j n ≡ b → cond b (beside_one r e) e ≡ beside_one r e
          own true t = refl
          own false t = sym (not_for r e (λ same. let i = inside j e there same in let s = i.1 in absurd (grind (arith, nat_tests, t, s, past))))
