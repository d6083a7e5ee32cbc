-- The hosts and the racks of present nodes, as one more node comes, one changes and one goes.
use Rattle.cap_nodes.proofs.Prelude.{◌≡◌, ℕ, ◌+◌, ◌-◌, ◌<◌, Bool, true, false, cond, List, [], ◌∷◌, ◌++◌, map, not, refl, sym, ap, ◌∙◌, arith, subst, zero, suc, Option, Some, None, filter, ◌==◌, ◌||◌, and-false, All, All-from_recursion, AllByRecursion, IsTrue, ◌↔◌, fits, Fits, nat_tests, bytes_eq, count_by, is_some, IsSome, if◌then◌else◌, list_any, sum, sum-map, bytes_eq-Decides, lookup, IsRising, is_text, one_where, nat_lt, count_cons, Load, AreBothTexts, ArePlaces, AreTexts, AreWithin, HasCount, HasNodeLess, HasNodeMore, KeepsPlaces, Places, host_of, rack_of, count_in, load_at, change_load, some_count, could_take, star, fits_amounts, or_left, or_right}
use Rattle.cap_nodes.proofs.Counting.{count_is, counted_back, counted_pushed, counted_removed, has_some, set_is}
use Rattle.cap_nodes.proofs.Numbered.{kept-change}
use Rattle.cap_nodes.proofs.Ties.{all_each}

-- whether some pass a test, by how many do
any_counted : {X : Type 0} (t : X → Bool) (xs : List X) → is_some (some_count (count_by t xs)) ≡ list_any t xs
any_counted t [] = refl
any_counted t (x ∷ xs) = ap (λ n. is_some (some_count n)) (count_cons t x xs) ∙ by (t x) (any_counted t xs)
  where
    by : (b : Bool) → is_some (some_count (count_by t xs)) ≡ list_any t xs → is_some (some_count (cond b 1 0 + count_by t xs)) ≡ (b || list_any t xs)
    by true e = let m : 1 + count_by t xs ≡ suc (count_by t xs) = omega arith in ap (λ n. is_some (some_count n)) m
    by false e = let m : 0 + count_by t xs ≡ count_by t xs = omega arith in ap (λ n. is_some (some_count n)) m ∙ e

any_of_some : {X : Type 0} (t : X → Bool) (xs : List X) → nat_lt 0 (count_by t xs) ≡ list_any t xs
any_of_some t xs = positive (count_by t xs) ∙ any_counted t xs
  where
    positive : (n : ℕ) → nat_lt 0 n ≡ is_some (some_count n)
    positive zero = refl
    positive (suc n) = let some : nat_lt 0 (suc n) ≡ true = grind (arith, nat_tests) in some

own_bytes : (t : List ℕ) → bytes_eq t t ≡ true
own_bytes t = (bytes_eq-Decides t t).1 refl

same_bytes : (s t : List ℕ) → bytes_eq s t ≡ true → s ≡ t
same_bytes s t = (bytes_eq-Decides s t).0

other_bytes : (s t : List ℕ) → bytes_eq t s ≡ false → bytes_eq s t ≡ false
other_bytes s t e = by (bytes_eq s t) refl
  where
    by : (b : Bool) → bytes_eq s t ≡ b → bytes_eq s t ≡ false
    by true h = absurd (cc (sym e ∙ ap (bytes_eq t) (same_bytes s t h) ∙ own_bytes t))
    by false h = h

abbrev pub with_text : (Load → List ℕ) → List ℕ → Load → Bool
with_text text_of t p = bytes_eq (text_of p) t

-- what is no text has no count, once a text has another
texts_set : (old new : List (List ℕ × ℕ)) (t : List ℕ) (count : ℕ) → HasCount bytes_eq t count old new → is_text 64 t ≡ true → ((s : List ℕ) → is_text 64 s ≡ false → lookup (bytes_eq s) old ≡ None) →
    (s : List ℕ) → is_text 64 s ≡ false → lookup (bytes_eq s) new ≡ None
texts_set old new t count set text none s bad = set s ∙ by (bytes_eq t s) refl
  where
    by : (b : Bool) → bytes_eq t s ≡ b → (if b then some_count count else lookup (bytes_eq s) old) ≡ None
    by true e = absurd (cc (sym bad ∙ ap (is_text 64) (sym (same_bytes t s e)) ∙ text))
    by false e = none s bad

-- the hosts, or the racks
module _ (text_of : Load → List ℕ) where
  -- how many have one, by what is kept
  pub kept_count : (entries : List (List ℕ × ℕ)) (loads : List Load) (t : List ℕ) → AreTexts text_of entries loads → count_in bytes_eq entries t ≡ count_by (with_text text_of t) loads
  kept_count entries loads t are = count_is bytes_eq text_of entries loads t are.counts

  -- whether some have it
  pub some_kept : (entries : List (List ℕ × ℕ)) (loads : List Load) (t : List ℕ) → AreTexts text_of entries loads → nat_lt 0 (count_in bytes_eq entries t) ≡ list_any (with_text text_of t) loads
  some_kept entries loads t are = ap (λ n. nat_lt 0 n) (kept_count entries loads t are) ∙ any_of_some (with_text text_of t) loads

  -- what is no text none has
  pub no_text : (entries : List (List ℕ × ℕ)) (loads : List Load) (t : List ℕ) (text : Option (List ℕ)) → AreTexts text_of entries loads → IsSome text ↔ (is_text 64 t ≡ true) → text ≡ None → false ≡ list_any (with_text text_of t) loads
  no_text entries loads t text are shows none =
      ap is_some (sym (are.texts t (by (is_text 64 t) refl)) ∙ are.counts t) ∙ any_counted (with_text text_of t) loads
    where
      by : (b : Bool) → is_text 64 t ≡ b → is_text 64 t ≡ false
      by true e = absurd (cc (sym (ap is_some none) ∙ shows.1 e))
      by false e = e

  -- a count that is raised and set back
  pub texts_back : (old more new : List (List ℕ × ℕ)) (loads : List Load) (t : List ℕ) → AreTexts text_of old loads → HasCount bytes_eq t (count_in bytes_eq old t + 1) old more → HasCount bytes_eq t (count_in bytes_eq more t - 1) more new →
      is_text 64 t ≡ true → AreTexts text_of new loads
  texts_back old more new loads t are up down text =
      let high = set_is bytes_eq text_of own_bytes old more t (count_in bytes_eq old t + 1) up in
      let low = kept_count old loads t are in
      record {
        counts = counted_back bytes_eq text_of own_bytes same_bytes old more new loads t (count_in bytes_eq old t + 1) (count_in bytes_eq more t - 1) are.counts up down (omega (arith, high, low));
        texts = texts_set more new t (count_in bytes_eq more t - 1) down text (texts_set old more t (count_in bytes_eq old t + 1) up text are.texts);
      }

  module _ (p : Load) (t : List ℕ) (its : text_of p ≡ t) where
    -- one more load
    pub text_pushed : (old new : List (List ℕ × ℕ)) (loads : List Load) → AreTexts text_of old loads → HasCount bytes_eq t (count_in bytes_eq old t + 1) old new → is_text 64 t ≡ true → AreTexts text_of new (loads ++ p ∷ [])
    text_pushed old new loads are set text = record {
      counts = counted_pushed bytes_eq text_of own_bytes same_bytes p t its old new loads (count_in bytes_eq old t + 1) are.counts set (ap (λ n. n + 1) (kept_count old loads t are));
      texts = texts_set old new t (count_in bytes_eq old t + 1) set text are.texts;
    }

    -- one that is there, and without it
    module _ (next n : ℕ) (loads : List Load) (rising : IsRising 1 (map (λ q. q.node.number) loads) next) (at : load_at loads n ≡ Some p) where
      pub has_text : (entries : List (List ℕ × ℕ)) → AreTexts text_of entries loads → 0 < count_in bytes_eq entries t
      has_text entries are =
          let some = has_some bytes_eq text_of own_bytes same_bytes p t its (λ (q : Load). q.node.number) next n loads rising at in
          let kept = kept_count entries loads t are in
          omega (arith, some, kept)

      pub text_removed : (old new : List (List ℕ × ℕ)) → AreTexts text_of old loads → HasCount bytes_eq t (count_in bytes_eq old t - 1) old new → is_text 64 t ≡ true →
          AreTexts text_of new (filter (λ q. not (q.node.number == n)) loads)
      text_removed old new are set text = record {
        counts = counted_removed bytes_eq text_of own_bytes same_bytes p t its (λ (q : Load). q.node.number) next n loads rising at old new (count_in bytes_eq old t - 1) are.counts set (ap (λ m. m - 1) (kept_count old loads t are));
        texts = texts_set old new t (count_in bytes_eq old t - 1) set text are.texts;
      }

  texts_stay : (entries : List (List ℕ × ℕ)) (n : ℕ) (change : Load → Load) → ((p : Load) → text_of (change p) ≡ text_of p) → (loads : List Load) → AreTexts text_of entries loads → AreTexts text_of entries (change_load n change loads)
  texts_stay entries n change keeps loads are = record {
    counts = λ t.
        let one = λ (p : Load). one_where (bytes_eq (text_of p) t) in
        are.counts t
        ∙ ap some_count (sym (sym (sum-map one (change_load n change loads)) ∙ ap sum (kept-change (λ (p : Load). p.node.number) one n change (λ p. ap (λ x. one_where (bytes_eq x t)) (keeps p)) loads) ∙ sum-map one loads));
    texts = are.texts;
  }

-- both
pub places_back : (host rack : List ℕ) (old new : Places) (more : List (List ℕ × ℕ)) → HasCount bytes_eq host (count_in bytes_eq old.hosts host + 1) old.hosts more → HasCount bytes_eq host (count_in bytes_eq more host - 1) more new.hosts →
    new.racks ≡ old.racks → AreBothTexts host rack → KeepsPlaces old new
places_back host rack old new more up down same both loads are = record {
  hosts = texts_back host_of old.hosts more new.hosts loads host are.hosts up down both.of_host;
  racks = subst (λ rs. AreTexts rack_of rs loads) (sym same) are.racks;
}

pub places_stay : (places : Places) (n : ℕ) (change : Load → Load) → ((p : Load) → host_of (change p) ≡ host_of p) → ((p : Load) → rack_of (change p) ≡ rack_of p) → (loads : List Load) → ArePlaces places loads →
    ArePlaces places (change_load n change loads)
places_stay places n change host rack loads are = record {
  hosts = texts_stay host_of places.hosts n change host loads are.hosts;
  racks = texts_stay rack_of places.racks n change rack loads are.racks;
}

module _ (p : Load) (host rack : List ℕ) (here : p.node.host ≡ host) (there : p.node.rack ≡ rack) (both : AreBothTexts host rack) where
  pub places_pushed : (old new : Places) (loads : List Load) → ArePlaces old loads → HasNodeMore host rack old new → ArePlaces new (loads ++ p ∷ [])
  places_pushed old new loads are more = record {
    hosts = text_pushed host_of p host here old.hosts new.hosts loads are.hosts more.hosts both.of_host;
    racks = text_pushed rack_of p rack there old.racks new.racks loads are.racks more.racks both.of_rack;
  }

  pub places_removed : (next n : ℕ) (loads : List Load) → IsRising 1 (map (λ q. q.node.number) loads) next → load_at loads n ≡ Some p → (old new : Places) → ArePlaces old loads → HasNodeLess host rack old new →
      ArePlaces new (filter (λ q. not (q.node.number == n)) loads)
  places_removed next n loads rising at old new are less = record {
    hosts = text_removed host_of p host here next n loads rising at old.hosts new.hosts are.hosts less.hosts both.of_host;
    racks = text_removed rack_of p rack there next n loads rising at old.racks new.racks are.racks less.racks both.of_rack;
  }

-- no node takes an ask that is larger than all, or is for a place that none has
module _ (place resource : List ℕ) where
  abbrev Untaken : Load → Type 0
  Untaken p = could_take place resource p.node ≡ false

  pub none_as_large : (greatest : List ℕ) (loads : List Load) (b : Bool) → AreWithin greatest loads → (IsTrue b ↔ Fits resource greatest) → b ≡ false → All Untaken loads
  none_as_large greatest loads b within tests off = All-from_recursion Untaken loads (all_each (λ (p : Load). Fits p.node.total greatest) Untaken loads (λ p low. by p low (fits resource p.node.total) refl) within)
    where
      by : (p : Load) → Fits p.node.total greatest → (c : Bool) → fits resource p.node.total ≡ c → Untaken p
      by p low true e = absurd (cc (sym off ∙ tests.1 (λ k. let x = fits_amounts resource p.node.total e k in let y = low k in omega (arith, x, y))))
      by p low false e = rw e (and-false (bytes_eq place (star ∷ []) || bytes_eq place p.node.host || bytes_eq place p.node.rack))

  none_at : (loads : List Load) → bytes_eq place (star ∷ []) ≡ false → list_any (with_text host_of place) loads ≡ false → list_any (with_text rack_of place) loads ≡ false → AllByRecursion Untaken loads
  none_at [] any hosts racks = tt
  none_at (p ∷ loads) any hosts racks =
      let host = other_bytes place p.node.host (or_left (with_text host_of place p) (list_any (with_text host_of place) loads) hosts) in
      let rack = other_bytes place p.node.rack (or_left (with_text rack_of place p) (list_any (with_text rack_of place) loads) racks) in (
        rw (any, host, rack) refl,
        none_at loads any (or_right (with_text host_of place p) (list_any (with_text host_of place) loads) hosts) (or_right (with_text rack_of place p) (list_any (with_text rack_of place) loads) racks),
      )

  none_of_three : (a b c : Bool) → (a || b || c) ≡ false → (a ≡ false) × (b ≡ false) × (c ≡ false)
  none_of_three false false false e = (refl, refl, refl)
  none_of_three true b c e = absurd (cc e)
  none_of_three false true c e = absurd (cc e)
  none_of_three false false true e = absurd (cc e)

  pub none_there : (places : Places) (loads : List Load) (b : Bool) → ArePlaces places loads → b ≡ (bytes_eq place (star ∷ []) || nat_lt 0 (count_in bytes_eq places.hosts place) || nat_lt 0 (count_in bytes_eq places.racks place)) → b ≡ false → All Untaken loads
  none_there places loads b are is off =
      let three = none_of_three (bytes_eq place (star ∷ [])) (nat_lt 0 (count_in bytes_eq places.hosts place)) (nat_lt 0 (count_in bytes_eq places.racks place)) (sym is ∙ off) in
      All-from_recursion Untaken loads (none_at loads three.0 (sym (some_kept host_of places.hosts loads place are.hosts) ∙ three.1) (sym (some_kept rack_of places.racks loads place are.racks) ∙ three.2))
