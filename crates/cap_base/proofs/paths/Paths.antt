-- Dotted paths: what is under what, and the names of children.
use Rattle.cap_base.proofs.Prelude.{◌≡◌, ℕ, ◌+◌, Bool, true, false, List, [], ◌∷◌, ◌++◌, refl, sym, ◌∙◌, ap, subst, inl, inr, arith, ◌⊎◌, Some, IsSome, cond, ◌||◌, ◌==◌, find, length, drop, bytes_eq, nat_eq, count_by, if◌then◌else◌, slice_index, list_any, starts_with, sum_by, nat_tests, bytes_eq-Decides, append_cancel_left, list_any-append, sum_by-cons, QueueRow, is_under, is_child_of, name_of, HasDistinctPaths, UnderByPath, and_parts, or_from, cases_Bool, and_from}
use Rattle.std.proofs.lemmas.List.{append_assoc}
use Rattle.cap_base.proofs.lists.Tests.{or_left, or_right}

-- a list that begins with another

begins : (p s : List ℕ) → starts_with nat_eq s p ≡ true → s ≡ p ++ drop (length p) s
begins [] s h = refl
begins (b ∷ p) [] h = absurd (cc h)
begins (b ∷ p) (c ∷ s) h =
    let both = and_parts (nat_eq b c) (starts_with nat_eq s p) h in
    let same : c ≡ b = (let t = both.0 in grind (arith, nat_tests, t)) in
    λ i. same i ∷ begins p s (both.1) i

begins_with : (p rest : List ℕ) → starts_with nat_eq (p ++ rest) p ≡ true
begins_with [] rest = nothing rest
  where
    nothing : (s : List ℕ) → starts_with nat_eq s [] ≡ true
    nothing [] = refl
    nothing (b ∷ s) = refl
begins_with (b ∷ p) rest = and_from (nat_eq b b) (starts_with nat_eq (p ++ rest) p) (grind (arith, nat_tests)) (begins_with p rest)

either_true : (a b : Bool) → a || b ≡ true → (a ≡ true) ⊎ (b ≡ true)
either_true true b h = inl refl
either_true false b h = inr h

or_first : (a b : Bool) → a ≡ true → a || b ≡ true
or_first true b h = refl
or_first false b h = absurd (cc h)

or_second : (a b : Bool) → b ≡ true → a || b ≡ true
or_second true b h = refl
or_second false b h = h

-- a queue is under another: it has the other's path, or a path that begins with it and a dot
abbrev pub IsUnder : List ℕ → List ℕ → Type 0
IsUnder path queue = (queue ≡ path) ⊎ ((rest : List ℕ) × (queue ≡ path ++ 46 ∷ rest))

pub under_is : (path queue : List ℕ) → is_under path queue ≡ true → IsUnder path queue
under_is path queue h = elim (either_true (bytes_eq path queue) (starts_with nat_eq queue (path ++ 46 ∷ [])) h) [
  | inl e ↦ inl (sym ((bytes_eq-Decides path queue).0 e))
  | inr e ↦ inr (drop (length (path ++ 46 ∷ [])) queue, begins (path ++ 46 ∷ []) queue e ∙ append_assoc path (46 ∷ []) (drop (length (path ++ 46 ∷ [])) queue))
]

pub is_under_it : (path queue : List ℕ) → IsUnder path queue → is_under path queue ≡ true
is_under_it path queue (inl e) = or_first (bytes_eq path queue) (starts_with nat_eq queue (path ++ 46 ∷ [])) ((bytes_eq-Decides path queue).1 (sym e))
is_under_it path queue (inr (rest, e)) =
    or_second (bytes_eq path queue) (starts_with nat_eq queue (path ++ 46 ∷ []))
    (ap (λ q. starts_with nat_eq q (path ++ 46 ∷ [])) (e ∙ sym (append_assoc path (46 ∷ []) rest)) ∙ begins_with (path ++ 46 ∷ []) rest)

pub under_itself : (path : List ℕ) → is_under path path ≡ true
under_itself path = is_under_it path path (inl refl)

pub under_by_path : UnderByPath
under_by_path path queue = (under_is path queue, is_under_it path queue)

-- names: what stands before the first dot, and after the last

abbrev pub has_dot : List ℕ → Bool
has_dot name = list_any (λ b. b == 46) name

-- what stands before the first dot
abbrev pub before_dot : List ℕ → List ℕ
before_dot [] = []
before_dot (b ∷ bs) = if b == 46 then [] else b ∷ before_dot bs

pub before_no_dot : (name : List ℕ) → has_dot name ≡ false → before_dot name ≡ name
before_no_dot [] h = refl
before_no_dot (b ∷ name) h =
    ap (λ c. cond c [] (b ∷ before_dot name)) (or_left (b == 46) (has_dot name) h) ∙ ap (λ n. b ∷ n) (before_no_dot name (or_right (b == 46) (has_dot name) h))

before_first_dot : (name rest : List ℕ) → has_dot name ≡ false → before_dot (name ++ 46 ∷ rest) ≡ name
before_first_dot [] rest h = refl
before_first_dot (b ∷ name) rest h =
    ap (λ c. cond c [] (b ∷ before_dot (name ++ 46 ∷ rest))) (or_left (b == 46) (has_dot name) h)
    ∙ ap (λ n. b ∷ n) (before_first_dot name rest (or_right (b == 46) (has_dot name) h))

before_has_none : (bs : List ℕ) → has_dot (before_dot bs) ≡ false
before_has_none [] = refl
before_has_none (b ∷ bs) = by (b == 46) refl (before_has_none bs)
  where
    by : (c : Bool) → b == 46 ≡ c → has_dot (before_dot bs) ≡ false → has_dot (cond c [] (b ∷ before_dot bs)) ≡ false
    by true e r = refl
    by false e r = or_from (b == 46) (has_dot (before_dot bs)) e r

-- a list is its first name, or goes on after it with a dot
first_name : (bs : List ℕ) → (bs ≡ before_dot bs) ⊎ ((rest : List ℕ) × (bs ≡ before_dot bs ++ 46 ∷ rest))
first_name [] = inl refl
first_name (b ∷ bs) = by (b == 46) refl (first_name bs)
  where
    by : (c : Bool) → b == 46 ≡ c → ((bs ≡ before_dot bs) ⊎ ((rest : List ℕ) × (bs ≡ before_dot bs ++ 46 ∷ rest))) →
        (b ∷ bs ≡ cond c [] (b ∷ before_dot bs)) ⊎ ((rest : List ℕ) × (b ∷ bs ≡ cond c [] (b ∷ before_dot bs) ++ 46 ∷ rest))
    by true e r = inr (bs, let same : b ≡ 46 = grind (arith, nat_tests, e) in ap (λ n. n ∷ bs) same)
    by false e (inl r) = inl (ap (λ n. b ∷ n) r)
    by false e (inr (rest, r)) = inr (rest, ap (λ n. b ∷ n) r)

pub name_has_none : (path : List ℕ) → has_dot (name_of path) ≡ false
name_has_none [] = refl
name_has_none (b ∷ path) = by (has_dot (b ∷ path)) refl (name_has_none path)
  where
    by : (c : Bool) → has_dot (b ∷ path) ≡ c → has_dot (name_of path) ≡ false → has_dot (cond c (name_of path) (b ∷ path)) ≡ false
    by true e r = r
    by false e r = e

name_itself : (name : List ℕ) → has_dot name ≡ false → name_of name ≡ name
name_itself [] h = refl
name_itself (b ∷ name) h = ap (λ c. cond c (name_of name) (b ∷ name)) h

pub dot_in : (path name : List ℕ) → has_dot (path ++ 46 ∷ name) ≡ true
dot_in path name = list_any-append (λ b. b == 46) path (46 ∷ name) ∙ or_second (has_dot path) true refl

-- the name of a child
child_name : (path name : List ℕ) → has_dot name ≡ false → name_of (path ++ 46 ∷ name) ≡ name
child_name [] name h = name_itself name h
child_name (b ∷ path) name h = ap (λ c. cond c (name_of (path ++ 46 ∷ name)) (b ∷ (path ++ 46 ∷ name))) (dot_in (b ∷ path) name) ∙ child_name path name h

-- the child of a queue that leads to another under it
abbrev pub child_to : List ℕ → List ℕ → List ℕ
child_to path rest = path ++ 46 ∷ before_dot rest

pub its_child : (path rest : List ℕ) → is_child_of path (child_to path rest) ≡ true
its_child path rest =
    (bytes_eq-Decides (child_to path rest) (path ++ 46 ∷ name_of (child_to path rest))).1
    (ap (λ n. path ++ 46 ∷ n) (sym (child_name path (before_dot rest) (before_has_none rest))))

pub child_leads : (path rest : List ℕ) → IsUnder (child_to path rest) (path ++ 46 ∷ rest)
child_leads path rest = elim (first_name rest) [
  | inl e ↦ inl (ap (λ n. path ++ 46 ∷ n) e)
  | inr (more, e) ↦ inr (more, ap (λ n. path ++ 46 ∷ n) e ∙ sym (append_assoc path (46 ∷ before_dot rest) (46 ∷ more)))
]

pub head_is : (a b : ℕ) (xs ys : List ℕ) → a ∷ xs ≡ b ∷ ys → a ≡ b
head_is a b xs ys e = ap (λ l. slice_index l 0) e

pub tail_is : (a b : ℕ) (xs ys : List ℕ) → a ∷ xs ≡ b ∷ ys → xs ≡ ys
tail_is a b xs ys e = ap (drop 1) e

-- it is the only one
pub only_child : (path child rest : List ℕ) → is_child_of path child ≡ true → IsUnder child (path ++ 46 ∷ rest) → child ≡ child_to path rest
only_child path child rest c u =
    let is : child ≡ path ++ 46 ∷ name_of child = (bytes_eq-Decides child (path ++ 46 ∷ name_of child)).0 c in
    is ∙ ap (λ n. path ++ 46 ∷ n) (sym (by is u))
  where
    by : child ≡ path ++ 46 ∷ name_of child → IsUnder child (path ++ 46 ∷ rest) → before_dot rest ≡ name_of child
    by is (inl e) =
        let same : rest ≡ name_of child = tail_is 46 46 rest (name_of child) (append_cancel_left path (46 ∷ rest) (46 ∷ name_of child) (e ∙ is)) in
        ap before_dot same ∙ before_no_dot (name_of child) (name_has_none child)
    by is (inr (more, e)) =
        let whole : path ++ 46 ∷ rest ≡ path ++ 46 ∷ (name_of child ++ 46 ∷ more) = e ∙ ap (λ x. x ++ 46 ∷ more) is ∙ append_assoc path (46 ∷ name_of child) (46 ∷ more) in
        let same : rest ≡ name_of child ++ 46 ∷ more = tail_is 46 46 rest (name_of child ++ 46 ∷ more) (append_cancel_left path (46 ∷ rest) (46 ∷ (name_of child ++ 46 ∷ more)) whole) in
        ap before_dot same ∙ before_first_dot (name_of child) more (name_has_none child)

-- what is under a child is under its parent
pub under_parent : (path child queue : List ℕ) → is_child_of path child ≡ true → IsUnder child queue → (rest : List ℕ) × (queue ≡ path ++ 46 ∷ rest)
under_parent path child queue c (inl e) = (name_of child, e ∙ (bytes_eq-Decides child (path ++ 46 ∷ name_of child)).0 c)
under_parent path child queue c (inr (rest, e)) = (
  name_of child ++ 46 ∷ rest,
  e ∙ ap (λ x. x ++ 46 ∷ rest) ((bytes_eq-Decides child (path ++ 46 ∷ name_of child)).0 c) ∙ append_assoc path (46 ∷ name_of child) (46 ∷ rest),
)

-- a path that is there stands once
pub counted_once : (path : List ℕ) (qs : List QueueRow) → HasDistinctPaths qs → IsSome (find (λ r. bytes_eq r.path path) qs) → count_by (λ (r : QueueRow). bytes_eq r.path path) qs ≡ 1
counted_once path [] d h = absurd (cc h)
counted_once path (q ∷ qs) d h = by (cases_Bool (bytes_eq q.path path)) (counted_once path qs d.1)
  where
    test : QueueRow → Bool
    test r = bytes_eq r.path path

    one_where : Bool → ℕ
    one_where b = cond b 1 0

    first : count_by (λ (r : QueueRow). bytes_eq r.path path) (q ∷ qs) ≡ one_where (bytes_eq q.path path) + count_by (λ (r : QueueRow). bytes_eq r.path path) qs
    first = sum_by-cons (λ (r : QueueRow). one_where (bytes_eq r.path path)) q qs

    by : ((bytes_eq q.path path ≡ true) ⊎ (bytes_eq q.path path ≡ false)) → (IsSome (find (λ r. bytes_eq r.path path) qs) → count_by (λ (r : QueueRow). bytes_eq r.path path) qs ≡ 1) →
        count_by (λ (r : QueueRow). bytes_eq r.path path) (q ∷ qs) ≡ 1
    by (inl e) f =
        let here : one_where (bytes_eq q.path path) ≡ 1 = ap one_where e in
        let same : q.path ≡ path = (bytes_eq-Decides q.path path).0 e in
        let none : count_by (λ (r : QueueRow). bytes_eq r.path path) qs ≡ 0 = no_more qs (subst (λ p. list_any (λ (r : QueueRow). bytes_eq r.path p) qs ≡ false) same d.0) in
        omega (arith, first, here, none)
      where
        no_more : (rs : List QueueRow) → list_any (λ (r : QueueRow). bytes_eq r.path path) rs ≡ false → count_by (λ (r : QueueRow). bytes_eq r.path path) rs ≡ 0
        no_more [] g = refl
        no_more (r ∷ rs) g =
            let away : one_where (bytes_eq r.path path) ≡ 0 = ap one_where (or_left (bytes_eq r.path path) (list_any (λ (x : QueueRow). bytes_eq x.path path) rs) g) in
            let rest = no_more rs (or_right (bytes_eq r.path path) (list_any (λ (x : QueueRow). bytes_eq x.path path) rs) g) in
            omega (arith, sum_by-cons (λ (x : QueueRow). one_where (bytes_eq x.path path)) r rs, away, rest)
    by (inr e) f =
        let here : one_where (bytes_eq q.path path) ≡ 0 = ap one_where e in
        let rest = f (sym (ap (λ b. Rattle.std.specs.Option.is_some (cond b (Some q) (find (λ (r : QueueRow). bytes_eq r.path path) qs))) e) ∙ h) in
        omega (arith, first, here, rest)
