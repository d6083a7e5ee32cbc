-- The last name of a path.
use Rattle.cap_tree.proofs.Prelude.{◌≡◌, ℕ, zero, suc, ◌<◌, Bool, true, false, List, [], ◌∷◌, length, length-drop, take, drop, get_or, refl, sym, ◌∙◌, ap, subst, inl, inr, ◌⊎◌, ◌-◌, ◌≤◌, arith, cond, ◌==◌, ◌||◌, list_any, eq-eqb, ne_eqb, take_all, name_of}

abbrev pub has_dot : List ℕ → Bool
has_dot path = list_any (λ x. x == 46) path

-- without a dot it is the path itself
name_whole : (path : List ℕ) → has_dot path ≡ false → name_of path ≡ path
name_whole [] h = refl
name_whole (b ∷ path) h = ap (λ c. cond c (name_of path) (b ∷ path)) h

dot_later : (b : Bool) → (b || true) ≡ true
dot_later true = refl
dot_later false = refl

dot_at : (path : List ℕ) (i : ℕ) → i < length path → (get_or path i 0 == 46) ≡ true → has_dot path ≡ true
dot_at [] i h e = absurd (omega arith)
dot_at (b ∷ path) zero h e = ap (λ c. c || has_dot path) e
dot_at (b ∷ path) (suc i) h e = ap (λ c. (b == 46) || c) (dot_at path i (omega arith) e) ∙ dot_later (b == 46)

-- no dot is at a byte or after it, where the byte is none and none comes after it
pub no_dot_from : (path : List ℕ) (i : ℕ) → i < length path → (get_or path i 0 == 46) ≡ false → has_dot (drop (suc i) path) ≡ false → has_dot (drop i path) ≡ false
no_dot_from [] i h e n = absurd (omega arith)
no_dot_from (b ∷ path) zero h e n = ap (λ c. c || has_dot path) e ∙ n
no_dot_from (b ∷ path) (suc i) h e n = no_dot_from path i (omega arith) e n

-- after a dot with none after it comes the last name
pub name_after : (path : List ℕ) (i : ℕ) → i < length path → (get_or path i 0 == 46) ≡ true → has_dot (drop (suc i) path) ≡ false → name_of path ≡ drop (suc i) path
name_after [] i h e n = absurd (omega arith)
name_after (b ∷ path) zero h e n = ap (λ c. cond c (name_of path) (b ∷ path)) (dot_at (b ∷ path) zero h e) ∙ name_whole path n
name_after (b ∷ path) (suc i) h e n = ap (λ c. cond c (name_of path) (b ∷ path)) (dot_at (b ∷ path) (suc i) h e) ∙ name_after path i (omega arith) e n

-- so it is on the way back from the end of a path
pub dotless_before : (path : List ℕ) (start : ℕ) → 0 < start → start ≤ length path → (get_or path (start - 1) 0 ≡ 46 → ⊥) → has_dot (drop start path) ≡ false → has_dot (drop (start - 1) path) ≡ false
dotless_before path zero p w ne n = absurd (omega arith)
dotless_before path (suc i) p w ne n =
    let e : suc i - 1 ≡ i = omega arith in
    subst (λ k. has_dot (drop k path) ≡ false) (sym e) (no_dot_from path i (omega arith) (ne_eqb (get_or path i 0) 46 (λ q. ne (ap (λ k. get_or path k 0) e ∙ q))) n)

pub name_at_end : (path : List ℕ) (start : ℕ) → start ≤ length path → has_dot (drop start path) ≡ false → start ≡ 0 ⊎ ((0 < start) × (get_or path (start - 1) 0 ≡ 46)) → take (length path - start) (drop start path) ≡ name_of path
name_at_end path start w n found = take_all (length path - start) (drop start path) (let l = length-drop start path in omega (arith, l)) ∙ sym (by start w n found)
  where
    by : (k : ℕ) → k ≤ length path → has_dot (drop k path) ≡ false → k ≡ 0 ⊎ ((0 < k) × (get_or path (k - 1) 0 ≡ 46)) → name_of path ≡ drop k path
    by zero w n f = name_whole path n
    by (suc i) w n (inl z) = absurd (omega arith)
    by (suc i) w n (inr f) =
        let e : suc i - 1 ≡ i = omega arith in
        name_after path i (omega arith) (eq-eqb (get_or path i 0) 46 (sym (ap (λ k. get_or path k 0) e) ∙ f.1)) n
