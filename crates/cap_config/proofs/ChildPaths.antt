-- The path of a queue below another, put together in an array of dots.
use Rattle.cap_config.proofs.Prelude.{◌≡◌, ℕ, zero, suc, ◌+◌, ◌-◌, ◌<◌, ◌≤◌, List, [], ◌∷◌, ◌++◌, length, take, drop, replicate, true, refl, ap, ◌∙◌, arith, nat_tests, is_text, take-append-add, drop-replicate, length-replicate, take-put_mid, child}
use Rattle.std.proofs.lemmas.List.{append_assoc, length-append}
use borrow.Rule.Slice.PartMut.{put_mid}

one : (n : ℕ) → 0 < n → take {A = ℕ} 1 (replicate n 46) ≡ 46 ∷ []
one zero h = absurd (omega arith)
one (suc n) h = refl

dot_after : (path : List ℕ) → length path ≤ 255 → take (length path + 1) (path ++ drop (length path) (replicate 320 46)) ≡ path ++ 46 ∷ []
dot_after path h =
    take-append-add path (drop (length path) (replicate 320 46)) 1
    ∙ ap (λ (x : List ℕ). path ++ take 1 x) (drop-replicate (length path) 320 46)
    ∙ ap (λ (x : List ℕ). path ++ x) (one (320 - length path) (omega arith))

room : (path : List ℕ) → length path ≤ 255 → length path + 1 ≤ length (path ++ drop (length path) (replicate 320 46))
room path h =
    let whole = length-append path (drop (length path) (replicate 320 46)) in
    let rest = ap (λ (x : List ℕ). length x) (drop-replicate (length path) 320 46) ∙ length-replicate (320 - length path) 46 in
    omega (arith, whole, rest, h)

text_length : (path : List ℕ) → is_text 255 path ≡ true → length path ≤ 255
text_length path h = grind (arith, nat_tests)

pub child_put : (path name parent own first last : List ℕ) (k : ℕ) → is_text 255 path ≡ true → parent ≡ path → own ≡ name → first ≡ parent → last ≡ own →
    take (length parent + 1 + length own) (put_mid (length parent + 1) k (first ++ drop (length parent) (replicate 320 46)) last) ≡ child path name
child_put path name parent own first last k text p o f l =
    let short = text_length path text in
    rw (f, l, p, o)
    (take-put_mid (length path + 1) k (path ++ drop (length path) (replicate 320 46)) name (length path + 1 + length name) refl (room path short)
    ∙ ap (λ (x : List ℕ). x ++ name) (dot_after path short)
    ∙ append_assoc path (46 ∷ []) name)
