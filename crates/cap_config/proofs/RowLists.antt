-- The rows of a queue and those under it.
use Rattle.cap_config.proofs.Prelude.{◌≡◌, ℕ, suc, ◌≤◌, List, ◌∷◌, ◌++◌, length, take, refl, sym, ap, ◌∙◌, flat_map, append-nil, take_all, QueueRow, Entry, child, names_below, rows_under, row_of}

pub rows_none : (old : List QueueRow) (levels : ℕ) (entries : List Entry) (path : List ℕ) → levels ≡ 0 → old ≡ old ++ rows_under levels entries path
unfolding rows_under
rows_none old levels entries path e = rw e (sym (append-nil old))

pub rows_more : (levels n : ℕ) (entries : List Entry) (path : List ℕ) (names : List (List ℕ)) → levels ≡ suc n → names ≡ names_below entries path →
    rows_under levels entries path ≡ row_of entries path ∷ flat_map (λ name. rows_under n entries (child path name)) names
unfolding rows_under
rows_more levels n entries path names e is = rw (e, is) refl

pub rows_all : (levels n i : ℕ) (entries : List Entry) (path : List ℕ) (names : List (List ℕ)) (old rows : List QueueRow) → levels ≡ suc n → length names ≤ i → names ≡ names_below entries path →
    rows ≡ old ++ row_of entries path ∷ flat_map (λ name. rows_under n entries (child path name)) (take i names) → rows ≡ old ++ rows_under levels entries path
rows_all levels n i entries path names old rows e h is so_far =
    so_far
    ∙ ap (λ (ns : List (List ℕ)). old ++ row_of entries path ∷ flat_map (λ name. rows_under n entries (child path name)) ns) (take_all i names h)
    ∙ ap (λ (rs : List QueueRow). old ++ rs) (sym (rows_more levels n entries path names e is))
