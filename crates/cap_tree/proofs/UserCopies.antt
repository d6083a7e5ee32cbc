-- The entries of users, copied one after the other.
use Rattle.cap_tree.proofs.Prelude.{◌≡◌, ℕ, false, cond, List, [], ◌∷◌, ◌++◌, refl, sym, ◌∙◌, ap, subst, map, bytes_eq, IsDistinct, AllByRecursion, keys_of, append-nil, map-append, IsDistinct-head, IsDistinct-tail, insert_entry, bytes_turned, Count}

abbrev pub UserEntries : Type 0
UserEntries = List (List ℕ × Count)

at_key : (P : List ℕ → Type 0) (es rest : UserEntries) (k : List ℕ) (v : Count) → AllByRecursion P (keys_of (es ++ (k, v) ∷ rest)) → P k
at_key P [] rest k v a = a.0
at_key P (e ∷ es) rest k v a = at_key P es rest k v a.1

-- an entry whose key none before it has is put behind them
put_last : (es rest : UserEntries) (k : List ℕ) (v : Count) → IsDistinct bytes_eq (keys_of (es ++ (k, v) ∷ rest)) → insert_entry bytes_eq es k v ≡ es ++ (k, v) ∷ []
put_last [] rest k v d = refl
put_last (e ∷ es) rest k v d =
    let other : bytes_eq k e.0 ≡ false = bytes_turned k e.0 ∙ at_key (λ y. bytes_eq e.0 y ≡ false) es rest k v (IsDistinct-head bytes_eq e.0 (keys_of (es ++ (k, v) ∷ rest)) d) in
    ap (λ b. cond b ((e.0, v) ∷ es) (e ∷ insert_entry bytes_eq es k v)) other ∙ ap (λ t. e ∷ t) (put_last es rest k v (IsDistinct-tail bytes_eq e.0 (keys_of (es ++ (k, v) ∷ rest)) d))

module _ {A : Type 0} (shows : A → List ℕ × Count) (all : UserEntries) (distinct : IsDistinct bytes_eq (keys_of all)) where
  -- the entries that were shown so far, and one more
  pub copied_more : (xs : List A) (x : A) (t u copy copy' : UserEntries) → all ≡ map shows xs ++ t → t ≡ shows x ∷ u → copy ≡ map shows xs → copy' ≡ insert_entry bytes_eq copy (shows x).0 (shows x).1 → copy' ≡ map shows (xs ++ x ∷ [])
  copied_more xs x t u copy copy' whole next so_far put =
      let d : IsDistinct bytes_eq (keys_of (map shows xs ++ shows x ∷ u)) = subst (λ es. IsDistinct bytes_eq (keys_of es)) (whole ∙ ap (λ r. map shows xs ++ r) next) distinct in
      put ∙ ap (λ es. insert_entry bytes_eq es (shows x).0 (shows x).1) so_far ∙ put_last (map shows xs) u (shows x).0 (shows x).1 d ∙ sym (map-append shows xs (x ∷ []))

  -- all were shown
  pub copied_all : (xs : List A) (t copy : UserEntries) → all ≡ map shows xs ++ t → t ≡ [] → copy ≡ map shows xs → copy ≡ all
  copied_all xs t copy whole none so_far = so_far ∙ sym (append-nil (map shows xs)) ∙ ap (λ r. map shows xs ++ r) (sym none) ∙ sym whole
