-- A queue of a tree is found by its path.
use Rattle.cap_copy.proofs.Prelude.{◌≡◌, ℕ, Bool, true, false, cond, List, [], ◌∷◌, refl, sym, ◌∙◌, ap, subst, inl, inr, Some, bytes_eq, find, list_any, bytes_eq-Decides, QueueRow, HasDistinctPaths, IsIn, bytes_itself, or_left, or_right, Row, queues_of}

not_among : (rows : List Row) (path : List ℕ) (r : Row) → list_any (λ (q : QueueRow). bytes_eq q.path path) (queues_of rows) ≡ false → IsIn r rows → bytes_eq r.path path ≡ false
not_among [] path r h m = absurd m
not_among (x ∷ rows) path r h (inl e) = subst (λ (y : Row). bytes_eq y.path path ≡ false) e (or_left (bytes_eq x.path path) (list_any (λ (q : QueueRow). bytes_eq q.path path) (queues_of rows)) h)
not_among (x ∷ rows) path r h (inr m) = not_among rows path r (or_right (bytes_eq x.path path) (list_any (λ (q : QueueRow). bytes_eq q.path path) (queues_of rows)) h) m

pub row_found : (rows : List Row) → HasDistinctPaths (queues_of rows) → (r : Row) → IsIn r rows → find (λ (x : Row). bytes_eq x.path r.path) rows ≡ Some r
row_found [] d r m = absurd m
row_found (x ∷ rows) d r (inl e) = subst (λ (y : Row). find (λ (z : Row). bytes_eq z.path y.path) (x ∷ rows) ≡ Some y) e (ap (λ b. cond b (Some x) (find (λ (z : Row). bytes_eq z.path x.path) rows)) (bytes_itself x.path))
row_found (x ∷ rows) d r (inr m) = by (bytes_eq x.path r.path) refl (row_found rows d.1 r m)
  where
    by : (b : Bool) → bytes_eq x.path r.path ≡ b → find (λ (z : Row). bytes_eq z.path r.path) rows ≡ Some r → cond (bytes_eq x.path r.path) (Some x) (find (λ (z : Row). bytes_eq z.path r.path) rows) ≡ Some r
    by true e f =
        let no = not_among rows x.path r d.0 m in
        let yes : bytes_eq r.path x.path ≡ true = (bytes_eq-Decides r.path x.path).1 (sym ((bytes_eq-Decides x.path r.path).0 e)) in
        absurd (cc (no, yes))
    by false e f = ap (λ b. cond b (Some x) (find (λ (z : Row). bytes_eq z.path r.path) rows)) e ∙ f
