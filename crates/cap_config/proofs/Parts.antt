-- Pieces between commas.
use Rattle.cap_config.proofs.Prelude.{◌≡◌, ℕ, ◌+◌, List, [], ◌∷◌, length, eqb, Bool, true, false, cond, Option, Some, None, refl, sym, ap, ◌∙◌, map, find, count_by, slice_split, option_map, length-map, length-slice_split, trimmed_bytes, pieces_of}
use denote.Ref.{Bor}

here : (passes : Bool) (piece : List ℕ) (later : Option (List ℕ)) → cond passes (Some (trimmed_bytes piece)) (option_map trimmed_bytes later) ≡ option_map trimmed_bytes (cond passes (Some piece) later)
here true piece later = refl
here false piece later = refl

-- what is found among trimmed pieces is what is found by what they become
find_trimmed : (test : List ℕ → Bool) (pieces : List (List ℕ)) → find test (map trimmed_bytes pieces) ≡ option_map trimmed_bytes (find (λ piece. test (trimmed_bytes piece)) pieces)
find_trimmed test [] = refl
find_trimmed test (piece ∷ pieces) =
    ap (cond (test (trimmed_bytes piece)) (Some (trimmed_bytes piece))) (find_trimmed test pieces) ∙ here (test (trimmed_bytes piece)) piece (find (λ p. test (trimmed_bytes p)) pieces)

trimmed_now : (found : Option (Bor (List ℕ))) → option_map (λ piece. trimmed_bytes piece.now) found ≡ option_map trimmed_bytes (option_map (λ piece. piece.now) found)
trimmed_now (Some piece) = refl
trimmed_now None = refl

pub found_piece : (test : List ℕ → Bool) (bytes : List ℕ) (found : Option (Bor (List ℕ))) →
    option_map (λ piece. piece.now) found ≡ find (λ piece. test (trimmed_bytes piece)) (slice_split (λ b. eqb b 44) bytes) →
    option_map (λ piece. trimmed_bytes piece.now) found ≡ find test (pieces_of bytes)
found_piece test bytes found is = trimmed_now found ∙ ap (option_map trimmed_bytes) is ∙ sym (find_trimmed test (slice_split (λ b. eqb b 44) bytes))

pub count_pieces : (bytes : List ℕ) → length (pieces_of bytes) ≡ count_by (λ b. eqb b 44) bytes + 1
count_pieces bytes = length-map (slice_split (λ b. eqb b 44) bytes) trimmed_bytes ∙ length-slice_split (λ b. eqb b 44) bytes
