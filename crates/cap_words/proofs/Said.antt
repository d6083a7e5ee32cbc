-- What is said of GPUs, and of each amount over its limit.
use Rattle.std.proofs.Common.{◌≡◌, ℕ, List, ◌++◌, append_assoc, eqb, refl, sym, ap, ◌∙◌}
use Rattle.std.specs.Prelude.{◌≢◌, codes, decimal}
use Rattle.std.proofs.lemmas.Bool.{eqb-true, false_from_ne_true}
use Rattle.cap_vector.specs.Vector.{amount}
use Rattle.cap_words.specs.Amounts.{gpus_words, over_words}
use Rattle.cap_words.specs.Faults.{each_over}

gpus_said : (unsaid gpus : ℕ) → gpus ≢ unsaid → gpus_words unsaid gpus ≡ codes ",yarn.io/gpu=" ++ decimal gpus
unfolding gpus_words
gpus_said unsaid gpus other = rw (false_from_ne_true (eqb gpus unsaid) (λ h. other (eqb-true gpus unsaid h))) refl

-- words with two more pieces, one after the other
both_put : (old first second one two : List ℕ) → one ≡ old ++ first → two ≡ one ++ second → two ≡ old ++ (first ++ second)
both_put old first second one two o t = t ∙ ap (λ (x : List ℕ). x ++ second) o ∙ append_assoc old first second

pub gpus_put : (unsaid gpus : ℕ) (old named all : List ℕ) → gpus ≢ unsaid → named ≡ old ++ codes ",yarn.io/gpu=" → all ≡ named ++ decimal gpus → all ≡ old ++ gpus_words unsaid gpus
gpus_put unsaid gpus old named all other n a =
    both_put old (codes ",yarn.io/gpu=") (decimal gpus) named all n a ∙ ap (λ (x : List ℕ). old ++ x) (sym (gpus_said unsaid gpus other))

pub each_put : (amounts most old one two three : List ℕ) → one ≡ old ++ over_words (codes ", memory ") (amount amounts 0) (amount most 0) →
    two ≡ one ++ over_words (codes ", vcores ") (amount amounts 1) (amount most 1) → three ≡ two ++ over_words (codes ", yarn.io/gpu ") (amount amounts 2) (amount most 2) →
    three ≡ old ++ each_over amounts most
unfolding each_over
each_put amounts most old one two three o t e =
    let memory = over_words (codes ", memory ") (amount amounts 0) (amount most 0) in
    let vcores = over_words (codes ", vcores ") (amount amounts 1) (amount most 1) in
    let gpus = over_words (codes ", yarn.io/gpu ") (amount amounts 2) (amount most 2) in
    both_put old (memory ++ vcores) gpus two three (both_put old memory vcores one two o t) e
