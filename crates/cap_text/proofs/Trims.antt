-- Without the spaces at the ends.
use Rattle.cap_text.proofs.Prelude.{◌≡◌, ℕ, ◌-◌, ◌<◌, ◌≤◌, List, length, get_or, take, drop, true, false, sym, ap, ◌∙◌, arith, prefix_len, suffix_len, prefix_len_is, suffix_len_is, is_space, from_first_word, to_last_word}
use Rattle.cap_text.proofs.Cuts.{rest_all}

pub front_trimmed : (bytes : List ℕ) (n : ℕ) → n ≤ length bytes → ((k : ℕ) → k < n → is_space (get_or bytes k 0) ≡ true) → (n < length bytes → is_space (get_or bytes n 0) ≡ false) →
    take (length bytes - n) (drop n bytes) ≡ from_first_word bytes
front_trimmed bytes n h spaces here =
    let is : prefix_len is_space bytes ≡ n = prefix_len_is is_space bytes n 0 h spaces here in
    let whole : take (length bytes - n) (drop n bytes) ≡ drop n bytes = rest_all bytes n in
    whole ∙ sym (ap (λ i. drop i bytes) is)

pub end_trimmed : (bytes : List ℕ) (n : ℕ) → n ≤ length bytes → ((k : ℕ) → n ≤ k → k < length bytes → is_space (get_or bytes k 0) ≡ true) → (0 < n → is_space (get_or bytes (n - 1) 0) ≡ false) →
    take n bytes ≡ to_last_word bytes
end_trimmed bytes n h spaces here =
    let is : suffix_len is_space bytes ≡ length bytes - n = suffix_len_is is_space bytes n 0 h spaces here in
    ap (λ i. take i bytes) (let e : n ≡ length bytes - suffix_len is_space bytes = omega arith in e)
