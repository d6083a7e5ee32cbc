-- Printable bytes.
use Rattle.cap_config.proofs.Prelude.{◌≡◌, ℕ, ◌<◌, List, true, arith, list_all, IsUtf8, nat_tests, All-weaker, AllPass-from_list_all, IsUtf8-from_ascii, IsAscii-from_all, is_printable}

printable_is_ascii : (b : ℕ) → is_printable b ≡ true → b < 128
printable_is_ascii b h = grind (arith, nat_tests)

-- printable bytes are a text
pub printable_is_text : (bytes : List ℕ) → list_all is_printable bytes ≡ true → IsUtf8 bytes
printable_is_text bytes h =
    IsUtf8-from_ascii bytes (IsAscii-from_all bytes (All-weaker (λ b. is_printable b ≡ true) (λ b. b < 128) printable_is_ascii bytes (AllPass-from_list_all is_printable bytes h)))
