-- The bytes of a path are a text.
use Rattle.std.proofs.Common.{◌≡◌, ℕ, ◌<◌, List, length, true, arith}
use Rattle.std.specs.Prelude.{◌&&◌, nat_lt, nat_le}
use Rattle.std.specs.List.{list_all}
use Rattle.std.specs.Str.{IsUtf8}
use Rattle.std.proofs.lemmas.Bool.{and_parts}
use Rattle.std.proofs.lemmas.Bool.Decides.{nat_tests}
use Rattle.std.proofs.lemmas.List.Elements.{All-weaker}
use Rattle.std.proofs.lemmas.List.Sums.{AllPass-from_list_all}
use Rattle.std.proofs.lemmas.Str.{IsUtf8-from_ascii}
use Rattle.std.proofs.lemmas.Str.Ascii.{IsAscii-from_all}
use Rattle.cap_base.specs.Texts.{is_graphic, is_text}

graphic_is_ascii : (b : ℕ) → is_graphic b ≡ true → b < 128
graphic_is_ascii b h = grind (arith, nat_tests)

pub path_is_text : (bytes : List ℕ) → is_text 255 bytes ≡ true → IsUtf8 bytes
path_is_text bytes h =
    let graphic = (and_parts (nat_lt 0 (length bytes) && nat_le (length bytes) 255) (list_all is_graphic bytes) h).1 in
    IsUtf8-from_ascii bytes (IsAscii-from_all bytes (All-weaker (λ b. is_graphic b ≡ true) (λ b. b < 128) graphic_is_ascii bytes (AllPass-from_list_all is_graphic bytes graphic)))
