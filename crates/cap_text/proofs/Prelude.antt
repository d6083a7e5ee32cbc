-- What the proofs here take from elsewhere.
pub use Rattle.std.proofs.Common.{Bool, List, None, Option, Some, [], ap, arith, cond, drop, eq-eqb, eqb, false, get_or, length, length-append, length-drop, lit<, refl, suc, sym, take, take-append-drop, true, zero, ℕ, ◌++◌, ◌+◌, ◌-◌, ◌<◌, ◌^◌, ◌∙◌, ◌∷◌, ◌≡◌, ◌≤◌}
pub use Rattle.std.proofs.Math.Nat.{pow-le-pow_right}
pub use Rattle.std.proofs.lemmas.Bool.{and_parts, eqb-true, false_from_ne_true, not-true}
pub use Rattle.std.proofs.lemmas.Bool.Decides.{nat_tests}
pub use Rattle.std.proofs.lemmas.List.{append_cancel_left, drop_more, take_all}
pub use Rattle.std.proofs.lemmas.List.Quantifiers.{position-Some}
pub use Rattle.std.proofs.lemmas.List.Splits.{length-slice_split, slice_split_at, slice_split_none}
pub use Rattle.std.proofs.lemmas.List.Sums.{AllPass-from_list_all, fails_before_first, position_or_len_is, prefix_len_is, suffix_len_is}
pub use Rattle.std.specs.List.{All, list_all, position, position_or_len, prefix_len, slice_split, suffix_len}
pub use Rattle.std.specs.Prelude.{not}
pub use Rattle.std.specs.Str.Lines.{lines, lines_of_parts, strip_carriage_return}
pub use Rattle.memchr.specs.Find.{IsFirstByte, is_byte}
pub use Rattle.cap_text.specs.Numbers.{decimal, is_digit, is_number}
unfoldable pub use Rattle.cap_text.specs.Numbers.{number_of}
pub use Rattle.cap_text.specs.Pieces.{IsCut, from_first_word, is_space, lacks, to_last_word}
