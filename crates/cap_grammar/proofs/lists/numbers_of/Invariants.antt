use Rattle.cap_grammar.proofs.Prelude.{◌≡◌, ◌-◌, length, w16, w64, counted_at, number_at, numbers_max}
use Rattle.cap_grammar.proofs.ListLaws.{more_at}
use Rattle.cap_grammar.proofs.lists.numbers_of.Given as goal

-- what the rest gives is what the whole gives, and one was read in each turn
abbrev pub invariant-loop-i : goal.invariant-loop-i
invariant-loop-i l = record {
  rest : counted_at (number_at w16) numbers_max (number_at w64) l.bytes ≡ more_at l.numbers.items (l.length - l.i) (number_at w64) l.rest;
  count : length l.numbers.items ≡ l.i;
}
