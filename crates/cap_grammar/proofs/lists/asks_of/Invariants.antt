use Rattle.cap_grammar.proofs.Prelude.{◌≡◌, ◌-◌, length, w16, number_at, counted_at, an_ask, asks_max, resources, amounts_in}
use Rattle.cap_grammar.proofs.ListLaws.{more_at}
use Rattle.cap_grammar.proofs.lists.asks_of.Given as goal

-- what the rest gives is what the whole gives, and one was read in each turn
abbrev pub invariant-loop-i : goal.invariant-loop-i
invariant-loop-i l = record {
  rest : counted_at (number_at w16) asks_max (an_ask resources (amounts_in l.version)).read l.bytes ≡ more_at l.asks.items (l.length - l.i) (an_ask resources (amounts_in l.version)).read l.rest;
  count : length l.asks.items ≡ l.i;
}
