use Rattle.cap_grammar.proofs.Prelude.{◌≡◌, ◌≤◌, ◌+◌, ◌*◌, ◌++◌, length, drop, flat_map, w64, to_be_bytes}
use Rattle.cap_grammar.proofs.writing.put_each_number.Given as goal

-- what is written and what is to come are the whole, and there is room for it
abbrev pub invariant-loop-number : goal.invariant-loop-number
invariant-loop-number l = record {
  written : l.out.items ++ flat_map (to_be_bytes w64) (drop l.number-index l.numbers) ≡ l.fn.out.items ++ flat_map (to_be_bytes w64) l.numbers;
  spare : l.out.spare + length l.out.items ≡ l.fn.out.spare + length l.fn.out.items;
  room : 8 * length (drop l.number-index l.numbers) ≤ l.out.spare;
}
