use Rattle.cap_grammar.proofs.Prelude.{◌≡◌, ◌≤◌, ◌+◌, ◌*◌, ◌++◌, length, drop, flat_map, AllByRecursion, end, FitsEnd}
use Rattle.cap_grammar.proofs.news.put_ends.Given as goal

-- what is written and what is to come are the whole, there is room for it, and what is written is within its bounds
abbrev pub invariant-loop-told : goal.invariant-loop-told
invariant-loop-told l = record {
  written : l.out.items ++ flat_map end (drop l.told-index l.ends) ≡ l.fn.out.items ++ flat_map end l.ends;
  spare : l.out.spare + length l.out.items ≡ l.fn.out.spare + length l.fn.out.items;
  room : 9 * length (drop l.told-index l.ends) ≤ l.out.spare;
  fits : AllByRecursion FitsEnd (drop l.told-index l.ends) → AllByRecursion FitsEnd l.ends;
}
