use Rattle.cap_grammar.proofs.Prelude.{◌≡◌, ◌≤◌, ◌+◌, ◌*◌, ◌++◌, length, drop, flat_map, ask, amounts_in}
use Rattle.cap_grammar.proofs.writing.put_each_ask.Given as goal

-- what is written and what is to come are the whole, it is no longer than so much an ask, and there is room for what is to come
abbrev pub invariant-loop-wish : goal.invariant-loop-wish
invariant-loop-wish l = record {
  written : l.out.items ++ flat_map (ask (amounts_in l.version)) (drop l.wish-index l.asks) ≡ l.fn.out.items ++ flat_map (ask (amounts_in l.version)) l.asks;
  len : length l.out.items ≤ length l.fn.out.items + 105 * l.wish-index;
  spare : l.out.spare + length l.out.items ≡ l.fn.out.spare + length l.fn.out.items;
  room : 105 * length (drop l.wish-index l.asks) ≤ l.out.spare;
}
