use Rattle.cap_grammar.proofs.Prelude.{◌≡◌, ◌≤◌, ◌+◌, ◌*◌, ◌++◌, length, drop, flat_map, AllByRecursion, resources, grant, FitsGrant, amounts_in}
use Rattle.cap_grammar.proofs.news.put_grants.Given as goal

-- what is written and what is to come are the whole, there is room for it, and what is written is within its bounds
abbrev pub invariant-loop-told : goal.invariant-loop-told
invariant-loop-told l = record {
  written : l.out.items ++ flat_map (grant (amounts_in l.version)) (drop l.told-index l.grants) ≡ l.fn.out.items ++ flat_map (grant (amounts_in l.version)) l.grants;
  spare : l.out.spare + length l.out.items ≡ l.fn.out.spare + length l.fn.out.items;
  room : 117 * length (drop l.told-index l.grants) ≤ l.out.spare;
  fits : AllByRecursion (FitsGrant resources) (drop l.told-index l.grants) → AllByRecursion (FitsGrant resources) l.grants;
}
