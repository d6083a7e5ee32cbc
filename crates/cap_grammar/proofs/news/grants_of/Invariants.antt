use Rattle.cap_grammar.proofs.Prelude.{◌≡◌, map, shown_grant, amounts_in}
use Rattle.cap_grammar.proofs.news.grants_of.Given as goal

-- what is read of each grant's amounts is shown
abbrev pub invariant-loop : goal.invariant-loop
invariant-loop l = map (shown_grant (amounts_in l.version)) l.grants.items ≡ l.grants.items
