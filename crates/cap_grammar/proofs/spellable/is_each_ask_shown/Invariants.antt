use Rattle.cap_grammar.proofs.Prelude.{drop, AllByRecursion, resources, FitsAsk, amounts_in}
use Rattle.cap_grammar.proofs.spellable.is_each_ask_shown.Given as goal

-- those that are to come fit exactly where all do
abbrev pub invariant-loop-ask : goal.invariant-loop-ask
invariant-loop-ask l = record {
  all : AllByRecursion (FitsAsk resources (amounts_in l.version)) (drop l.ask-index l.asks) → AllByRecursion (FitsAsk resources (amounts_in l.version)) l.asks;
  rest : AllByRecursion (FitsAsk resources (amounts_in l.version)) l.asks → AllByRecursion (FitsAsk resources (amounts_in l.version)) (drop l.ask-index l.asks);
}
