use Rattle.cap_copy.proofs.Prelude.{◌≡◌, ◌++◌, [], take, map, ask_entry}
use Rattle.cap_copy.proofs.seen_app.add_asks.Given as goal

abbrev pub invariant-loop-ask : goal.invariant-loop-ask
invariant-loop-ask g l =
    l.asks.items ≡ l.initial.asks.items ++ map (ask_entry [] l.app.app.number l.index) (take l.ask-index l.app.app.asks)
