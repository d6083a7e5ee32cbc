use Rattle.cap_asks.proofs.Prelude.{◌≡◌, take, is_some, fold, ask_at, put_ask}
use Rattle.cap_asks.proofs.asks.Asks.stands_after.Given as goal

-- whether the key stands after the asks so far
abbrev pub invariant-loop-ask : goal.invariant-loop-ask
invariant-loop-ask g l = l.stands ≡ is_some (ask_at l.key (fold (λ kept ask. put_ask ask kept) l.self.asks (take l.ask-index l.asks)))
