use Rattle.cap_asks.proofs.Prelude.{◌≡◌, map, take, Some, All, account_of, waiting_of}
use Rattle.cap_asks.proofs.apps.Apps.waiting.Given as goal

abbrev pub invariant-loop-index : goal.invariant-loop-index
invariant-loop-index g l = record {
  apps : map (λ w. w.app) l.waiting.items ≡ take l.index (waiting_of l.self.table.active);
  accounts : All (λ w. account_of w.app.number l.self.accounts ≡ Some w.account) l.waiting.items;
}
