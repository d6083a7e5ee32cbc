use Rattle.cap_asks.proofs.Prelude.{arith}
use Rattle.cap_asks.proofs.Waiters.{waiter_at, waiters_count}
use Rattle.cap_asks.proofs.apps.Apps.nth_waiting.Goals as goal

pub index-requires : goal.index-requires
index-requires g c = let some = rw (← c.self.view_is) at c.requires in let all = waiters_count c.self.invariant.0 in let len = c.self.inside.waiting.ok.0 in omega (arith, some, all, len)

pub index-requires-2 : goal.index-requires-2
index-requires-2 g c = (waiter_at c.self.inside.apps c.self.inside.index.entries c.self.invariant.0 c.args.index c.index.result.now (let some = rw (← c.self.view_is) at c.requires in let all = waiters_count c.self.invariant.0 in omega (arith, some, all)) c.index.ensures).there

pub returns-clause-app : goal.returns-clause-app
returns-clause-app g c = rw (← c.self.view_is) ((waiter_at c.self.inside.apps c.self.inside.index.entries c.self.invariant.0 c.args.index c.index.result.now (let some = rw (← c.self.view_is) at c.requires in let all = waiters_count c.self.invariant.0 in omega (arith, some, all)) c.index.ensures).app c.index-2.result.now c.deref.result.now c.index-2.ensures c.deref.ensures)

pub returns-clause-account : goal.returns-clause-account
returns-clause-account g c = rw (← c.self.view_is) ((waiter_at c.self.inside.apps c.self.inside.index.entries c.self.invariant.0 c.args.index c.index.result.now (let some = rw (← c.self.view_is) at c.requires in let all = waiters_count c.self.invariant.0 in omega (arith, some, all)) c.index.ensures).account c.index-2.result.now c.deref.result.now c.index-2.ensures c.deref.ensures)

pub returns-clause-impossible : goal.returns-clause-impossible
returns-clause-impossible g c = rw (← c.self.view_is) ((waiter_at c.self.inside.apps c.self.inside.index.entries c.self.invariant.0 c.args.index c.index.result.now (let some = rw (← c.self.view_is) at c.requires in let all = waiters_count c.self.invariant.0 in omega (arith, some, all)) c.index.ensures).impossible c.index-2.result.now c.deref.result.now c.index-2.ensures c.deref.ensures)
