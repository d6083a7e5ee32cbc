-- What a call changes of one application, in a table of them.
use Rattle.cap_asks.proofs.Prelude.{◌≡◌, ℕ, List, arith, refl, Some, None, nat_eq, lookup, Account, HeldApp, UsesRoom}
use Rattle.cap_asks.specs.declared.change.Change.{Change}
use Rattle.cap_asks.specs.declared.change.Change.TheVariants.{Register, PutAsk, TakeOne, AddGrant, AddEnd}
use Rattle.cap_asks.specs.Changes.{CanChange, MayChange, Uses, used_by}
use Rattle.cap_asks.proofs.Entries.{accounts_of, had_room, it_has, it_has_none}

-- the one of a number that may change so may do it itself
pub may_change : {K : ℕ} (c : Change K) (n : ℕ) (es : List (ℕ × HeldApp)) (old : HeldApp) → lookup (nat_eq n) es ≡ Some old → CanChange c n (accounts_of es) → MayChange c old.account
may_change Register n es old found can = tt
may_change (PutAsk ask impossible) n es old found can = let has = it_has (λ (a : Account). a.asks) n es old found in let some = can.0 in (omega (arith, has, some), can.1)
may_change (TakeOne key) n es old found can = tt
may_change (AddGrant grant) n es old found can =
    let live = it_has (λ (a : Account). a.live) n es old found in
    let room = had_room n 0 1 _ es old found can.0 in
    let ends = room.ends in
    let few = can.1 in
    (record { asks = room.asks; grants = room.grants; ends = omega (arith, live, ends) }, omega (arith, live, few))
may_change (AddEnd end) n es old found can = let live = it_has (λ (a : Account). a.live) n es old found in omega (arith, live, can)

-- where there is none, no room is taken
nothing : (n : ℕ) (accounts : List (ℕ × Account)) → UsesRoom n 0 0 0 accounts accounts
nothing n accounts = record { positions = λ m. refl; live = λ m. refl; asks = λ m. omega arith; grants = λ m. omega arith; ends = λ m. omega arith }

pub none_takes : {K : ℕ} (c : Change K) (n : ℕ) (es : List (ℕ × HeldApp)) → lookup (nat_eq n) es ≡ None → CanChange c n (accounts_of es) → Uses (used_by c) n (accounts_of es) (accounts_of es)
none_takes Register n es none can = nothing n (accounts_of es)
none_takes (PutAsk ask impossible) n es none can = absurd (let has = it_has_none (λ (a : Account). a.asks) n es none in let some = can.0 in omega (arith, has, some))
none_takes (TakeOne key) n es none can = nothing n (accounts_of es)
none_takes (AddGrant grant) n es none can = absurd (let has = it_has_none (λ (a : Account). a.grants) n es none in let some = can.0.grants in omega (arith, has, some))
none_takes (AddEnd end) n es none can = absurd (let has = it_has_none (λ (a : Account). a.live) n es none in omega (arith, has, can))
