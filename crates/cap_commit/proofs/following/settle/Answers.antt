use Rattle.cap_commit.proofs.Prelude.{◌≡◌, ℕ, Bool, true, false, List, map, map-id, sym, Row}
use Rattle.std.specs.Bool.{beq}
use Rattle.cap_commit.specs.Waiting.{followed_row}
use Rattle.cap_commit.proofs.following.settle.Goals as goal

-- where it waits as before, nothing changes
nothing_follows : (n : ℕ) (path : List ℕ) (waited waits : Bool) (rows : List Row) → beq waits waited ≡ true → rows ≡ map (followed_row n path waited waits) rows
nothing_follows n path true true rows e = sym (map-id rows)
nothing_follows n path false false rows e = sym (map-id rows)
nothing_follows n path true false rows e = absurd (cc e)
nothing_follows n path false true rows e = absurd (cc e)

pub returns-then-waits-waited : goal.returns-then-waits-waited
returns-then-waits-waited g c = record {
  waited = c.has_waiting-waited.result;
  there = c.has_waiting-waited.ensures.there;
  absent = c.has_waiting-waited.ensures.absent;
  rows = nothing_follows c.args.number _ c.has_waiting-waited.result c.args.waits c.args.tree.now c.if-waits-waited.true;
}
