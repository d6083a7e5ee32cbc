use Rattle.cap_world.proofs.Prelude.{take, all_performed, Adds, Makes}
use Rattle.cap_world.proofs.world.World.make_all.Given as goal

-- the steps so far were made
abbrev pub invariant-loop-i : goal.invariant-loop-i
invariant-loop-i l = record {
  made : Makes (all_performed (take l.i l.steps)) l.fn.self.sight l.self.sight l.fn.events.items l.events.items;
  adds : Adds l.fn.self l.self l.fn.events.items l.events.items;
}
