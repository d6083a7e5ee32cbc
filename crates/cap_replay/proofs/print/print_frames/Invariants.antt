use Rattle.std.proofs.Common.{length}
use Rattle.cap_replay.proofs.print.print_frames.Given as goal

abbrev pub decreases-loop-frame : goal.decreases-loop-frame
decreases-loop-frame l = length l.rest
