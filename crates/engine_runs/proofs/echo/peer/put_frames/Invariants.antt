use Rattle.cap_frames.specs.History.{bytes_to_come}
use Rattle.engine_runs.proofs.echo.peer.put_frames.Given as goal

abbrev pub decreases-loop-payload : goal.decreases-loop-payload
decreases-loop-payload l = bytes_to_come l.framer
