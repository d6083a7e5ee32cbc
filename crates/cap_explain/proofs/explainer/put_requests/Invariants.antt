use Rattle.cap_frames.specs.History.{bytes_to_come}
use Rattle.cap_explain.proofs.explainer.put_requests.Given as goal

abbrev pub decreases-loop-payload : goal.decreases-loop-payload
decreases-loop-payload l = bytes_to_come l.framer
