use Rattle.cap_audit.proofs.Prelude.{IsFalseInput}
use Rattle.cap_audit.proofs.Pieces.{from_ok}
use Rattle.cap_audit.proofs.Onwards.{found_false}
use Rattle.cap_audit.proofs.player.audit.Goals as goal

pub returns-clause-is_true : goal.returns-clause-is_true
returns-clause-is_true g c = λ e. from_ok c.play_all-played.result (c.finish.ensures.done e) c.play_all-played.ensures.good

pub returns-clause-is_false : goal.returns-clause-is_false
returns-clause-is_false g c = λ e. found_false c.play_all-played.result (IsFalseInput g.R.Read.remaining c.args.reader.now) (c.finish.ensures.found e) c.play_all-played.ensures.bad
