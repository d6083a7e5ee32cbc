use Rattle.cap_shared.proofs.Moves.{begins}
use Rattle.cap_shared.proofs.blank.Blank.new.Goals as goal

pub of_words-requires : goal.of_words-requires
of_words-requires c = begins c.args.seats
