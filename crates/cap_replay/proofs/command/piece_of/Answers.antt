use Rattle.std.proofs.Common.{◌∷◌, refl}
use Rattle.cap_replay.proofs.Commands.{no_command}
use Rattle.cap_replay.proofs.command.piece_of.Goals as goal

pub returns-in-None-clause-only : goal.returns-in-None-clause-only
returns-in-None-clause-only c = no_command (98 ∷ 121 ∷ 116 ∷ 101 ∷ 115 ∷ 32 ∷ c.args.rest.now) c.args.rest.now c.in_ok-number.number.now c.in_ok-number.piece.now refl c.in_ok-number.ensures.found c.in-None.ensures.only
