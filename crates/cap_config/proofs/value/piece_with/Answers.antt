use Rattle.cap_config.proofs.Prelude.{rules, tests, ◌==◌, nat_eq, starts_with, find_from_yields_List, YieldsList-from_slice_split, trimmed_bytes}
use Rattle.cap_config.proofs.Parts.{found_piece}
use Rattle.cap_config.proofs.value.piece_with.Goals as goal

pub returns-clause-first : goal.returns-clause-first
returns-clause-first c =
    found_piece (λ piece. starts_with nat_eq piece c.args.name.now) c.args.bytes.now c.find.result
    (find_from_yields_List (λ piece. starts_with nat_eq (trimmed_bytes piece) c.args.name.now) _ _ c.find.result c.find.ensures.ran
    (YieldsList-from_slice_split _ (λ b. b == 44) c.args.bytes.now c.split-pieces.ensures.rest c.split-pieces.ensures.done c.split-pieces.ensures.closure (λ x r q k. search (rules, tests)))
    (λ x b q k. search (rules, tests)))
