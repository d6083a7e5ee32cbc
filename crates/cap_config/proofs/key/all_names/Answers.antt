use Rattle.cap_config.proofs.Prelude.{rules, tests, all_from_yields_List, YieldsList-from_slice_split, is_dot, is_name}
use Rattle.cap_config.proofs.key.all_names.Goals as goal

pub returns : goal.returns
returns c =
    all_from_yields_List is_name _ _ c.all.result c.all.ensures.ran
    (YieldsList-from_slice_split _ is_dot c.args.bytes.now c.split.ensures.rest c.split.ensures.done c.split.ensures.closure (λ x r q k. search (rules, tests)))
    (λ x b q k. search (rules, tests))
