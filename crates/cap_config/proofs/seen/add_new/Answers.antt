use Rattle.cap_config.proofs.Prelude.{refl, bytes_eq, hash_map_updates_str}
use Rattle.std.specs.HashMap.{get_by}
use Rattle.cap_config.proofs.Among.{there_after}
use Rattle.cap_config.proofs.seen.add_new.Goals as goal

pub returns-clause-after : goal.returns-clause-after
returns-clause-after c = λ q.
    there_after (bytes_eq c.args.bytes.now q) (get_by (λ k. bytes_eq q k.now) c.args.seen.now) _ _ refl
    (hash_map_updates_str c.args.bytes.now c.args.seen.now c.insert.new.self _ c.in_ok-old.ensures.updates q)
