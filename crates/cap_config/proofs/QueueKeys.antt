-- The key of a queue.
use Rattle.cap_config.proofs.Prelude.{◌≡◌, ℕ, ◌-◌, List, length, take, drop, Option, true, ap, ◌∙◌, nat_eq, starts_with, queue_key, key_of_parts, parts_at_last_dot, prefix, rest_all}

pub queue_key_at : (bytes : List ℕ) (parts : Option (List ℕ × List ℕ)) → starts_with nat_eq bytes prefix ≡ true →
    parts ≡ parts_at_last_dot (take (length bytes - 24) (drop 24 bytes)) → key_of_parts parts ≡ queue_key bytes
unfolding queue_key prefix
queue_key_at bytes parts starts is =
    let rest : parts ≡ parts_at_last_dot (drop 24 bytes) = is ∙ ap parts_at_last_dot (rest_all bytes 24) in
    rw starts (ap key_of_parts rest)
