use Rattle.cap_config.proofs.Prelude.{◌≡◌, Some, None, sym, ◌∙◌, ap, true, nat_eq, starts_with, prefix, key_at}
use Rattle.cap_config.proofs.QueueKeys.{queue_key_at}
use Rattle.cap_config.proofs.key.queue_key.Goals as goal

pub returns-in-Some : goal.returns-in-Some
unfolding prefix
returns-in-Some c =
    let starts : starts_with nat_eq c.args.bytes.now prefix ≡ true = sym c.starts_with.ensures.value ∙ c.if-not-starts_with.false in
    c.key_at.ensures ∙ ap (key_at c.in-Some.path.now) c.setting_named.ensures
    ∙ queue_key_at c.args.bytes.now (Some (c.in-Some.path.now, c.in-Some.name.now)) starts c.in-Some.ensures

pub returns-in-None : goal.returns-in-None
unfolding prefix
returns-in-None c =
    let starts : starts_with nat_eq c.args.bytes.now prefix ≡ true = sym c.starts_with.ensures.value ∙ c.if-not-starts_with.false in
    queue_key_at c.args.bytes.now None starts c.in-None.ensures
