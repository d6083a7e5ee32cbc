-- A reply in full is what it was.
use Rattle.cap_model.proofs.Prelude.{◌≡◌, ℕ, refl, map_reply, ReplyWith}
use Rattle.cap_model.specs.declared.reply.ReplyWith.TheVariants as Reply

pub map_same : {K : ℕ} {A : Type 0} (reply : ReplyWith K A) → map_reply (λ x. x) reply ≡ reply
map_same Reply.SetQueueState = refl
map_same _ = refl
