-- RegisterMaster: an application's master reports, once.
use Rattle.std.specs.Prelude.{ℕ, Bool, [], ◌∷◌, Option, is_none}
use Rattle.cap_base.specs.Cascade.{earliest, holds_of}
use Rattle.cap_model.specs.declared.refusal.Refusal.{Refusal}
use Rattle.cap_model.specs.declared.reply.ReplyWith.TheVariants as Reply
use Rattle.cap_model.specs.News.{Reply}
use Rattle.cap_model.specs.Flat.{Flat, app_at, with_app}

module _ {K : ℕ} where
  -- why it is refused
  abbrev pub register_master_refusal : Flat K → ℕ → Option Refusal
  register_master_refusal cluster app = earliest (
      (is_none (app_at cluster app), Refusal.UnknownApplication)
      ∷ (holds_of (λ a. a.registered) (app_at cluster app), Refusal.AlreadyRegistered)
      ∷ [])

  -- the application is registered from now on
  abbrev pub after_register_master : Flat K → ℕ → Flat K
  after_register_master cluster app = with_app app (λ a. record a { registered = Bool.true }) cluster

  -- its master learns the bounds of one container
  abbrev pub register_master_reply : Flat K → Reply K
  register_master_reply cluster = Reply.RegisterMaster cluster.settings.minimum_allocation cluster.settings.maximum_allocation
