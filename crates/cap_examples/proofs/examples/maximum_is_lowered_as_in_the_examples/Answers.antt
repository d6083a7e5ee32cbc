use Rattle.cap_examples.proofs.Prelude.{◌≡◌, List, ℕ, true, [], refl, sym, ◌∙◌, ap, inl, Some, None, option_map_or, plus, less, first_fault, settings_in, Request, has_its_queues, lines_refusal, refreshed_settings, first_of_settings, after_refresh, Replies, refusal_of, refused_or, lowered_queues, six_held, lowered}
use Rattle.cap_model.specs.declared.reply.ReplyWith.TheVariants as Reply
use Rattle.cap_examples.proofs.examples.maximum_is_lowered_as_in_the_examples.Goals as goal

-- a Refresh by lines without a fault, which make these settings
refreshes_to : (lines : List ℕ) → first_fault lines ≡ None → settings_in lines ≡ Some lowered_queues → Replies six_held (Request.Refresh lines) Reply.Refresh lowered
unfolding plus less
refreshes_to lines none made =
    let refusal : refusal_of six_held (Request.Refresh lines) ≡ None = λ i. lines_refusal (none i) (option_map_or (has_its_queues six_held) (made i) true) in
    let after : after_refresh six_held lines ≡ lowered =
    λ i. record six_held { settings = option_map_or (λ settings. refreshed_settings (first_of_settings 2 settings) six_held.settings) (made i) six_held.settings } in
    inl (sym (ap (λ o. refused_or o (λ refusal. Reply.Refused refusal) Reply.Refresh) refusal), sym (ap (λ o. refused_or o (λ refusal. six_held) (after_refresh six_held lines)) refusal ∙ after))

pub returns-clause-lowered : goal.returns-clause-lowered
unfolding plus less
returns-clause-lowered c = λ lines none made.
    let step = refreshes_to lines none made in
    (step, refl, refl, (λ h. absurd (cc h)), record { before = []; after = _; since = six_held; parts = refl; run = refl; met = inl refl; quiet = (lowered, step, refl, refl) })

pub returns-clause-room : goal.returns-clause-room
unfolding plus less
returns-clause-room c = (refl, refl, refl, refl, refl)
