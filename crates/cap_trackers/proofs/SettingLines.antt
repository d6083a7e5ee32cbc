-- The settings of property lines are set as they are: they have as many amounts as the engine has resources.
use Rattle.cap_trackers.proofs.Prelude.{◌≡◌, ℕ, true, List, length, map, take, Option, Some, None, inl, refl, sym, ◌∙◌, ap, arith, IfSome, is_some, option_map, map-id, take_all, map_same, each_of, resources, QueueRow, Settings, settings_in, HasAmounts, HasOneAnswer, QueueHasAmounts, SettingsHaveAmounts, Refresh, Flat, after_refresh, first_of_queue, first_of_settings, has_its_queues, with_settings, Replies}
use Rattle.cap_model.specs.declared.reply.ReplyWith.TheVariants as Reply
use Rattle.cap_trackers.proofs.Answering.{granted_is}

-- what has k amounts is its first k
amounts_whole : (k : ℕ) (amounts : List ℕ) → length amounts ≡ k → take k amounts ≡ amounts
amounts_whole k amounts e = take_all k amounts (omega (arith, e))

maximum_whole : (k : ℕ) (maximum : Option (List ℕ)) → IfSome maximum (λ most. length most ≡ k) → option_map (take k) maximum ≡ maximum
maximum_whole k None h = refl
maximum_whole k (Some most) h = ap Some (amounts_whole k most h)

queue_whole : (k : ℕ) (q : QueueRow) → QueueHasAmounts k q → first_of_queue k q ≡ q
queue_whole k q h = λ i. record q { guaranteed = amounts_whole k q.guaranteed h.guaranteed i; maximum = maximum_whole k q.maximum h.maximum i }

settings_whole : (k : ℕ) (settings : Settings) → HasAmounts k settings → first_of_settings k settings ≡ settings
settings_whole k settings h = λ i. record settings {
  queues = queues i;
  minimum_allocation = amounts_whole k settings.minimum_allocation h.minimum_allocation i;
  maximum_allocation = amounts_whole k settings.maximum_allocation h.maximum_allocation i;
}
  where
    queues : map (first_of_queue k) settings.queues ≡ settings.queues
    queues = map_same (first_of_queue k) (λ q. q) settings.queues (λ q m. queue_whole k q (each_of (QueueHasAmounts k) settings.queues h.queues q m)) ∙ map-id settings.queues

-- a text without a fault, of the cluster's queues, is answered as the reply function says
pub is_set : (old new : Flat resources) (text : List ℕ) (settings : Settings) → HasOneAnswer → SettingsHaveAmounts → settings_in text ≡ Some settings → has_its_queues old settings ≡ true →
    new ≡ with_settings settings old → Replies old (Refresh text) Reply.Refresh new
is_set old new text settings one whole is same set =
    let none = (one text).1 (ap is_some is) in
    let granted = granted_is old (Refresh text) (rw (none, is, same) refl) in
    let set_is : after_refresh old text ≡ with_settings settings old = rw is (ap (λ s. with_settings s old) (settings_whole resources settings (whole text settings is))) in
    inl (granted.0, set ∙ sym set_is ∙ granted.1)
