-- What the proofs here take from elsewhere.
pub use Rattle.std.proofs.Common.{Bool, List, [], ap, arith, drop, false, inl, inr, refl, sym, true, ℕ, ◌++◌, ◌+◌, ◌-◌, ◌<◌, ◌∙◌, ◌∷◌, ◌≡◌, ◌≤◌}
pub use Rattle.std.proofs.lemmas.Bool.{and_from, and_parts, cases_Bool, not-true}
pub use Rattle.std.proofs.lemmas.Bool.Decides.{nat_tests}
pub use Rattle.std.proofs.lemmas.Cmp.{lists_total, nat_cmp_total, on_total, then_total}
pub use Rattle.std.proofs.lemmas.List.Folds.{find-append}
pub use Rattle.std.proofs.lemmas.List.Sums.{sum_by-append}
pub use Rattle.std.specs.Cmp.{IsTotalOrder}
pub use Rattle.std.specs.List.{sum_by}
pub use Rattle.std.specs.Option.{option_or}
pub use Rattle.std.specs.Ordering.{is_gt, is_lt, ordering_reverse}
pub use Rattle.std.specs.Prelude.{IsSome, None, Option, Some, cond, filter, find, if◌then◌else◌, length, map, not, option_map, ◌&&◌, ◌==◌, ◌||◌, ◌⊎◌}
pub use Rattle.std.specs.declared.cmp.Ordering.{Ordering}
pub use Rattle.std.specs.declared.cmp.Ordering.TheVariants.{Equal, Greater, Less}
pub use Rattle.cap_base.proofs.Amounts.{amount_of, amount_past}
pub use Rattle.cap_base.proofs.Levels.{level_cmp_total}
pub use Rattle.cap_base.proofs.lists.Filters.{filter_same}
pub use Rattle.cap_base.proofs.lists.Members.{IsIn, of_filter}
pub use Rattle.cap_base.proofs.lists.Sums.{sum_by_map}
pub use Rattle.cap_base.proofs.lists.Tests.{first_is, numbers_turned}
pub use Rattle.cap_base.specs.Amounts.{part}
pub use Rattle.cap_base.specs.Cascade.{earliest, holds_of}
pub use Rattle.cap_base.specs.Members.{IsRising}
pub use Rattle.cap_model.specs.Asking.{keep_first, put_ask, with_ask, without_key}
pub use Rattle.cap_model.specs.Asks.{Ask, ask_key_cmp, same_key}
pub use Rattle.cap_model.specs.Choice.{rank_cmp}
pub use Rattle.cap_model.specs.Ending.{is_among}
pub use Rattle.cap_model.specs.Events.{take_one}
pub use Rattle.cap_model.specs.Flat.{App, Container, Flat, Reservation, app_at, ask_at}
pub use Rattle.cap_model.specs.Replies.{map_reply}
pub use Rattle.cap_model.specs.Uses.{Holding, holdings, node_held, of_container, of_reservation, use_of}
pub use Rattle.cap_model.specs.declared.ask.Key.{Key}
pub use Rattle.cap_model.specs.declared.reply.ReplyWith.{ReplyWith}
pub use Rattle.cap_vector.specs.Vector.{amount}
