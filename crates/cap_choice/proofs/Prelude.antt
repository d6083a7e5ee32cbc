-- What the proofs here take from elsewhere.
pub use Rattle.std.proofs.Common.{Bool, List, None, Some, [], ap, append_assoc, arith, cond, drop, drop-cons, false, get_or, inl, inr, length, length-append, length-drop, map, refl, subst, suc, sym, take, true, zero, ℕ, ◌++◌, ◌+◌, ◌-◌, ◌<◌, ◌∙◌, ◌∷◌, ◌≡◌, ◌≤◌}
pub use Rattle.std.proofs.lemmas.Bool.{and_parts, cases_Bool, cases_lt}
pub use Rattle.std.proofs.lemmas.Bool.Decides.{nat_tests}
pub use Rattle.std.proofs.lemmas.Cmp.{lists_total, nat_cmp_total, on_total, then_total}
pub use Rattle.std.proofs.lemmas.List.{append-nil, drop_all, ext_get_or, get_or-append_right, get_or-drop, get_or-take, get_or_append_left, length-take, take_more}
pub use Rattle.std.proofs.lemmas.Option.{get_or_from_slice_get, slice_get_past, slice_get_within}
pub use Rattle.std.proofs.lemmas.Slice.Eq.{bytes_eq-Decides}
pub use Rattle.std.specs.Cmp.{IsTotalOrder}
pub use Rattle.std.specs.Cmp.Lexicographic.{slice_cmp}
pub use Rattle.std.specs.List.{list_all, slice_get}
pub use Rattle.std.specs.Option.{option_map_or, option_or}
pub use Rattle.std.specs.Ordering.{is_gt, is_lt, nat_cmp, ordering_reverse, ordering_then}
pub use Rattle.std.specs.Prelude.{IsSome, IsTrue, Option, bytes_eq, count_by, filter, find, is_none, is_some, nat_le, nat_lt, not, option_and_then, option_map, unwrap_or, ◌%◌, ◌&&◌, ◌==◌, ◌↔◌, ◌⊎◌}
pub use Rattle.std.specs.declared.cmp.Ordering.{Ordering}
pub use Rattle.std.specs.declared.cmp.Ordering.TheVariants.{Equal, Greater, Less}
pub use Rattle.cap_base.proofs.lists.Members.{IsIn, each_of, found}
pub use Rattle.cap_base.proofs.lists.Tests.{bytes_itself}
pub use Rattle.cap_base.proofs.Levels.{level_cmp_total}
pub use Rattle.cap_base.specs.Amounts.{fits}
pub use Rattle.cap_base.specs.Cascade.{holds_of}
pub use Rattle.cap_base.specs.LimitTests.{fits_maximum, fits_user_limit}
pub use Rattle.cap_base.specs.Levels.{level_cmp}
pub use Rattle.cap_base.specs.Limits.{live_max, number_end}
pub use Rattle.cap_laws.proofs.choice.Choosing.{choice_is_computed}
pub use Rattle.cap_laws.proofs.choice.Ranks.{nat_cmp_equal, one_of_each_rank}
pub use Rattle.cap_model.proofs.calls.KeptAsks.{same_key_is}
pub use Rattle.cap_model.proofs.choice.Orders.{ask_key_cmp_total, not_after_itself, rank_cmp_total}
pub use Rattle.cap_model.specs.Admission.{IsAdmissible, NeedsOf, NodeProposal, asks_resource, fits_free, fits_total, is_grant, is_wanted, leaf_path, node_reservation, proposed_ask, stays_in_maxima, stays_in_user_limit, suits_place, takes_place, use_after, user_name}
pub use Rattle.cap_model.specs.Asks.{Ask, ask_key_cmp, same_key}
pub use Rattle.cap_model.specs.declared.ask.Key.{Key}
pub use Rattle.cap_model.specs.Candidates.{choice_from, choice_on, first_choice}
pub use Rattle.cap_model.specs.Choice.{IsNodeChoice, is_after, level_of, rank_cmp, rank_of, ring_from}
pub use Rattle.cap_model.specs.Flat.{Reservation, ask_at, is_for}
pub use Rattle.cap_model.specs.Sight.{AppSight, NodeSight, QueueSight, Sight, queues_to, seen_app, seen_node, seen_queue, still_wanted}
pub use Rattle.cap_model.specs.declared.proposal.ProposalKind.{ProposalKind}
pub use Rattle.cap_model.specs.declared.proposal.ProposalKind.TheVariants.{Grant, Reserve}
pub use Rattle.cap_choice.specs.Admitting.{IsAdmittedAs, IsClosed, IsFirstTaker, IsOpen, IsPassed, IsSeenNode, TakesAt, grant_of, has_numbers, may_convert, may_hold, proposal_of, room_back}
pub use Rattle.cap_choice.specs.Nearest.{ComesBefore, ComesUpTo, IsAskBefore, IsNearest, IsNearestBefore, IsNearestUpTo}
pub use Rattle.cap_choice.specs.declared.choice.Taker.{Taker}
pub use Rattle.cap_farm.specs.Offers.{AreByKey, IsOffer, IsSeenApp, IsWhole, Offer}
pub use Rattle.cap_farm.specs.Ring.{IsReserved, IsTurn, node_after, ring_index}
pub use Rattle.cap_farm.specs.Rooms.{AreImpossible, IsIdle, IsShut, IsShutFor, IsUnfit, in_limits, kind_beside, kind_by_room, room_kind, taken_as}
pub use Rattle.cap_farm.specs.Service.{HasNoNextApp, IsLater, IsNextApp, IsWaiter, app_cmp, levels_to}
pub use Rattle.cap_vector.proofs.AmountLemmas.{amount-less, amount-zeros, length-less}
pub use Rattle.cap_vector.specs.Vector.{amounts_exchanged, less, plus, zeros}
