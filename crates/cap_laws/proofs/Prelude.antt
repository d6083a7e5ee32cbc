-- What the proofs here take from elsewhere.
pub use Rattle.std.proofs.Common.{Bool, List, None, Option, Some, [], ap, arith, drop, false, get_or, inl, inr, length, map, refl, subst, suc, sym, true, zero, ℕ, ◌++◌, ◌+◌, ◌-◌, ◌<◌, ◌∙◌, ◌∷◌, ◌≡◌, ◌≤◌}
pub use Rattle.std.proofs.lemmas.Bool.{and_from, and_parts, cases_Bool, cases_lt, leb-false, not-false, not-true, not_from_true, or_from}
pub use Rattle.std.proofs.lemmas.Bool.Decides.{nat_tests}
pub use Rattle.std.proofs.lemmas.Cmp.{ranked}
pub use Rattle.std.proofs.lemmas.List.{append-nil, append_assoc, at_drop_more, drop_all, ext_get_or, get_or-replicate, length-append, length-map, length-replicate, length-take, map-append, map-id, take-append-drop}
pub use Rattle.std.proofs.lemmas.List.Elements.{filter-append}
pub use Rattle.std.proofs.lemmas.List.Filters.{sum_by-filter_both}
pub use Rattle.std.proofs.lemmas.List.Folds.{find-append, list_any-append}
pub use Rattle.std.proofs.lemmas.List.FromFn.{get_or-map-range_with_len, length-map-range_with_len}
pub use Rattle.std.proofs.lemmas.List.Sums.{count_by-le-length, length-filter, sum_by-cons, sum_by-le-sum_by, sum_by_push}
pub use Rattle.std.proofs.lemmas.Slice.Eq.{bytes_eq-Decides}
pub use Rattle.std.specs.List.{All, cons_option, list_all, list_any, remove, starts_with, sum_by}
pub use Rattle.std.specs.Option.{option_map_or, option_or}
pub use Rattle.std.specs.Ordering.{MatchOrdering, nat_cmp, ordering_then}
pub use Rattle.std.specs.Prelude.{Err, IfOk, IfSome, IsSome, Ok, OnErr, Result, bytes_eq, cond, count_by, filter, find, flat_map, if◌then◌else◌, is_none, is_some, min, nat_eq, nat_le, nat_lt, not, option_and_then, option_map, unwrap_or, ◌&&◌, ◌==◌, ◌||◌, ◌↔◌, ◌⊎◌}
pub use Rattle.std.specs.declared.cmp.Ordering.{Ordering}
pub use Rattle.std.specs.declared.cmp.Ordering.TheVariants.{Equal, Greater, Less}
pub use Rattle.cap_base.proofs.Amounts.{amount_of, amount_past, amounts_fit, fits_amounts}
pub use Rattle.cap_base.proofs.lists.Filters.{filter_none, filter_same, filter_twice, filter_whole, find_mapped_at, length-kept, map_same, map_twice}
pub use Rattle.cap_base.proofs.lists.Members.{IsIn, all_in, each_of, found, in_either, in_filter, in_flat_map, in_left, in_map, none_in, of_each, of_filter, of_flat_map, of_map}
pub use Rattle.cap_base.proofs.lists.Sums.{count_append, count_cons, count_kept, one_where, sum_by_agree, sum_by_map, sum_by_same, sum_of_two, sum_of_zeros}
pub use Rattle.cap_base.proofs.lists.Tests.{and_false, and_true, kept_if, not_none, or_false, or_left, or_right, same_test, some_kept, there_or_not, true_of_none, twice_not, value_of}
pub use Rattle.cap_base.proofs.paths.Listed.{listings_stand_below}
pub use Rattle.cap_base.proofs.paths.Paths.{IsUnder, child_leads, child_to, counted_once, is_under_it, its_child, only_child, under_is, under_parent}
pub use Rattle.cap_base.specs.Amounts.{fits, part, sum_where, times}
pub use Rattle.cap_base.specs.Cascade.{earliest, holds_of}
pub use Rattle.cap_base.specs.Limits.{live_max, news_max, nodes_max, number_end}
pub use Rattle.cap_base.specs.Listing.{IsListing}
pub use Rattle.cap_base.specs.Members.{IsRising}
pub use Rattle.cap_base.specs.Paths.{is_child_of, is_under}
pub use Rattle.cap_base.specs.Settings.{QueueRow, Settings}
pub use Rattle.cap_base.specs.Trees.{HasDistinctPaths, IsTree, StandBelow, has_path, has_same_paths}
pub use Rattle.cap_base.specs.declared.no_memory.NoMemory.{NoMemory}
pub use Rattle.cap_base.specs.declared.properties.fault.ConfigFault.{ConfigFault}
pub use Rattle.cap_base.specs.properties.First.{first_fault, settings_in}
pub use Rattle.cap_laws.specs.BoundLaws.{AskStaysBounded, EndsStayBounded, IsInOneChild, LimitsOverRuns, LimitsStayMet, NodesStayBounded, NumbersAreNotUsedAgain, OpenedIsBounded, OpenedIsWithinSizes, OpenedMeetsLimits, ParentUsesChildren, QueuesStayBounded, QuietRunsRaiseNothing, ReportStaysBounded, ReservationsStayApart, ReservationsStayBounded, RunsStayBounded, RunsStayWithinSizes, SizesStay, StepStaysBounded, StepStaysWellFormed, TreesAddUp, UsesAreSums, WantedIsSeen, is_refresh, refreshes}
pub use Rattle.cap_laws.specs.EngineLaws.{AppNumbersStayDistinct, ChoiceFromIsComputed, ChoiceIsComputed, ContainersBalance, EndedOnce, GrantedOnce, HasAppNumbers, HasDistinctNumbers, LiveIsWhatWasNotEnded, NumbersStayDistinct, OneOfEachRank, PassedIsStep, ReasonsAreInOrder, RejectedExactly, RunLeadsToOneState, StepIsDetermined, container_numbers}
pub use Rattle.cap_laws.specs.NewsLaws.{EndsAreToldInOrder, EndsAreToldOverRuns, GrantsAreToldInOrder, GrantsAreToldOverRuns, NewEndsAreOfTheEnded, NewGrantsAreOfTheGranted, ends_of, ever_new_ends, ever_new_grants, ever_told_ends, ever_told_grants, new_ends, new_grants, told_ends, told_grants, untold_ends, untold_grants}
pub use Rattle.cap_laws.specs.RefreshLaws.{IsRefreshed, RefreshSetsAll}
pub use Rattle.cap_laws.specs.Reservations.{AreReserved, fits_its_node, kept_by_ask}
pub use Rattle.cap_model.proofs.calls.KeptAsks.{kept_few, not_same_other, one_less, one_less_found, other_ask_stays, others_are_found, put_is_found, same_key_is, same_key_itself}
pub use Rattle.cap_model.proofs.choice.Orders.{not_after_itself, not_after_other, not_after_trans, rank_cmp_total}
pub use Rattle.cap_model.proofs.lists.Numbered.{find_changed, find_gone, find_others, find_with_more, found_by_number, none_before, none_from_high, one_completed, rising_ends, rising_from_low, rising_kept, rising_more, same_numbers}
pub use Rattle.cap_model.proofs.uses.Measures.{counted, counts, held_amount, held_past, live_part, reserved_part, same_counts, standing, use_amount, use_past}
pub use Rattle.cap_model.specs.Admission.{IsAdmissible, IsWithinLimits, NeedsOf, NodeProposal, asks_resource, fits_free, fits_total, is_grant, is_reserved_for, is_wanted, leaf_path, node_reservation, proposed_ask, reason_of, reasons, room_replaced, stays_in_maxima, stays_in_maximum, stays_in_user_limit, suits_place, use_after, user_name}
pub use Rattle.cap_model.specs.Allocate.{after_processed_allocate, after_telling, after_wishes, allocate_refusal, is_repeated_allocate, kept_reply, news_report, nothing_told, released_by}
pub use Rattle.cap_model.specs.Asking.{after_ask, after_asks, is_changed, keep_first, put_ask, reservations_left, rounded_ask}
pub use Rattle.cap_model.specs.Asks.{Ask, same_key}
pub use Rattle.cap_model.specs.Bounds.{AreApart, AreThere, FitsMaximum, IsBounded, IsLeaf, IsNodeBounded, IsQueueBounded, IsReservationBounded, IsSumOfChildren, IsWellFormed, IsWithinSizes, reservations_for}
pub use Rattle.cap_model.specs.Candidates.{admissible_on, choice_on, first_choice, first_served, proposals_of, sooner}
pub use Rattle.cap_model.specs.Choice.{IsFirstChoice, IsNodeChoice, is_after, rank_cmp, rank_of, ring_from}
pub use Rattle.cap_model.specs.Ending.{after_ends, is_among, named_among, with_ends}
pub use Rattle.cap_model.specs.Events.{Run, Step, after_event, after_grant, after_reserve, ended_between, ever_ended, ever_granted, grant_proposal, granted_by, is_no_memory, news_of, reserve_proposal, take_one}
pub use Rattle.cap_model.specs.FinishMaster.{after_finish_master}
pub use Rattle.cap_model.specs.Flat.{App, AppTable, ClusterNode, Container, Flat, NodeTable, Reservation, app_at, ask_at, change_app, change_node, containers_of, containers_on, is_for, node_at, opened_cluster, queue_at, reservation_on, with_app, with_reserved}
pub use Rattle.cap_model.specs.Heartbeat.{after_processed_heartbeat, beat_of, ended_by, is_repeated_heartbeat}
pub use Rattle.cap_model.specs.News.{AllocateReply, Grant, Reply}
pub use Rattle.cap_model.specs.NodeGone.{after_node_gone, remove_node}
pub use Rattle.cap_model.specs.QueueCalls.{after_set_queue_state, queue_report}
pub use Rattle.cap_model.specs.Refresh.{after_refresh, first_of_queue, first_of_settings, has_its_queues, lines_refusal, refreshed_queue, refreshed_settings, with_settings}
pub use Rattle.cap_model.specs.RegisterMaster.{after_register_master}
pub use Rattle.cap_model.specs.RegisterNode.{add_node, after_register_node, new_node, register_node_refusal, total_of_nodes}
pub use Rattle.cap_model.specs.Replies.{Replies, after_request, granted_cluster, granted_reply, refusal_of, refused_or, reply_to}
pub use Rattle.cap_model.specs.Reporting.{HasRoomFor, IsNoAllocate, NewsRoom, news_most}
pub use Rattle.cap_model.specs.ResponseIds.{is_repeated}
pub use Rattle.cap_model.specs.Risen.{LimitsAreMetOrNotRisen, MeetsMaximum, MeetsUserLimit, NotRisen, QuietRun, in_queue, of_user, raises}
pub use Rattle.cap_model.specs.Sight.{AppSight, NodeSight, QueueSight, Sight, app_sight, node_sight, queue_sight, queues_to, seen_app, seen_node, seen_queue, sight_of, still_wanted}
pub use Rattle.cap_model.specs.Submit.{after_submit, has_children, is_running, new_app, submit_refusal}
pub use Rattle.cap_model.specs.Uses.{Holding, holdings, node_free, node_held, queue_use, use_of, user_use}
pub use Rattle.cap_model.specs.declared.ask.Key.{Key}
pub use Rattle.cap_model.specs.declared.event.Event.{Event}
pub use Rattle.cap_model.specs.declared.news.Cause.{Cause}
pub use Rattle.cap_model.specs.declared.news.End.{End}
pub use Rattle.cap_model.specs.declared.proposal.ProposalKind.{ProposalKind}
pub use Rattle.cap_model.specs.declared.proposal.Reason.{Reason}
pub use Rattle.cap_model.specs.declared.refusal.Refusal.{Refusal}
pub use Rattle.cap_model.specs.declared.request.Request.{Request}
pub use Rattle.cap_vector.proofs.AmountLemmas.{amount-less, amount-plus, test_from_within, within_from_test}
pub use Rattle.cap_vector.specs.Vector.{IsVector, IsWithin, amount, amount_max, by_amount, is_within, is_zero, less, plus, zeros}
