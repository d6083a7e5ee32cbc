-- What the proofs here take from elsewhere.
pub use Rattle.std.proofs.Common.{Bool, List, None, Option, Some, [], ap, arith, cond, false, get_or, inl, inr, length, length-append, map, refl, subst, suc, sym, true, zero, ℕ, ◌*◌, ◌++◌, ◌+◌, ◌-◌, ◌<◌, ◌∙◌, ◌∷◌, ◌≡◌, ◌≤◌}
pub use Rattle.std.proofs.lemmas.Bool.{and_parts, cases_lt, not-true}
pub use Rattle.std.proofs.lemmas.Bool.Decides.{nat_tests}
pub use Rattle.std.proofs.lemmas.List.{append-nil, ext_get_or, get_or_past, length-map, length-replicate, map-id}
pub use Rattle.std.proofs.lemmas.List.Sums.{count_by-le-length, length-filter, sum_by-cons, sum_by-le-sum_by, sum_by-remove, sum_by_push}
pub use Rattle.std.proofs.lemmas.Result.{IfOk-weaker, on_err_weaker}
pub use Rattle.std.proofs.lemmas.Slice.Eq.{bytes_eq-Decides}
pub use Rattle.std.specs.Borrow.{RattleType}
pub use Rattle.std.specs.List.{All, list_all, list_any, prefix_len, remove, slice_get, starts_with, sum_by}
pub use Rattle.std.specs.Mem.{FitsInMemory}
pub use Rattle.std.specs.Option.{option_map_or, option_or}
pub use Rattle.std.specs.Prelude.{Err, IfOk, IfSome, IsSome, IsTrue, Ok, OnErr, Result, bytes_eq, count_by, filter, find, if◌then◌else◌, is_none, is_some, max, nat_eq, nat_le, nat_lt, not, option_and_then, option_map, position, slice_index_or, unwrap_or, ◌&&◌, ◌==◌, ◌||◌, ◌↔◌}
pub use Rattle.cap_asks.specs.Accounts.{Account, HeldApp}
pub use Rattle.cap_asks.specs.Apps.{HasRooms, HeldApps, IsEntered, IsLeft, UsesRoom, account_of, ask_room, kept_of, live_of, new_account, position_of}
pub use Rattle.cap_asks.specs.Impossible.{AreAmong, AreAmongOr, AreLeftBy, Want}
pub use Rattle.cap_base.proofs.Amounts.{amount_of, amounts_fit, fits_amounts}
pub use Rattle.cap_base.proofs.lists.Filters.{filter_none, filter_whole, find_mapped_at, length-kept, map_twice}
pub use Rattle.cap_base.proofs.lists.Members.{IsIn, each_of, found, in_either, in_filter, in_map, none_in, of_each, of_filter, of_map}
pub use Rattle.cap_base.proofs.lists.Sums.{one_where, sum_by_map}
pub use Rattle.cap_base.proofs.lists.Tests.{bytes_itself, bytes_turned, kept_if, not_none, numbers_turned, or_false, same_test, value_of}
pub use Rattle.cap_base.proofs.paths.Paths.{under_itself}
pub use Rattle.cap_base.specs.Amounts.{fits, part, times}
pub use Rattle.cap_base.specs.Cascade.{earliest, holds_of}
pub use Rattle.cap_base.specs.LimitTests.{fits_maximum, fits_user_limit}
pub use Rattle.cap_base.specs.Limits.{applications_max, resources_max}
pub use Rattle.cap_base.specs.Listing.{IsListedFromRoot}
pub use Rattle.cap_base.specs.Members.{IsRising}
pub use Rattle.cap_base.specs.Paths.{is_under, root_path}
pub use Rattle.cap_base.specs.Settings.{QueueRow, Settings}
pub use Rattle.cap_base.specs.Trees.{HasDistinctPaths}
pub use Rattle.cap_base.specs.declared.no_memory.NoMemory.{NoMemory}
pub use Rattle.cap_commit.specs.Admission.{limit_tests, load_sight, own_reservation, size_tests, taken_back}
pub use Rattle.cap_commit.specs.ClusterState.{AreConsistent, AreOutOfReach, ClusterState, FollowsWaiting, IsCluster, IsInLeaf, IsRowOf, IsWaitedAt, Parts, flat_of, numbers_of, of_cluster, waits_where}
pub use Rattle.cap_commit.specs.Owners.{containers_owned, owns}
pub use Rattle.cap_commit.specs.declared.limits.Limits.{Limits}
pub use Rattle.cap_laws.proofs.bounds.Formed.{unrefused_leaf}
pub use Rattle.cap_laws.proofs.bounds.KeptReservations.{ask_put, report_is, told_is, unknown_is}
pub use Rattle.cap_laws.proofs.bounds.ReservedAfter.{reserve_apart}
pub use Rattle.cap_laws.proofs.bounds.ReservedNodes.{its_node_there, none_reserved_yet, part_removed, part_reserved, reserved_changed, reserved_gone, reserved_joined}
pub use Rattle.cap_laws.proofs.bounds.Wanting.{nodes_on, on_nodes}
pub use Rattle.cap_laws.proofs.calls.Lessening.{IsSite, change_stands}
pub use Rattle.cap_laws.proofs.calls.Moves.{AppsChange, KeepsApp, ends_change, grant_change, only_app}
pub use Rattle.cap_laws.proofs.calls.Refreshing.{refreshed_path}
pub use Rattle.cap_laws.proofs.calls.Registering.{may_enter, may_join}
pub use Rattle.cap_laws.proofs.choice.Proposers.{held_for, seen_is}
pub use Rattle.cap_laws.proofs.choice.Reasons.{rejected_exactly}
pub use Rattle.cap_laws.proofs.ending.EndsInOrder.{none_pass}
pub use Rattle.cap_laws.proofs.ending.EndsLeft.{AreEnding, AreNamed, all_ended, all_named, few_ended, fewer_left, first_above, first_found, none_ended, none_there, none_yet, one_ended, one_named, other_there}
pub use Rattle.cap_laws.proofs.lists.Parts.{part_filter}
pub use Rattle.cap_laws.proofs.telling.Replying.{other_room, some_room}
pub use Rattle.cap_laws.proofs.uses.Counting.{count_entered, count_positive, count_without, only_one, unused}
pub use Rattle.cap_laws.proofs.uses.Idle.{idle_use}
pub use Rattle.cap_laws.proofs.uses.Tallies.{HoldsSame, Test, change_holds, coming_holds, count_changed, count_of, ended_amount, going_holds, length_used, same_use, sum_without, used_by}
pub use Rattle.cap_laws.proofs.uses.UseSums.{if_less, on_some_node, reserved_on_nodes, sum_below, taken}
pub use Rattle.cap_laws.specs.EngineLaws.{HasDistinctNumbers, container_numbers}
pub use Rattle.cap_laws.specs.Reservations.{AreReserved, fits_its_node}
pub use Rattle.cap_model.proofs.lists.Numbered.{find_others, find_with_more, found_by_number, rising_kept, rising_more, rising_to_high}
pub use Rattle.cap_model.proofs.uses.Measures.{counted, counts, live_part, reserved_part, same_counts, standing, use_amount}
pub use Rattle.cap_model.specs.Admission.{IsAdmissible, NeedsOf, NodeProposal, broken_level, fits_free, fits_total, is_grant, is_reserved_for, is_wanted, leaf_path, node_reservation, proposed_ask, reason_of, stays_in_maxima, stays_in_maximum, stays_in_user_limit, use_after, user_name}
pub use Rattle.cap_model.specs.Allocate.{after_telling, kept_reply, nothing_told}
pub use Rattle.cap_model.specs.Asking.{keep_first, reservations_left, rounded_ask}
pub use Rattle.cap_model.specs.Asks.{Ask}
pub use Rattle.cap_model.specs.Bounds.{AreApart, IsLeaf}
pub use Rattle.cap_model.specs.Ending.{after_ends, complete, is_among, with_ends, without_containers}
pub use Rattle.cap_model.specs.Events.{add_reservation, after_grant, after_reserve, launch, news_of, take_one}
pub use Rattle.cap_model.specs.FinishMaster.{after_finish_master, remove_app}
pub use Rattle.cap_model.specs.Flat.{App, AppTable, ClusterNode, Container, Flat, NodeTable, Reservation, app_at, app_in, change_app, change_node, containers_of, containers_on, is_for, node_at, node_in, queue_at, reservation_on, with_reserved}
pub use Rattle.cap_model.specs.News.{AllocateReply, Grant}
pub use Rattle.cap_model.specs.NodeGone.{remove_node}
pub use Rattle.cap_model.specs.QueueCalls.{queue_report}
pub use Rattle.cap_model.specs.Refresh.{refreshed_queue}
pub use Rattle.cap_model.specs.RegisterNode.{add_node, new_node, sum_of_totals}
pub use Rattle.cap_model.specs.Reporting.{HasNumbers, HasRoomForReplies, IfAllocate, IsNoAllocate, NewsRoom, full_reply, news_most, no_news, reported_of, reports_most}
pub use Rattle.cap_model.specs.Sight.{AppSight, NodeSight, QueueSight, Sight, app_sight, node_sight, queue_sight, queues_to, seen_app, seen_node, seen_queue, sight_of, still_wanted}
pub use Rattle.cap_model.specs.Submit.{add_app, new_app, submit_refusal}
pub use Rattle.cap_model.specs.Uses.{held_on, queue_use, user_use}
pub use Rattle.cap_model.specs.declared.ask.Key.{Key}
pub use Rattle.cap_model.specs.declared.news.Cause.{Cause}
pub use Rattle.cap_model.specs.declared.news.Cause.TheVariants.{Released}
pub use Rattle.cap_model.specs.declared.news.End.{End}
pub use Rattle.cap_model.specs.declared.proposal.ProposalKind.{ProposalKind}
pub use Rattle.cap_model.specs.declared.proposal.Reason.{Reason}
pub use Rattle.cap_model.specs.declared.proposal.Reason.TheVariants.{OverMaximum, OverUser}
pub use Rattle.cap_model.specs.declared.replies.AllocateNumbers.{AllocateNumbers}
pub use Rattle.cap_model.specs.declared.reply.ReplyWith.{ReplyWith}
pub use Rattle.cap_model.specs.declared.report.QueueReport.{QueueReport}
pub use Rattle.cap_model.specs.declared.request.Request.{Request}
pub use Rattle.cap_nodes.proofs.Dropping.{all_elsewhere, is_elsewhere, others_elsewhere}
pub use Rattle.cap_nodes.specs.Loads.{Load, made_after}
pub use Rattle.cap_nodes.specs.Tables.{IsLoadIn, IsSound, could_take, free_on}
pub use Rattle.cap_tree.proofs.Listings.{any_kept, path_kept, same_path, set_running, settings_stay, state_in_settings}
pub use Rattle.cap_tree.proofs.OneUser.{count_where, moved_own, some_row}
pub use Rattle.cap_tree.proofs.RowPaths.{at_position}
pub use Rattle.cap_tree.proofs.Sizes.{part_fits}
pub use Rattle.cap_tree.specs.Count.{Count, IsPart, of_count, one_app, use_alone, zero_count}
pub use Rattle.cap_tree.specs.Limits.{over_limit}
pub use Rattle.cap_tree.specs.Measure.{Measure}
pub use Rattle.cap_tree.specs.Queue.{IsUnused, MayGive, MayLeave, Queue, count_in, moved_above, moved_at, of_user, use_of, user_row, with_running, with_settings}
pub use Rattle.cap_tree.specs.QueueLaws.{user_counts, zero_counts}
pub use Rattle.cap_tree.specs.Rows.{AreRows, IsAt, Row, active_in, applied_row, changed_at, entered_row, has_children, is_running, left_row, lowered_row, moved_row, queues_of, root_use, rows_to, settings_of_row, user_row_at, with_row_of_path, with_state}
pub use Rattle.cap_tree.specs.Spot.{HoldsOfItem, IsPosition, item_at, path_at}
pub use Rattle.cap_tree.specs.UserLaws.{no_user_counts}
pub use Rattle.cap_tree.specs.declared.over_limit.OverLimit.{OverLimit}
pub use Rattle.cap_tree.specs.declared.over_limit.OverLimit.TheVariants.{Maximum, User}
pub use Rattle.cap_vector.proofs.AmountLemmas.{amount-exchanged, amount-less, amount-zeros, is_exchanged, length-less}
pub use Rattle.cap_vector.specs.Rounding.{round_up}
pub use Rattle.cap_vector.specs.Vector.{Fits, IsWithin, amount, amount_max, amounts_exchanged, less, plus, sum_max, zeros}
