-- What the proofs here take from elsewhere.
pub use Rattle.std.proofs.Common.{Bool, List, [], ap, arith, cond, drop, false, inl, inr, length, refl, subst, suc, sym, take, true, zero, ℕ, ◌*◌, ◌++◌, ◌+◌, ◌-◌, ◌<◌, ◌∙◌, ◌∷◌, ◌≡◌}
pub use Rattle.std.proofs.lemmas.Bool.Decides.{Decides-eqb, nat_tests}
pub use Rattle.std.proofs.lemmas.List.{append-nil, append_assoc, drop-map, get_or-take, length-map, map-append, take-append-drop, take-map, take-replicate, take-take, take_all}
pub use Rattle.std.proofs.lemmas.List.Elements.{All-append, All-cons, All-filter, All-head, All-map, All-nil, All-push, All-tail, All-weaker}
pub use Rattle.std.proofs.lemmas.List.FromFn.{length-map-range_with_len}
pub use Rattle.std.proofs.lemmas.List.Splits.{join_with_byte-slice_split}
pub use Rattle.std.proofs.lemmas.Option.{same_Some}
pub use Rattle.std.proofs.lemmas.Slice.Eq.{bytes_eq-Decides, starts_is}
pub use Rattle.std.specs.Cmp.Lexicographic.{slice_cmp}
pub use Rattle.std.specs.List.{All, cons_option, fold, join_with_byte, list_all, list_any, prefix_len, range_with_len, slice_split, starts_with, suffix_len}
pub use Rattle.std.specs.Option.{option_map_or, option_or}
pub use Rattle.std.specs.Ordering.{is_gt, is_lt, nat_cmp, ordering_then}
pub use Rattle.std.specs.Prelude.{Err, None, Ok, Option, Result, Some, bytes_eq, codes, count_by, filter, find, flat_map, if◌then◌else◌, is_none, is_some, map, max, min, nat_eq, nat_le, nat_lt, not, option_and_then, option_map, position, slice_index, unwrap_or, ◌%◌, ◌&&◌, ◌==◌, ◌||◌}
pub use Rattle.std.specs.Str.Lines.{lines, lines_of_parts, strip_carriage_return}
pub use Rattle.std.specs.declared.cmp.Ordering.TheVariants.{Equal}
pub use Rattle.cap_base.proofs.Amounts.{amount_of}
pub use Rattle.cap_base.proofs.lists.Filters.{filter_mapped, filter_same, find_mapped_at, map_twice}
pub use Rattle.cap_base.proofs.lists.Members.{each_of, found, in_either, of_each, of_filter, of_map}
pub use Rattle.cap_base.proofs.lists.Sums.{sum_by_agree, sum_by_map, sum_of_zeros}
pub use Rattle.cap_base.specs.Amounts.{fits, part, sum_where, times}
pub use Rattle.cap_base.specs.Cascade.{earliest, holds_of}
pub use Rattle.cap_base.specs.Levels.{level_cmp}
pub use Rattle.cap_base.specs.LimitTests.{fits_maximum, fits_user_limit}
pub use Rattle.cap_base.specs.Limits.{keys_max, live_max, news_max, nodes_max, number_end, resources}
pub use Rattle.cap_base.specs.Members.{IsIn}
pub use Rattle.cap_base.specs.Paths.{is_under, name_of, root_path}
pub use Rattle.cap_base.specs.Settings.{QueueRow, Settings}
pub use Rattle.cap_base.specs.Texts.{dot}
pub use Rattle.cap_base.specs.Trees.{has_path, has_same_paths}
pub use Rattle.cap_base.specs.declared.properties.entry.Entry.{Entry}
pub use Rattle.cap_base.specs.declared.properties.fault.ConfigFault.{ConfigFault}
pub use Rattle.cap_base.specs.declared.properties.setting.Setting.{Setting}
pub use Rattle.cap_base.specs.declared.properties.setting.Setting.TheVariants.{Capacity, MaximumApplications, MaximumCapacity, MaximumGpu, MaximumMemory, MaximumVcores, MinimumGpu, MinimumMemory, MinimumVcores, Queues, State, UserLimitFactor}
pub use Rattle.cap_base.specs.declared.properties.value.Value.{Value}
pub use Rattle.cap_base.specs.properties.Entries.{and_then, both_trimmed, is_passed_over, is_printable, key_text, read_lines, with_key, with_parts, with_value}
unfoldable pub use Rattle.cap_base.specs.properties.Entries.{entry_of, line_parts, read_after}
pub use Rattle.cap_base.specs.properties.First.{first_fault, settings_in}
pub use Rattle.cap_base.specs.properties.Keys.{cluster_settings, key_of_parts, key_on, key_or, last_dot, parts_round, path_of, prefix, queue_settings, takes}
unfoldable pub use Rattle.cap_base.specs.properties.Keys.{key_at, key_of, parts_at_last_dot, queue_key, setting_named, spelling}
pub use Rattle.cap_base.specs.properties.Queues.{same_setting}
unfoldable pub use Rattle.cap_base.specs.properties.Rows.{settings_of}
pub use Rattle.cap_base.specs.properties.Seen.{contains_bytes}
pub use Rattle.cap_base.specs.properties.Tests.{cluster_entry, number_or}
pub use Rattle.cap_base.specs.properties.Values.{value_of}
pub use Rattle.cap_config.proofs.RowAmounts.{settings_have}
pub use Rattle.cap_config.proofs.RowTrees.{made_of}
pub use Rattle.cap_config.specs.Laws.{QueueHasAmounts}
pub use Rattle.cap_examples.specs.ExampleClusters.{after_grants, ask_anywhere, container, key, mb_and_vcores, two_queues}
pub use Rattle.cap_examples.specs.ExampleProposals.{one_asked}
pub use Rattle.cap_laws.proofs.choice.Reasons.{rejected_exactly}
pub use Rattle.cap_model.specs.Admission.{IsAdmissible, NodeProposal, asks_resource, broken_level, fits_free, fits_total, is_grant, is_reserved_for, is_wanted, leaf_path, node_reservation, proposed_ask, reason_of, room_replaced, stays_in_maxima, stays_in_maximum, stays_in_user_limit, suits_place, takes_place, use_after, user_name}
pub use Rattle.cap_model.specs.Allocate.{after_allocate, after_processed_allocate, after_telling, has_too_many_keys, is_repeated_allocate, is_too_large, kept_reply, news_report, nothing_told, released_by}
pub use Rattle.cap_model.specs.Asking.{after_ask, after_asks, is_changed, keep_first, put_ask, reservations_left, rounded_ask, with_ask, without_key}
pub use Rattle.cap_model.specs.Asks.{Ask, ask_key_cmp, same_key}
pub use Rattle.cap_model.specs.Candidates.{admissible_on, choice_from, choice_on, first_choice, first_served, proposals_of, sooner}
pub use Rattle.cap_model.specs.Choice.{is_after, level_of, ring_from}
pub use Rattle.cap_model.specs.Ending.{after_ends, is_among, named_among, with_ends}
pub use Rattle.cap_model.specs.Events.{Run, Step, after_grant, after_reserve, grant_proposal, news_of, reserve_proposal, take_one}
pub use Rattle.cap_model.specs.FinishMaster.{after_finish_master}
pub use Rattle.cap_model.specs.Flat.{App, ClusterNode, Container, Flat, Reservation, app_at, ask_at, containers_of, containers_on, is_for, node_at, queue_at, reservation_on, with_app, with_node}
pub use Rattle.cap_model.specs.Heartbeat.{after_heartbeat, after_processed_heartbeat, beat_of, ended_by, is_repeated_heartbeat, no_beat}
pub use Rattle.cap_model.specs.News.{AllocateReply, Reply}
pub use Rattle.cap_model.specs.NodeGone.{without_node}
pub use Rattle.cap_model.specs.QueueCalls.{cluster_report, queue_report}
pub use Rattle.cap_model.specs.Refresh.{after_refresh, first_of_queue, first_of_settings, has_its_queues, lines_refusal, refresh_refusal, refreshed_queue, refreshed_settings}
pub use Rattle.cap_model.specs.RegisterNode.{new_node, total_of_nodes}
pub use Rattle.cap_model.specs.Replies.{Replies, after_request, early_refusal, granted_cluster, granted_reply, may_grow, refusal_of, refused_or, reply_to}
pub use Rattle.cap_model.specs.ResponseIds.{is_bad, repeats}
pub use Rattle.cap_model.specs.Sight.{AppSight, NodeSight, QueueSight, Sight, app_sight, node_sight, queue_sight, queues_to, seen_app, seen_node, seen_queue, sight_of, still_wanted}
pub use Rattle.cap_model.specs.Submit.{has_children, is_running, new_app}
pub use Rattle.cap_model.specs.Uses.{Holding, holdings, node_free, node_held, of_container, of_reservation, queue_use, use_of, user_use}
pub use Rattle.cap_model.specs.declared.ask.Key.{Key}
pub use Rattle.cap_model.specs.declared.event.Event.{Event}
pub use Rattle.cap_model.specs.declared.news.Cause.{Cause}
pub use Rattle.cap_model.specs.declared.proposal.Reason.TheVariants.{FitsNow, NeverFits, NoApp, NoAsk, NoNode, NoRoom, NumbersSpent, OtherAsk, OverMaximum, OverUser, ReservedByOther, TooManyLive, WrongPlace}
pub use Rattle.cap_model.specs.declared.refusal.Refusal.{Refusal}
pub use Rattle.cap_model.specs.declared.request.Request.{Request}
pub use Rattle.cap_narrow.specs.ClusterLaws.{ChoicesNarrow, ReasonsNarrow, SightsNarrow, SightsShowNone, UsesNarrow}
pub use Rattle.cap_narrow.specs.Clusters.{HasNone, SetsNone, ShowsNone, WantNone, narrow, narrow_allocate_reply, narrow_app, narrow_app_sight, narrow_ask, narrow_container, narrow_grant, narrow_node, narrow_node_sight, narrow_proposal, narrow_queue_sight, narrow_reservation, narrow_sight}
pub use Rattle.cap_narrow.specs.Example.{GuaranteesRaiseNone, OneGrantWithoutGpus, asked_without_gpus, lines_with_gpus, mb_vcores_and_gpus, queues_with_gpus}
pub use Rattle.cap_narrow.specs.Gpus.{OpeningsHaveNone, RaisesToNoGpu, RefreshesAskNone, TextsWithoutGpus, TextsWithoutLeastGpus, stands_in}
pub use Rattle.cap_narrow.specs.Narrowing.{EndsInNone}
pub use Rattle.cap_narrow.specs.Steps.{AsksNone, CallsAskNone, EventAsksNone, RunsNarrow, narrow_cluster_report, narrow_event, narrow_queue_report, narrow_reply, narrow_request}
pub use Rattle.cap_narrow.specs.VectorLaws.{ExchangedNarrow, FitsNarrow, FullnessNarrow, MaximumNarrow, RoundingEndsInNone, RoundingNarrow, SameNarrow, TimesNarrow, UserLimitNarrow}
pub use Rattle.cap_text.specs.Pieces.{from_first_word, is_space, to_last_word}
unfoldable pub use Rattle.cap_text.specs.Pieces.{trimmed_bytes}
pub use Rattle.cap_vector.proofs.AmountLemmas.{length-less, length-plus}
pub use Rattle.cap_vector.specs.AmountLaws.{amount-exchanged, amount-plus}
pub use Rattle.cap_vector.specs.Fullness.{fractions, greatest_first, put_share, share_cmp, shares, shares_cmp}
pub use Rattle.cap_vector.specs.Rounding.{raised_amount}
pub use Rattle.cap_vector.specs.Vector.{amount, amount_max, amounts_exchanged, by_amount, is_within, is_zero, zeros}
unfoldable pub use Rattle.cap_vector.specs.Vector.{less, plus}
pub use Rattle.cap_vector.specs.declared.fullness.Share.{Share}
