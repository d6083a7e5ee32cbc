-- What the proofs here take from elsewhere.
pub use Rattle.std.proofs.Common.{Bool, Bor, List, None, Option, Some, [], ap, arith, false, inl, length, map, refl, subst, sym, take, true, ℕ, ◌+◌, ◌-◌, ◌∙◌, ◌∷◌, ◌≡◌}
pub use Rattle.std.proofs.lemmas.Bool.Decides.{nat_tests}
pub use Rattle.std.proofs.lemmas.List.{map-id, take_all}
pub use Rattle.std.proofs.lemmas.List.Filters.{length-filter_both}
pub use Rattle.std.proofs.lemmas.List.Sums.{length-filter}
pub use Rattle.std.specs.List.{list_any}
pub use Rattle.std.specs.Option.{option_copied}
pub use Rattle.std.specs.Prelude.{IfSome, IsSome, bytes_eq, cond, count_by, filter, find, if◌then◌else◌, is_some, nat_le, not, option_and_then, option_map, unwrap_or, ◌&&◌, ◌==◌}
pub use Rattle.cap_base.proofs.lists.Filters.{filter_same, filter_twice, filter_whole, map_same}
pub use Rattle.cap_base.proofs.lists.Members.{IsIn, each_of, found}
pub use Rattle.cap_base.proofs.lists.Tests.{and_true, first_holds}
pub use Rattle.cap_base.specs.Cascade.{earliest}
pub use Rattle.cap_base.specs.Limits.{nodes_max, number_end, resources}
pub use Rattle.cap_base.specs.Members.{IsRising}
pub use Rattle.cap_base.specs.Settings.{QueueRow, Settings}
pub use Rattle.cap_base.specs.properties.First.{settings_in}
pub use Rattle.cap_commit.proofs.Fitting.{amounts_in_cluster, node_in_cluster, nodes_in_cluster}
pub use Rattle.cap_commit.proofs.RowsAt.{is_found}
pub use Rattle.cap_commit.proofs.Sizes.{tree_fits}
pub use Rattle.cap_config.specs.Laws.{HasAmounts, HasOneAnswer, QueueHasAmounts, SettingsHaveAmounts}
pub use Rattle.cap_laws.proofs.calls.Registering.{none_is_large}
pub use Rattle.cap_laws.proofs.ending.NamedEnds.{among_named, count_named, is_named}
pub use Rattle.cap_laws.proofs.numbers.Balance.{among_itself}
pub use Rattle.cap_laws.specs.EngineLaws.{HasDistinctNumbers}
pub use Rattle.cap_model.proofs.lists.Numbered.{found_by_number, rising_kept}
pub use Rattle.cap_model.specs.Ending.{after_ends, is_among}
pub use Rattle.cap_model.specs.Flat.{ClusterNode, Container, Flat, NodeTable, containers_on, node_at, node_in, queue_at, with_node}
pub use Rattle.cap_model.specs.Heartbeat.{after_beat, after_heartbeat, after_processed_heartbeat, beat_of, ended_by, heartbeat_refusal, is_repeated_heartbeat, no_beat}
pub use Rattle.cap_model.specs.NodeGone.{node_gone_refusal, without_node}
pub use Rattle.cap_model.specs.QueueCalls.{after_set_queue_state, queue_refusal, queue_report}
pub use Rattle.cap_model.specs.Refresh.{after_refresh, first_of_queue, first_of_settings, has_its_queues, with_settings}
pub use Rattle.cap_model.specs.RegisterNode.{register_node_refusal, sum_of_totals, total_of_nodes}
pub use Rattle.cap_model.specs.Replies.{Replies, after_request, granted_cluster, granted_reply, refusal_of, reply_to}
pub use Rattle.cap_model.specs.ResponseIds.{is_bad_id, is_current, is_repeated, next_response}
pub use Rattle.cap_model.specs.declared.news.Cause.{Cause}
pub use Rattle.cap_model.specs.declared.refusal.Refusal.{Refusal}
pub use Rattle.cap_model.specs.declared.refusal.Refusal.TheVariants.{HostTaken, NumbersSpent, TooManyNodes, TotalTooLarge, ZeroResource}
pub use Rattle.cap_model.specs.declared.replies.HeartbeatReply.{HeartbeatReply}
pub use Rattle.cap_model.specs.declared.report.QueueReport.{QueueReport}
pub use Rattle.cap_model.specs.declared.request.Request.{Request}
pub use Rattle.cap_model.specs.declared.request.Request.TheVariants.{Refresh}
pub use Rattle.cap_tree.specs.Rows.{IsAt, Row, queues_of}
pub use Rattle.cap_tree.specs.Spot.{path_at}
pub use Rattle.cap_vector.specs.Vector.{amount_max, is_within, is_zero, plus}
