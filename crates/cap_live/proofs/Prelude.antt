-- What the proofs here take from elsewhere.
pub use Rattle.cap_asks.proofs.Keeping.{before_not_same}
pub use Rattle.cap_asks.specs.Accounts.{Account, AreAfter, AreKept, HeldApp, WantAtLeast, is_before}
pub use Rattle.cap_asks.specs.Apps.{HeldApps, account_of, is_waiting, position_of}
pub use Rattle.cap_asks.specs.Impossible.{AreAmong, Want, WantAmong, want_of}
pub use Rattle.cap_base.proofs.Amounts.{amounts_fit, fits_amounts}
pub use Rattle.cap_base.proofs.lists.Filters.{filter_mapped, find_mapped_at, map_same, map_twice}
pub use Rattle.cap_base.proofs.lists.Members.{each_of, found, in_filter, in_map, of_each, of_filter, of_map}
pub use Rattle.cap_base.proofs.lists.Sums.{sum_by_map}
pub use Rattle.cap_base.proofs.lists.Tests.{same_test, value_of}
pub use Rattle.cap_base.specs.Amounts.{fits, times}
pub use Rattle.cap_base.specs.Cascade.{holds_of}
pub use Rattle.cap_base.specs.Levels.{level_cmp}
pub use Rattle.cap_base.specs.LimitTests.{fits_maximum, fits_user_limit}
pub use Rattle.cap_base.specs.Limits.{resources_max}
pub use Rattle.cap_base.specs.Members.{IsIn, IsRising}
pub use Rattle.cap_base.specs.Paths.{is_under}
pub use Rattle.cap_base.specs.Settings.{QueueRow}
pub use Rattle.cap_base.specs.Texts.{star}
pub use Rattle.cap_commit.proofs.RowsAt.{found_row, row_at}
pub use Rattle.cap_commit.specs.Admission.{load_sight}
pub use Rattle.cap_commit.specs.ClusterState.{AreOutOfReach, ClusterState, FollowsWaiting, IsRowOf, IsWaitedAt, numbers_of, waits_where}
pub use Rattle.cap_farm.specs.Offers.{AreByKey, IsWhole}
pub use Rattle.cap_farm.specs.Ring.{IsReserved, IsTurn, node_after, ring_index}
pub use Rattle.cap_farm.specs.Rooms.{AreImpossible, IsIdle, IsImpossible, IsShut, IsShutFor, IsUnfit, in_limits, kind_by_room, taken_as}
pub use Rattle.cap_farm.specs.Service.{HasNoNextApp, IsLater, IsNextApp, IsWaiter, app_cmp, levels_to}
pub use Rattle.cap_laws.proofs.bounds.Wanting.{nodes_on, on_nodes}
pub use Rattle.cap_laws.proofs.choice.Proposers.{seen_is}
pub use Rattle.cap_live.specs.Waiters.{HasWaiter, IsServed}
pub use Rattle.cap_model.proofs.calls.KeptAsks.{same_key_is, same_key_itself}
pub use Rattle.cap_model.proofs.lists.Numbered.{found_by_number, rising_kept}
pub use Rattle.cap_model.specs.Admission.{takes_place}
pub use Rattle.cap_model.specs.Asks.{Ask, ask_key_cmp, same_key}
pub use Rattle.cap_model.specs.Bounds.{AreApart}
pub use Rattle.cap_model.specs.Choice.{level_of}
pub use Rattle.cap_model.specs.Flat.{App, AppTable, ClusterNode, Flat, NodeTable, Reservation, app_at, app_in, ask_at, is_for, node_in, reservation_on}
pub use Rattle.cap_model.specs.Sight.{AppSight, NodeSight, QueueSight, Sight, app_sight, node_sight, queue_sight, queues_to, seen_app, seen_node, seen_queue, sight_of, still_wanted}
pub use Rattle.cap_model.specs.Uses.{held_on, user_use}
pub use Rattle.cap_model.specs.declared.ask.Key.{Key}
pub use Rattle.cap_model.specs.declared.proposal.ProposalKind.TheVariants.{Grant, Reserve}
pub use Rattle.cap_nodes.proofs.Most.{fits_by_most}
pub use Rattle.cap_nodes.specs.Loads.{Load}
pub use Rattle.cap_nodes.specs.Tables.{IsLoadIn, could_take, empty_sight}
pub use Rattle.cap_tree.proofs.RowPaths.{along_rows, at_position, none_fails}
pub use Rattle.cap_tree.specs.Limits.{over_limit}
pub use Rattle.cap_tree.specs.Measure.{Measure}
pub use Rattle.cap_tree.specs.Queue.{Queue, stays_in_maximum, stays_in_user_limit, use_of, user_row}
pub use Rattle.cap_tree.specs.QueueLaws.{user_counts}
pub use Rattle.cap_tree.specs.Rows.{AreRows, IsAt, Row, queues_of, rows_to, settings_of_row}
pub use Rattle.cap_tree.specs.Service.{level_of_row, levels_at}
pub use Rattle.cap_tree.specs.Spot.{HoldsOfItem, IsPosition, first_failing, item_at, path_at}
pub use Rattle.cap_tree.specs.Waiting.{HasNoWaiter, IsLaterWaiter, IsNextWaiter, waiter_cmp, waiting_at}
pub use Rattle.cap_vector.proofs.AmountLemmas.{amount-exchanged, amount-less}
pub use Rattle.cap_vector.specs.Vector.{Fits, amount, amounts_exchanged, less, zeros}
pub use Rattle.std.proofs.Common.{Bool, List, [], ap, arith, cond, drop, false, inl, inr, length, map, refl, subst, suc, sym, true, zero, ℕ, ◌&&◌, ◌+◌, ◌-◌, ◌<◌, ◌∙◌, ◌∷◌, ◌≡◌, ◌≤◌, ◌⊎◌}
pub use Rattle.std.proofs.lemmas.Bool.Decides.{nat_tests}
pub use Rattle.std.proofs.lemmas.Bool.{and_from, and_parts, cases_lt, eqb-true}
pub use Rattle.std.proofs.lemmas.List.Elements.{All-map, All-weaker}
pub use Rattle.std.proofs.lemmas.List.Folds.{list_all-map}
pub use Rattle.std.proofs.lemmas.List.{drop-map, length-map, nil_from_length}
pub use Rattle.std.proofs.lemmas.Option.{get_or_from_slice_get, same_Some, slice_get-map, slice_get_read, slice_get_within}
pub use Rattle.std.proofs.lemmas.Slice.Eq.{bytes_eq-Decides}
pub use Rattle.std.specs.Borrow.{Bor}
pub use Rattle.std.specs.Cmp.Lexicographic.{slice_cmp}
pub use Rattle.std.specs.List.{All, count_by, list_all, slice_get, sum_by}
pub use Rattle.std.specs.Mem.{FitsInMemory}
pub use Rattle.std.specs.Option.{option_map_or}
pub use Rattle.std.specs.Ordering.{is_gt, is_lt, nat_cmp, ordering_then}
pub use Rattle.std.specs.Prelude.{IfSome, IsSome, IsTrue, MatchOption, None, Option, Some, bytes_eq, filter, find, is_none, is_some, not, option_and_then, option_map, ◌==◌, ◌||◌, ◌↔◌}
pub use Rattle.std.specs.declared.cmp.Ordering.TheVariants.{Equal, Greater, Less}
pub use Rattle.std.specs.declared.cmp.Ordering.{Ordering}
