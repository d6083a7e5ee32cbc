-- What the proofs here take from elsewhere.
pub use Rattle.cap_asks.proofs.Keeping.{before_not_same}
pub use Rattle.cap_asks.specs.Accounts.{Account, AreAfter, AreKept, HeldApp, is_before}
pub use Rattle.cap_asks.specs.Apps.{account_of, is_waiting, position_of, waiting_of}
pub use Rattle.cap_base.proofs.Levels.{level_cmp_total, shares_cmp_total}
pub use Rattle.cap_base.proofs.lists.Filters.{filter_mapped, filter_none, find_mapped_at, length-kept, map_same, map_twice}
pub use Rattle.cap_base.proofs.lists.Members.{IsIn, each_of, found, in_either, in_filter, in_flat_map, in_map, in_right, of_each, of_filter, of_map}
pub use Rattle.cap_base.proofs.lists.Tests.{bytes_itself, or_left, or_right, same_test}
pub use Rattle.cap_base.specs.Cascade.{holds_of}
pub use Rattle.cap_base.specs.Levels.{Level, level_cmp}
pub use Rattle.cap_base.specs.LimitTests.{fits_maximum, fits_user_limit}
pub use Rattle.cap_base.specs.Limits.{applications_max, resources_max}
pub use Rattle.cap_base.specs.Members.{IsRising}
pub use Rattle.cap_base.specs.Paths.{is_under}
pub use Rattle.cap_base.specs.Settings.{QueueRow}
pub use Rattle.cap_base.specs.Trees.{HasDistinctPaths}
pub use Rattle.cap_copy.specs.AskEntry.{AskEntry}
pub use Rattle.cap_copy.specs.AskRanges.{AreApart, AreInside, AreRanges, IsIndexOf, IsRangeOf, LiesIn}
pub use Rattle.cap_copy.specs.Entries.{ask_entries, ask_entry, asks_at, asks_of, asks_of_all, beside, beside_one, indexes, registered_of, reserved_on}
pub use Rattle.cap_copy.specs.Limits.{stays_in_limits}
pub use Rattle.cap_copy.specs.SeenApp.{AreSeen, HaveAsks, SeenApp, asks_between, range_in, user_used}
pub use Rattle.cap_copy.specs.SeenTree.{SeenRows, IsFirstFrom, IsSeenTree, SeenQueue, rows_seen, seen_cmp, IsLast, not_waiting, waiting_at, waiting_below}
pub use Rattle.cap_copy.specs.ServiceOrder.{IsNextServed, position_nth, waiting_cmp, IsFirstLater, IsLater}
pub use Rattle.cap_copy.specs.Snapshot.{AreSkips, AreWaiters, IsSkip, IsSnapshot, Seen, app_nth, queue_seen, sight_in}
pub use Rattle.cap_copy.specs.Sources.{IsCopied, IsCopy, IsStored, Parts, held_apps_in, nodes_in, seen_of, sight_of_copy}
pub use Rattle.cap_copy.specs.Taking.{IsSnapshotOf, node_seen}
pub use Rattle.cap_copy.specs.declared.ranges.AskRange.{AskRange}
pub use Rattle.cap_farm.specs.Offers.{AreByKey, IsWhole}
pub use Rattle.cap_farm.specs.Ring.{IsReserved, IsTurn, node_after, ring_index}
pub use Rattle.cap_farm.specs.Rooms.{IsIdle, IsUnfit, in_limits, taken_as}
pub use Rattle.cap_farm.specs.Service.{HasNoNextApp, IsNextApp, IsWaiter, app_cmp, levels_to}
pub use Rattle.cap_model.proofs.calls.KeptAsks.{same_key_is, same_key_itself}
pub use Rattle.cap_model.proofs.choice.Orders.{not_after_itself, not_after_other, not_after_trans}
pub use Rattle.cap_model.proofs.lists.Numbered.{found_by_number, rising_from_low, rising_kept}
pub use Rattle.cap_model.specs.Asks.{Ask, ask_key_cmp, same_key}
pub use Rattle.cap_model.specs.Choice.{level_of}
pub use Rattle.cap_model.specs.Flat.{App, AppTable, ClusterNode, NodeTable, Reservation, ask_at, is_for}
pub use Rattle.cap_model.specs.Sight.{AppSight, NodeSight, QueueSight, Sight, app_sight, queues_to, seen_app, seen_node, seen_queue, still_wanted}
pub use Rattle.cap_model.specs.Uses.{held_on}
pub use Rattle.cap_model.specs.declared.ask.Key.{Key}
pub use Rattle.cap_nodes.proofs.Sizes.{amounts_fit, container_fits, load_fits, node_fits, present_fits}
pub use Rattle.cap_nodes.specs.Tables.{free_on, left_of}
pub use Rattle.cap_tree.proofs.RowPaths.{at_position}
pub use Rattle.cap_tree.proofs.Sizes.{part_fits}
pub use Rattle.cap_tree.specs.Queue.{Queue, stays_in_maximum, use_of, user_row}
pub use Rattle.cap_tree.specs.Rows.{AreRows, IsAt, Row, items_to, queues_of, rows_to, PositionsArePaths}
pub use Rattle.cap_tree.specs.Service.{levels_at, HasPathsOnce, items_along, queue_cmp}
pub use Rattle.cap_tree.specs.ServiceLaws.{queue_cmp_total}
pub use Rattle.cap_tree.specs.Spot.{HoldsOfItem, IsPosition, item_at, path_at, Spot, change_along, leads_to, made_of, along, first_failing}
pub use Rattle.cap_tree.specs.Walk.{HasNoMarkAfter, IsFirstMark, IsMarkAfter, mark_at, place_cmp, AreMarked}
pub use Rattle.cap_vector.specs.Fullness.{shares, shares_cmp}
pub use Rattle.cap_vector.specs.Vector.{amounts_exchanged, less}
pub use Rattle.std.proofs.Common.{Bool, List, [], ap, arith, cond, drop, false, inl, inr, length, length-append, map, refl, rules, subst, suc, sym, take, true, vec_capacity, vec_len, zero, ℕ, ◌&&◌, ◌++◌, ◌+◌, ◌-◌, ◌/◌, ◌<◌, ◌∙◌, ◌∷◌, ◌≡◌, ◌≢◌, ◌≤◌, ◌⊎◌, get_or}
pub use Rattle.std.proofs.Math.ListN.{set}
pub use Rattle.std.proofs.Math.Nat.{one-le_iff_ne-zero}
pub use Rattle.std.proofs.Math.Seq.{drop-append_seam, get_or-append_seam}
pub use Rattle.std.proofs.lemmas.Bool.Decides.{nat_tests}
pub use Rattle.std.proofs.lemmas.Bool.{and_parts, cases_Bool, cases_lt, eq-eqb, eqb-true, ne_eqb, cases_eq}
pub use Rattle.std.proofs.lemmas.Cmp.{lists_total, nat_cmp_total, on_total, ranked, then_total, tied_itself}
pub use Rattle.std.proofs.lemmas.Grind.{flat_map-append, get_or_default_zero}
pub use Rattle.std.proofs.lemmas.List.Concat.{flat_map-cons}
pub use Rattle.std.proofs.lemmas.List.Folds.{list_all-map}
pub use Rattle.std.proofs.lemmas.List.Elements.{All-push, filter-append}
pub use Rattle.std.proofs.lemmas.List.Sums.{count_by_more_no, count_by_more_yes}
pub use Rattle.std.proofs.lemmas.List.{append-nil, append_assoc, drop-append-le, drop-map, length-drop, length-map, length-take-le, map-append, map-id, map_push, nil_from_length, take-append-le, take_all, take_more, get_or_default, get_or_append_left, get_or-set_other, get_or-set_same, length-set}
pub use Rattle.std.proofs.lemmas.Option.{get_or_from_slice_get, same_Some, slice_get-map, slice_get_read, slice_get_within, slice_get-get_or}
pub use Rattle.std.proofs.lemmas.Slice.Eq.{bytes_eq-Decides}
pub use Rattle.std.specs.Borrow.{RattleType}
pub use Rattle.std.specs.Cmp.Lexicographic.{slice_cmp}
pub use Rattle.std.specs.Cmp.{IsTotalOrder, nat_cmp_is}
pub use Rattle.std.specs.List.{All, list_all, list_any, slice_get, take-map}
pub use Rattle.std.specs.Mem.{FitsInMemory}
pub use Rattle.std.specs.Option.{IfSome, MatchOption, option_map_or}
pub use Rattle.std.specs.Ordering.{MatchOrdering, is_gt, is_lt, nat_cmp, ordering_reverse, ordering_then}
pub use Rattle.std.specs.Prelude.{None, Option, Some, bytes_eq, filter, find, flat_map, nat_lt, not, option_map, slice_index, unwrap_or, ◌==◌, if◌then◌else◌, is_some}
pub use Rattle.std.specs.declared.alloc.Allocator.{Ghosts}
pub use Rattle.std.specs.declared.cmp.Ordering.TheVariants.{Equal, Greater, Less}
pub use Rattle.std.specs.declared.cmp.Ordering.{Ordering}
