-- What the proofs here take from elsewhere.
pub use Rattle.std.proofs.Common.{Bool, Err, IfSome, List, MatchOption, None, Ok, Option, Result, Some, [], add-one, ap, arith, cond, drop, eqb, false, filter, get_or, inl, inr, length, length-drop, map, refl, rules, set, subst, suc, sum_by, sym, take, true, zero, ℕ, ◌&&◌, ◌*◌, ◌++◌, ◌+◌, ◌-◌, ◌<◌, ◌^◌, ◌∙◌, ◌∷◌, ◌≡◌, ◌≢◌, ◌≤◌, ◌⊎◌}
pub use Rattle.std.proofs.Math.Seq.{drop-cons}
pub use Rattle.std.proofs.lemmas.Bool.{and_from, and_parts, cases_eq, cases_lt, eq-eqb, false_from_ne_true, false≢true, ltb-false, ltb-true, ne_eqb}
pub use Rattle.std.proofs.lemmas.Bool.Decides.{nat_tests}
pub use Rattle.std.proofs.lemmas.Cmp.{on_total, tied_itself, upto}
pub use Rattle.std.proofs.lemmas.List.{append-nil, append_assoc, drop-map, drop_all, get_or-map, get_or-set_other, get_or-set_same, get_or_default, get_or_past, length-append, length-map, length-set, length-take, length-take-le, map-append, map-id, nil_from_length, set-get_or, take_all, take_more}
pub use Rattle.std.proofs.lemmas.List.Edits.{get_or-insert_above, get_or-insert_at, get_or-insert_below, get_or-remove_above, get_or-remove_below, length-insert, length-remove}
pub use Rattle.std.proofs.lemmas.List.Elements.{All-append, All-cons, All-from_recursion, All-get_or, All-map, All-nil, All-set, recursion_from_All}
pub use Rattle.std.proofs.lemmas.List.Sums.{get_or-le-sum_by, sum_by-append, sum_by-cons, sum_by-set, sum_by-take-le, sum_by_push}
pub use Rattle.std.proofs.lemmas.Map.Entries.{option_filter}
pub use Rattle.std.proofs.lemmas.Map.Iter.{rest_more, rest_so_far}
pub use Rattle.std.proofs.lemmas.Map.Keys.{IsDistinct-head, IsDistinct-tail}
pub use Rattle.std.proofs.lemmas.Map.Text.{is_eq-slice_cmp}
pub use Rattle.std.proofs.lemmas.Option.{slice_get-get_or, slice_get_past, slice_get_read, slice_get_within}
pub use Rattle.std.proofs.lemmas.Result.{on_err_weaker, on_ok_weaker}
pub use Rattle.std.proofs.lemmas.Slice.Eq.{bytes_eq-Decides}
pub use Rattle.std.specs.Borrow.{RattleType}
pub use Rattle.std.specs.Cmp.{IsTotalOrder}
pub use Rattle.std.specs.Cmp.Lexicographic.{nat_list_cmp_total, options_total, pointwise, slice_cmp}
pub use Rattle.std.specs.FinMap.{from_entries, get-from_entries}
pub use Rattle.std.specs.List.{All, AllByRecursion, IsDistinct, insert, list_all, list_any, position_or_len, remove, slice_get, starts_with}
pub use Rattle.std.specs.Map.{keys_of, lookup}
pub use Rattle.std.specs.Map.Iter.{deref_pair}
pub use Rattle.std.specs.Mem.{FitsInMemory}
pub use Rattle.std.specs.Option.{option_cmp, option_copied, option_map_or}
pub use Rattle.std.specs.Ordering.{is_gt, is_lt, is_ne, nat_cmp, on, ordering_reverse, ordering_then}
pub use Rattle.std.specs.Prelude.{IsTrue, OnErr, OnOk, bytes_eq, find, if◌then◌else◌, is_some, nat_eq, nat_lt, not, option_map, ◌==◌, ◌||◌, ◌↔◌}
pub use Rattle.std.specs.Vec.{vec_capacity, vec_len}
pub use Rattle.std.specs.declared.alloc.Allocator.{Ghosts}
pub use Rattle.std.specs.declared.cmp.Ordering.{Ordering}
pub use Rattle.std.specs.declared.cmp.Ordering.TheVariants.{Equal, Greater, Less}
pub use Rattle.cap_base.proofs.Amounts.{amounts_fit, fits_amounts}
pub use Rattle.cap_base.proofs.lists.Filters.{filter_same, length-kept, map_same, map_twice}
pub use Rattle.cap_base.proofs.lists.Members.{IsIn, all_in, each_of, in_either, in_left, in_map, in_right, none_in, of_each, of_map}
pub use Rattle.cap_base.proofs.lists.Tests.{bytes_itself, bytes_turned, or_left, or_right, same_test}
pub use Rattle.cap_base.proofs.paths.Levels.{no_levels}
pub use Rattle.cap_base.proofs.paths.Paths.{IsUnder, dot_in, has_dot, head_is, is_under_it, name_has_none, tail_is, under_is, under_itself}
pub use Rattle.cap_base.specs.Amounts.{fits, times}
pub use Rattle.cap_base.specs.Cascade.{holds_of}
pub use Rattle.cap_base.specs.Levels.{Level, level_cmp}
pub use Rattle.cap_base.specs.LimitTests.{fits_maximum, fits_user_limit}
pub use Rattle.cap_base.specs.Limits.{depth_max, factor_max, number_end, queues_max}
pub use Rattle.cap_base.specs.Listing.{IsListed, IsListedFromRoot, IsListing, MayFollow}
pub use Rattle.cap_base.specs.Paths.{is_under, name_of, root_path}
pub use Rattle.cap_base.specs.Settings.{QueueRow}
pub use Rattle.cap_base.specs.Texts.{dot}
pub use Rattle.cap_base.specs.Trees.{HasDistinctPaths, depth, has_path, has_same_paths}
pub use Rattle.cap_tree.specs.Branch.{AreSpots, IsBranch, of_tree, root_count}
pub use Rattle.cap_tree.specs.Count.{Count, IsPart, MayMove, count_moved, is_zero_count, of_count, one_app, use_alone, zero_count}
pub use Rattle.cap_tree.specs.Finding.{IsFoundAt, IsMissing, IsStart, is_parent}
pub use Rattle.cap_tree.specs.Growth.{IsClosed, IsGrowing}
pub use Rattle.cap_tree.specs.Limits.{broken_level, over_limit}
pub use Rattle.cap_tree.specs.Measure.{Measure, StaysBounded}
pub use Rattle.cap_tree.specs.Queue.{HasSettingsOf, IsUnused, MayGive, MayLeave, Queue, Users, count_in, moved_above, moved_at, of_queue, of_user, of_users, queue_count, stays_in_maximum, stays_in_user_limit, use_of, user_row, with_count, with_running, with_settings}
pub use Rattle.cap_tree.specs.QueueLaws.{count_le_all, is_zero_counts, moved_counts, user_counts, zero_counts}
pub use Rattle.cap_tree.specs.Rows.{AreRows, FindsQueue, HasLastName, HasRoomAtRoot, IsAt, PositionsArePaths, Row, active_in, changed_at, has_children, is_running, items_to, queues_of, root_use, rows_to, settings_of_row, user_row_at, with_row, with_row_of_path, with_state}
pub use Rattle.cap_tree.specs.Service.{AreApart, AreSorted, ComesAfter, HasNoneAfter, HasPathsOnce, HasOrderOfOthers, IsFirstAfter, IsOrderOf, IsOrderOfOthers, IsPlaceAfter, IsTakenOut, IsThere, IsTop, child_cmp, child_item, child_levels, children_at, is_after, is_before, items_along, kid_items, level_at, level_of_queue, level_of_row, levels_at, queue_cmp, row_at, that_pass, was_at, was_nowhere}
pub use Rattle.cap_tree.specs.Spot.{HoldsOfItem, IsAdded, IsAddedAt, IsPosition, Spot, along, below, change_along, first_failing, first_of, has_below, item_at, last_position, leads_below, leads_to, made_of, path_at, position_of_path, spots, under}
pub use Rattle.cap_tree.specs.UserLaws.{same_users, sum-no_users, sum_of, user_row-with_count}
pub use Rattle.cap_tree.specs.Walk.{AreMarked, HasNoMarkAfter, HasNoMarkBelow, IsAfterChild, IsFirstMark, IsMarkAfter, IsMarkBelow, IsUpTo, IsUpToChild, mark_at, place_cmp}
pub use Rattle.cap_tree.specs.declared.found.Found.{Found}
pub use Rattle.cap_tree.specs.declared.found.Found.TheVariants.{Leaf, Missing, Parent}
pub use Rattle.cap_tree.specs.declared.found.Kind.{Kind}
pub use Rattle.cap_tree.specs.declared.over_limit.OverLimit.TheVariants.{Maximum, User}
pub use Rattle.cap_vector.proofs.AmountLemmas.{amount-exchanged, amount-zeros}
pub use Rattle.cap_vector.specs.Fullness.{shares, shares_cmp}
pub use Rattle.cap_vector.specs.Vector.{FitsTimes, IsWithin, amount, amounts_exchanged, sum_max}
pub use Rattle.indexmap.specs.IndexMap.{insert_entry}
pub use Rattle.smallvec.specs.SmallVec.{HasRoomFor, SmallVec}
