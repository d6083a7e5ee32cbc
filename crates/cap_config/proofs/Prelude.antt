-- What the proofs here take from elsewhere.
pub use Rattle.std.proofs.Common.{Bool, Err, List, None, Ok, Option, Result, Some, [], add-one, ap, append_assoc, arith, cond, drop, drop-cons, eqb, false, get_or, inl, inr, leb, length, length-append, length-take-le, ltb, max, min, nat_cmp, not, refl, replicate, rules, subst, suc, sym, take, tests, true, zero, ℕ, ◌++◌, ◌+◌, ◌-◌, ◌<◌, ◌∙◌, ◌∷◌, ◌≡◌, ◌≤◌}
pub use Rattle.std.proofs.Math.Seq.{get_or-append_seam, take-append-add, take-append_seam}
pub use Rattle.std.proofs.lemmas.Bool.{eqb-true, false_from_ne_true, not-false, not-true, or_parts}
pub use Rattle.std.proofs.lemmas.Bool.Decides.{nat_tests}
pub use Rattle.std.proofs.lemmas.Iterator.Consumers.{nth_from_yields_List}
pub use Rattle.std.proofs.lemmas.Iterator.Search.{all_from_yields_List, find_from_yields_List, position_from_yields_List}
pub use Rattle.std.proofs.lemmas.Iterator.Splits.{YieldsList-from_slice_split}
pub use Rattle.std.proofs.lemmas.List.{append-nil, append_cancel_left, drop-replicate, drop_all, length-map, length-replicate, take_all}
pub use Rattle.std.proofs.lemmas.List.Elements.{All-append, All-cons, All-nil, All-weaker}
pub use Rattle.std.proofs.lemmas.List.Folds.{list_all-append, list_any-append, list_any_at, list_any_none}
pub use Rattle.std.proofs.lemmas.List.FromFn.{fill_by_all, get_or-map-range_with_len, get_or-range_with_len}
pub use Rattle.std.proofs.lemmas.List.Splits.{length-slice_split}
pub use Rattle.std.proofs.lemmas.List.Sums.{AllPass-from_list_all, sum_by-append, sum_by-cons, sum_by_more}
pub use Rattle.std.proofs.lemmas.Map.Text.{btree_map_updates_str, hash_map_updates_str}
pub use Rattle.std.proofs.lemmas.Option.{same_Some, some_pair_parts}
pub use Rattle.std.proofs.lemmas.Result.{IfErr-weaker, IfOk-weaker, err_from_is_err_and}
pub use Rattle.std.proofs.lemmas.Slice.{take-put_mid}
pub use Rattle.std.proofs.lemmas.Slice.Eq.{bytes_eq-Decides}
pub use Rattle.std.proofs.lemmas.Str.{IsUtf8-from_ascii}
pub use Rattle.std.proofs.lemmas.Str.Ascii.{IsAscii-from_all}
pub use Rattle.std.specs.BTreeMap.{BTreeMap, get_by}
pub use Rattle.std.specs.Cmp.Lexicographic.{slice_cmp}
pub use Rattle.std.specs.List.{All, flat_map, list_all, list_any, onto_first, position, range_with_len, slice_split, starts_with, sum_by}
pub use Rattle.std.specs.Option.{option_copied, option_map}
pub use Rattle.std.specs.Prelude.{IfSome, IsSome, count_by, find, if◌then◌else◌, is_none, is_some, map, nat_eq, option_and_then, slice_index_or, ◌&&◌, ◌==◌, ◌||◌, ◌↔◌, ◌≢◌}
pub use Rattle.std.specs.Str.{IsUtf8, bytes_eq}
pub use Rattle.std.specs.Str.Lines.{lines, lines_of_parts}
pub use Rattle.cap_base.proofs.lists.Sums.{sum_of_two}
pub use Rattle.cap_base.proofs.lists.Tests.{bytes_itself, bytes_turned, same_test}
pub use Rattle.cap_base.proofs.paths.Paths.{IsUnder, before_dot, before_no_dot, child_to, has_dot, is_under_it, its_child, only_child, under_is, under_itself}
pub use Rattle.cap_base.specs.Limits.{applications_max, factor_max, queues_max, resources}
pub use Rattle.cap_base.specs.Listing.{IsListed, IsListedFromRoot, IsListing, MayFollow}
pub use Rattle.cap_base.specs.Paths.{is_child_of, is_under, root_path}
pub use Rattle.cap_base.specs.Settings.{QueueRow, Settings}
pub use Rattle.cap_base.specs.Texts.{is_graphic, is_text}
pub use Rattle.cap_base.specs.Trees.{HasDistinctPaths, IsTree, depth, has_path}
pub use Rattle.cap_base.specs.declared.properties.entry.Entry.{Entry}
pub use Rattle.cap_base.specs.declared.properties.fault.ConfigFault.{ConfigFault}
pub use Rattle.cap_base.specs.declared.properties.fault.ConfigFaultKind.{ConfigFaultKind}
pub use Rattle.cap_base.specs.declared.properties.fault.ConfigFaultKind.TheVariants.{BadLine, BadValue, GuaranteeOverMaximum, NoChild, NoMemory, NoSuchQueue, OverParent, Repeated, TooDeep, TooManyQueues, UnknownKey}
pub use Rattle.cap_base.specs.declared.properties.key.Key.{Key}
pub use Rattle.cap_base.specs.declared.properties.setting.Setting.{Setting}
pub use Rattle.cap_base.specs.declared.properties.setting.Setting.TheVariants.{Capacity, MaximumApplications, MaximumCapacity, MaximumGpu, MaximumMemory, MaximumVcores, MinimumGpu, MinimumMemory, MinimumVcores, Queues, State, UserLimitFactor}
pub use Rattle.cap_base.specs.declared.properties.value.Value.{Value}
pub use Rattle.cap_base.specs.declared.properties.value.Value.TheVariants.{Amounts, Names, Number, Running}
pub use Rattle.cap_base.specs.properties.Entries.{and_then, is_passed_over, is_printable, key_text, line_parts, read_lines, with_key, with_parts, with_value}
unfoldable pub use Rattle.cap_base.specs.properties.Entries.{entry_of, read_after}
pub use Rattle.cap_base.specs.properties.Fault.{FailsBy, fault_at}
pub use Rattle.cap_base.specs.properties.First.{AnswersFault, fault_after, settings_after, unless_fault}
unfoldable pub use Rattle.cap_base.specs.properties.First.{first_fault, settings_in}
pub use Rattle.cap_base.specs.properties.Keys.{dot_or, is_dot, is_name_byte, key_at, key_of, key_of_parts, last_dot, parts_round}
unfoldable pub use Rattle.cap_base.specs.properties.Keys.{is_name, parts_at_last_dot, prefix, queue_key, root}
pub use Rattle.cap_base.specs.properties.Queues.{amounts_at, amounts_or, child, guaranteed, is_below, is_entry_for, is_path_at, is_queue, leads_to_root, maximum, names_below, names_in_value, names_or_none, nearest_maximum, or_zero, same_setting, setting_number}
unfoldable pub use Rattle.cap_base.specs.properties.Queues.{above, entry_for}
pub use Rattle.cap_base.specs.properties.Rows.{factor, running_or}
unfoldable pub use Rattle.cap_base.specs.properties.Rows.{row_of, rows_under, settings_of}
pub use Rattle.cap_base.specs.properties.Seen.{HasAll, contains_bytes}
pub use Rattle.cap_base.specs.properties.Tests.{cluster_entry, exceeds, exceeds_limit, guaranteed_below, is_astray, is_deep, is_over_above, is_over_limit, is_over_maximum, is_over_parent, is_over_parts, is_overspent, lesser, level, line_or_zero, listed_by, lists_deep, lists_none, maximum_allocation, minimum_allocation, no_such_queue_line, number_in, number_or, or_else, or_fault, over_maximum_line, over_parent_line, pair_line, sum_below, too_deep_line, too_many_line}
unfoldable pub use Rattle.cap_base.specs.properties.Tests.{allocation_line, line_past, line_where, no_child_line, shape_fault, whole_fault}
pub use Rattle.cap_base.specs.properties.Values.{are_new, as_amounts, as_names, digits_max, in_brackets, is_name_under, is_next, pieces_of, value_of}
unfoldable pub use Rattle.cap_base.specs.properties.Values.{amounts_in, amounts_of, name_under, names_for, names_of, number_within, resource, state_of, value_at}
pub use Rattle.cap_config.specs.Bounds.{are_bounded, are_under, has_each, is_bounded, is_kept, most_of}
pub use Rattle.cap_config.specs.Details.{added_below, capped, detail_after, entries_in, fault_alone, limit_of, line_detail, missing_from, missing_or, missing_path, over_some, whole_detail}
unfoldable pub use Rattle.cap_config.specs.Details.{detail_at, detail_in, over_own}
pub use Rattle.cap_config.specs.declared.detail.DetailedFault.{DetailedFault}
pub use Rattle.cap_config.specs.Index.{FindsAll, entry_at, pointed_entry}
pub use Rattle.cap_config.specs.Laws.{FaultsAreInLines, FaultsAreOfText, HasAmounts, HasListed, LinesAreFew, QueueHasAmounts, SettingsHaveAmounts}
unfoldable pub use Rattle.cap_config.specs.LineKeys.{nth_line}
pub use Rattle.cap_config.specs.TreeLaws.{SettingsAreListed}
pub use Rattle.cap_text.proofs.Cuts.{cut_shorter, rest_all, split_cut, split_uncut}
pub use Rattle.cap_text.specs.Numbers.{number_of}
pub use Rattle.cap_text.specs.Pieces.{IsCut, lacks, trimmed_bytes}
pub use Rattle.cap_vector.specs.AmountLaws.{amount-zeros}
pub use Rattle.cap_vector.specs.Vector.{IsResource, IsVector, IsWithin, amount_max, by_amount, is_within, zeros}
