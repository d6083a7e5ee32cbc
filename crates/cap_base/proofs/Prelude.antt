-- What the proofs here take from elsewhere.
pub use Rattle.std.proofs.Common.{Bool, List, [], ap, append_assoc, arith, false, get_or, inl, inr, length, refl, rules, subst, suc, sym, take, true, zero, ℕ, ◌++◌, ◌+◌, ◌-◌, ◌<◌, ◌∙◌, ◌∷◌, ◌≡◌, ◌≤◌}
pub use Rattle.std.proofs.Math.Nat.{mul-lt-mul_of_pos_right, mul_right_comm}
pub use Rattle.std.proofs.lemmas.Bool.{and_from, and_parts, cases_Bool, cases_lt, not-false, not-true, or_from}
pub use Rattle.std.proofs.lemmas.Bool.Decides.{nat_tests}
pub use Rattle.std.proofs.lemmas.Cmp.{lists_total, nat_cmp_total, nat_list_cmp_total, on_total, ranked, then_total}
pub use Rattle.std.proofs.lemmas.List.{append_cancel_left, ext_get_or, get_or-append_right, get_or-replicate, get_or_append_left, get_or_past, length-append, length-replicate, take_at}
pub use Rattle.std.proofs.lemmas.List.Elements.{All-from_recursion, recursion_from_All}
pub use Rattle.std.proofs.lemmas.List.Folds.{list_any-append}
pub use Rattle.std.proofs.lemmas.List.FromFn.{get_or-map-range_with_len, length-map-range_with_len}
pub use Rattle.std.proofs.lemmas.List.Sums.{count_by-le-length, length-filter, sum_by-append, sum_by-cons}
pub use Rattle.std.proofs.lemmas.Slice.Eq.{bytes_eq-Decides}
pub use Rattle.std.specs.Cmp.{IsTotalOrder, nat_cmp_is}
pub use Rattle.std.specs.List.{All, AllByRecursion, list_all, list_any, range_with_len, starts_with, sum_by}
pub use Rattle.std.specs.Ordering.{MatchOrdering, nat_cmp}
pub use Rattle.std.specs.Prelude.{IsSome, None, Option, Some, bytes_eq, cond, count_by, drop, filter, find, flat_map, if◌then◌else◌, is_none, is_some, map, max, nat_eq, nat_le, not, option_map, replicate, slice_index, unwrap_or, ◌&&◌, ◌*◌, ◌==◌, ◌||◌, ◌⊎◌}
pub use Rattle.std.specs.declared.cmp.Ordering.{Ordering}
pub use Rattle.std.specs.declared.cmp.Ordering.TheVariants.{Equal, Greater, Less}
pub use Rattle.cap_base.specs.Amounts.{fits}
pub use Rattle.cap_base.specs.Levels.{level_cmp}
pub use Rattle.cap_base.specs.Listing.{IsListed, IsListedFromRoot}
pub use Rattle.cap_base.specs.Members.{IsRising}
pub use Rattle.cap_base.specs.PathLaws.{LevelsInOrder, ListingsStandBelow, TreesAreTested, UnderByPath}
pub use Rattle.cap_base.specs.Paths.{is_child_of, is_under, name_of, root_path}
pub use Rattle.cap_base.specs.Settings.{QueueRow}
pub use Rattle.cap_base.specs.Texts.{IsStored, is_text, padded_text}
pub use Rattle.cap_base.specs.Trees.{HasDistinctPaths, IsTree, StandBelow, depth, fronts, has_distinct_paths, is_tree}
pub use Rattle.cap_vector.specs.Fullness.{share_cmp, shares_cmp}
pub use Rattle.cap_vector.specs.Vector.{amount, by_amount}
