-- What the proofs here take from elsewhere.
pub use Rattle.std.proofs.Common.{Bool, List, None, Option, Some, [], ap, arith, cond, false, find, get_or, inl, inr, length, length-append, map, nat_lt, not, refl, subst, suc, sym, true, zero, ℕ, ◌&&◌, ◌++◌, ◌+◌, ◌-◌, ◌<◌, ◌^◌, ◌∙◌, ◌∷◌, ◌≡◌, ◌≤◌}
pub use Rattle.std.proofs.Math.Bool.{and-false, and-true}
pub use Rattle.std.proofs.lemmas.Bool.{cases_lt, eqb-true}
pub use Rattle.std.proofs.lemmas.Bool.Decides.{nat_tests}
pub use Rattle.std.proofs.lemmas.List.{ext_get_or, get_or-replicate, get_or_past, length-map, length-replicate, map_push}
pub use Rattle.std.proofs.lemmas.List.Elements.{All-from_recursion}
pub use Rattle.std.proofs.lemmas.List.Folds.{find-append}
pub use Rattle.std.proofs.lemmas.List.FromFn.{length-map-range_with_len}
pub use Rattle.std.proofs.lemmas.List.Sums.{count_by-le-length, length-filter, sum-map, sum_by-cons, sum_by_push}
pub use Rattle.std.proofs.lemmas.Option.{same_Some, slice_get-map}
pub use Rattle.std.proofs.lemmas.Slice.Eq.{bytes_eq-Decides}
pub use Rattle.std.specs.BTreeMap.{insert_entry, is_at}
pub use Rattle.std.specs.Borrow.{RattleType}
pub use Rattle.std.specs.Cmp.{both_tied, nat_cmp_is, unsigned_ties}
pub use Rattle.std.specs.List.{All, AllByRecursion, list_any, slice_get, sum, sum_by}
pub use Rattle.std.specs.Map.{lookup, remove_entry, set_value, values_of}
pub use Rattle.std.specs.Mem.{FitsInMemory}
pub use Rattle.std.specs.Option.{option_map_or, option_or}
pub use Rattle.std.specs.Ordering.{is_gt, nat_cmp, ordering_then}
pub use Rattle.std.specs.Prelude.{IfSome, IsSome, IsTrue, bytes_eq, count_by, filter, if◌then◌else◌, is_some, nat_eq, option_and_then, option_map, ⊤, ◌==◌, ◌||◌, ◌↔◌}
pub use Rattle.std.specs.declared.cmp.Ordering.TheVariants.{Equal, Greater, Less}
pub use Rattle.cap_base.proofs.Amounts.{amount_of, amounts_fit, fits_amounts}
pub use Rattle.cap_base.proofs.lists.Filters.{filter_mapped, filter_whole, find_mapped_at, length-kept, map_twice}
pub use Rattle.cap_base.proofs.lists.Members.{IsIn, found, none_in}
pub use Rattle.cap_base.proofs.lists.Sums.{count_cons, one_where}
pub use Rattle.cap_base.proofs.lists.Tests.{or_left, or_right}
pub use Rattle.cap_base.specs.Amounts.{fits, part, sum_where}
pub use Rattle.cap_base.specs.Limits.{live_max, nodes_max, resources_max}
pub use Rattle.cap_base.specs.Members.{IsRising}
pub use Rattle.cap_base.specs.Texts.{is_text, star}
pub use Rattle.cap_model.proofs.lists.Numbered.{find_changed, find_gone, find_others, found_by_number, none_before, one_completed, rising_ends, rising_from_low, rising_kept, rising_more, rising_to_high}
pub use Rattle.cap_model.specs.Asks.{same_key}
pub use Rattle.cap_model.specs.Bounds.{AreApart}
pub use Rattle.cap_model.specs.Flat.{ClusterNode, Container, NodeTable, Reservation, is_for}
pub use Rattle.cap_model.specs.Heartbeat.{after_beat}
pub use Rattle.cap_model.specs.RegisterNode.{sum_of_totals}
pub use Rattle.cap_model.specs.declared.ask.Key.{Key}
pub use Rattle.cap_model.specs.declared.replies.HeartbeatReply.{HeartbeatReply}
pub use Rattle.cap_nodes.specs.Counting.{AreCounted, HasCount, app_key, app_key_of, count_in, same_app_key, some_count}
pub use Rattle.cap_nodes.specs.Loads.{AreTied, CanHold, ContainerTable, HasLess, HasMore, HasOne, HaveReservations, IsNumbered, IsOwnerIndex, IsTied, Load, LoadTable, beaten_load, change_load, has_pair, held_less, held_more, is_kept_for, is_of, load_at, made_after, pair_cmp, reservation_of, reserved_load, tagged_items, unreserved_load}
pub use Rattle.cap_nodes.specs.Places.{AreBothTexts, ArePlaces, AreTexts, AreWithin, HasNodeLess, HasNodeMore, KeepsPlaces, host_of, rack_of}
pub use Rattle.cap_nodes.specs.Tables.{IsLoadIn, IsSound, could_take, left_of}
pub use Rattle.cap_nodes.specs.declared.places.Places.{Places}
pub use Rattle.cap_vector.proofs.AmountLemmas.{amount-less, amount-plus, amount-zeros, length-less}
pub use Rattle.cap_vector.specs.Vector.{Fits, IsVector, IsWithin, amount, amount_max, by_amount, less, plus, zeros}
pub use Rattle.indexmap.proofs.CallerLemmas.{insert_entry-new}
