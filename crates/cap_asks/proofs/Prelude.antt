-- What the proofs here take from elsewhere.
pub use Rattle.std.proofs.Common.{Bool, List, [], add-one, ap, arith, cond, drop, false, get_or, inl, inr, is_some, length, length-append, length-drop, length-set, length-take, map, min, nat_cmp, refl, subst, suc, sym, take, true, zero, ℕ, ◌++◌, ◌+◌, ◌-◌, ◌/◌, ◌<◌, ◌∙◌, ◌∷◌, ◌≡◌, ◌≢◌, ◌≤◌, ◌*◌}
pub use Rattle.std.proofs.lemmas.Bool.Decides.{nat_tests}
pub use Rattle.std.proofs.lemmas.Grind.{common_steps}
pub use Rattle.std.proofs.lemmas.List.{append_cancel_left, drop-drop, drop_min, get_or-set_other, get_or-set_same, length-map, length-replicate, map_push, take_at, take_min, take_more}
pub use Rattle.std.proofs.lemmas.List.Edits.{length-insert, length-remove}
pub use Rattle.std.proofs.lemmas.List.Elements.{All-head, All-more, All-nil, All-push, All-tail, All-weaker}
pub use Rattle.std.proofs.lemmas.List.Sorted.{searched}
pub use Rattle.std.proofs.lemmas.List.Sums.{fold_more, sum_by-cons, sum_by-insert, sum_by-remove, sum_by-set}
pub use Rattle.std.proofs.lemmas.Map.{lookup-set_value}
pub use Rattle.std.proofs.lemmas.Map.Made.{lookup-map_values}
pub use Rattle.std.proofs.lemmas.Option.{get_or_from_slice_get, slice_get-map, slice_get_read, slice_get_within}
pub use Rattle.std.specs.BTreeMap.{insert_entry, is_at}
pub use Rattle.std.specs.Cmp.{nat_cmp_is, nat_eq_equiv, unsigned_ties}
pub use Rattle.std.specs.List.{All, AllByRecursion, fold, slice_get}
pub use Rattle.std.specs.Ordering.{is_lt}
pub use Rattle.std.specs.List.Sorted.{IsBinarySearchResult}
pub use Rattle.std.specs.Map.{lookup, remove_entry, set_value}
pub use Rattle.std.specs.Option.{option_map_or}
pub use Rattle.std.specs.Prelude.{Box, Err, IfSome, IsSome, None, Ok, OnOk, Option, Result, Some, filter, find, if◌then◌else◌, insert, nat_eq, nat_lt, not, option_and_then, option_map, remove, slice_index_or, slice_set, ◌&&◌, ◌==◌, ◌||◌, ◌⊎◌}
pub use Rattle.std.specs.declared.cmp.Ordering.TheVariants.{Greater}
pub use Rattle.cap_asks.specs.Accounts.{Account, AreAfter, AreKept, HasRoom, HeldApp, HeldAsks, HeldNews, IsKeyIndex, TakesRoom, WantAtLeast, index_of, is_before, key_slot}
pub use Rattle.cap_asks.specs.Apps.{AreAllKept, AreIndexed, AreNumbered, HasRooms, IsEntered, IsLeft, UsesRoom, account_of, entries_at, held_at, is_waiting, new_account, nobody, with_entry, without_entry, waiting_of}
pub use Rattle.cap_base.proofs.lists.Filters.{length-kept}
pub use Rattle.cap_base.proofs.lists.Members.{of_filter, of_map}
pub use Rattle.cap_base.proofs.lists.Tests.{first_is}
pub use Rattle.cap_base.specs.Limits.{keys_max, news_max}
pub use Rattle.cap_base.specs.Members.{IsIn, IsRising}
pub use Rattle.cap_base.specs.declared.no_memory.NoMemory.{NoMemory}
pub use Rattle.cap_model.proofs.calls.KeptAsks.{not_same_other, one_less, others_are_found, put_is_found, same_key_is, same_key_itself}
pub use Rattle.cap_model.proofs.lists.Numbered.{rising_kept}
pub use Rattle.cap_model.specs.Allocate.{after_telling}
pub use Rattle.cap_model.specs.Asking.{put_ask, with_ask, without_key}
pub use Rattle.cap_model.specs.Asks.{Ask, ask_key_cmp, same_key}
pub use Rattle.cap_model.specs.Events.{take_one}
pub use Rattle.cap_model.specs.FinishMaster.{remove_app}
pub use Rattle.cap_model.specs.Flat.{App, AppTable, ask_at, change_app}
pub use Rattle.cap_model.specs.News.{AllocateReply}
pub use Rattle.cap_model.specs.Reporting.{reported_of}
pub use Rattle.cap_model.specs.Submit.{add_app, new_app}
pub use Rattle.cap_model.specs.declared.ask.Key.{Key}
pub use Rattle.cap_model.specs.declared.replies.Reported.{Reported}
pub use Rattle.cap_vector.specs.Vector.{Fits}
pub use Rattle.slab.specs.Slab.{ContainsKey, Slab, Updates, get, with_value}
