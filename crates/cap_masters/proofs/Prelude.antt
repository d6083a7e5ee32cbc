-- What the proofs here take from elsewhere.
pub use Rattle.std.proofs.Common.{Bool, List, None, Option, Some, [], ap, arith, drop, false, get_or, inl, inr, length, not, refl, subst, suc, sym, take, true, zero, ℕ, ◌++◌, ◌+◌, ◌-◌, ◌<◌, ◌∙◌, ◌∷◌, ◌≡◌, ◌≤◌}
pub use Rattle.std.proofs.lemmas.Bool.Decides.{nat_tests}
pub use Rattle.std.proofs.lemmas.List.{drop_all, take_all, take_more}
pub use Rattle.std.proofs.lemmas.List.Sums.{fold-append}
pub use Rattle.std.specs.List.{fold, list_all, list_any, starts_with}
pub use Rattle.std.specs.Prelude.{IfSome, IsSome, IsTrue, bytes_eq, filter, find, if◌then◌else◌, is_none, is_some, nat_eq, nat_le, option_and_then, option_map, ◌&&◌, ◌==◌, ◌||◌, ◌↔◌}
pub use Rattle.cap_asks.specs.Accounts.{repeated_numbers}
pub use Rattle.cap_asks.specs.Apps.{ask_room}
pub use Rattle.cap_base.proofs.Amounts.{amounts_fit, fits_amounts}
pub use Rattle.cap_base.proofs.lists.Tests.{and_false, first_holds, kept_if}
pub use Rattle.cap_base.specs.Amounts.{fits}
pub use Rattle.cap_base.specs.Cascade.{earliest, holds_of}
pub use Rattle.cap_base.specs.Limits.{number_end}
pub use Rattle.cap_base.specs.Paths.{is_under}
pub use Rattle.cap_base.specs.Settings.{QueueRow}
pub use Rattle.cap_commit.proofs.Fitting.{amounts_in_cluster, app_fits, apps_fit, ask_in_cluster, limits_in_cluster}
pub use Rattle.cap_commit.proofs.RowsAt.{is_found}
pub use Rattle.cap_commit.proofs.Sizes.{tree_fits}
pub use Rattle.cap_laws.proofs.numbers.ContainerNumbers.{asks_keep}
pub use Rattle.cap_masters.specs.Processed.{HasResponse}
pub use Rattle.cap_model.proofs.lists.Numbered.{find_changed}
pub use Rattle.cap_model.specs.Allocate.{after_allocate, after_processed_allocate, after_telling, after_wishes, allocate_refusal, has_too_many_keys, is_repeated_allocate, is_too_large, kept_reply, released_by}
pub use Rattle.cap_model.specs.Asking.{after_ask, after_asks, put_ask, rounded_ask}
pub use Rattle.cap_model.specs.Asks.{Ask}
pub use Rattle.cap_model.specs.Ending.{after_ends, named_among, with_ends}
pub use Rattle.cap_model.specs.FinishMaster.{finish_master_refusal}
pub use Rattle.cap_model.specs.Flat.{App, AppTable, Container, Flat, app_at, queue_at, with_app}
pub use Rattle.cap_model.specs.News.{AllocateReply, Reply}
pub use Rattle.cap_model.specs.Replies.{refused_or}
pub use Rattle.cap_model.specs.Reporting.{HasNumbers, full_reply, reported_of}
pub use Rattle.cap_model.specs.ResponseIds.{is_bad_id, is_current, is_repeated}
pub use Rattle.cap_model.specs.Submit.{has_children, is_running, submit_refusal}
pub use Rattle.cap_model.specs.declared.news.Cause.{Cause}
pub use Rattle.cap_model.specs.declared.refusal.Refusal.{Refusal}
pub use Rattle.cap_model.specs.declared.replies.Reported.{Reported}
pub use Rattle.cap_model.specs.declared.request.Request.{Request}
pub use Rattle.cap_tree.specs.Rows.{IsAt, Row, queues_of}
pub use Rattle.cap_tree.specs.Spot.{path_at}
pub use Rattle.cap_vector.specs.Vector.{Fits}
