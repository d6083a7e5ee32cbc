-- What the proofs here take from elsewhere.
pub use Rattle.std.proofs.Common.{Bool, List, None, Option, Some, [], add-one, ap, append_assoc, arith, false, length, length-append, map, refl, set, subst, suc, sym, true, vec_capacity, zero, zero-add, ℕ, ⊎_elim, ◌++◌, ◌+◌, ◌-◌, ◌<◌, ◌==◌, ◌∙◌, ◌∷◌, ◌≡◌, ◌≢◌, ◌≤◌}
pub use Rattle.std.proofs.Crossing.{crosses}
pub use Rattle.std.proofs.lemmas.Bool.Decides.{nat_tests}
pub use Rattle.std.proofs.lemmas.List.{append-nil, length-map, map-append}
pub use Rattle.std.specs.List.{slice_get}
pub use Rattle.std.specs.Prelude.{if◌then◌else◌}
pub use Rattle.std.specs.declared.alloc.Allocator.{Ghosts}
pub use Rattle.atomic_table.proofs.Lists.{at_set, at_snoc}
pub use Rattle.atomic_table.specs.Seated.{TableId}
pub use Rattle.atomic_table.specs.Table.{Allows, Joins, Me, Splits, opening, step}
pub use Rattle.cap_base.specs.Limits.{resources}
pub use Rattle.cap_commit.proofs.Viewing.{has_some}
pub use Rattle.cap_laws.proofs.bounds.BoundedRuns.{opened_is_bounded}
pub use Rattle.cap_laws.proofs.bounds.Risen.{states_of_runs}
pub use Rattle.cap_laws.proofs.choice.Reasons.{rejected_exactly}
pub use Rattle.cap_laws.proofs.numbers.Balance.{step_is_determined}
pub use Rattle.cap_model.specs.Admission.{reason_of}
pub use Rattle.cap_model.specs.Events.{Run, Step, after_event}
pub use Rattle.cap_model.specs.Flat.{Flat, opened_cluster}
pub use Rattle.cap_model.specs.News.{Reply}
pub use Rattle.cap_model.specs.Replies.{Replies}
pub use Rattle.cap_model.specs.Reporting.{HasRoomForReplies, NewsRoom, full_reply, news_most}
pub use Rattle.cap_model.specs.Risen.{LimitsAreMetOrNotRisen}
pub use Rattle.cap_model.specs.Sight.{sight_of}
pub use Rattle.cap_model.specs.declared.event.Event.{Event}
pub use Rattle.cap_model.specs.declared.request.Request.{Request}
pub use Rattle.cap_shared.specs.Calls.{HasMore}
pub use Rattle.cap_shared.specs.Journal.{AllHonest, IsBy, NoteHolds, NotesHold, Replays, Rises, TagsBelow, end_after, end_of, events_in, position_of, receipt_for, receipts_in, seat_entries, start_of, state_after}
pub use Rattle.cap_shared.specs.Laws.{JournalsLeadToStates, JournalsStayBounded}
pub use Rattle.cap_commit.specs.Admission.{taken_back}
pub use Rattle.cap_commit.specs.Making.{event_of_made}
pub use Rattle.cap_shared.specs.Parts.{Content, IsDesk, IsSeat, report_of}
pub use Rattle.cap_shared.specs.Passes.{IsEntered, IsNoted, Pass}
pub use Rattle.cap_shared.specs.WordRule.{Addition, AllFit, Enters, Fits, Holds, IsAdded, IsCompared, IsOf, Knows, Notes, NotesBegin, Nothing, addition_of, first_view, fresh, head_of, keeper, log_after, nobody, only_first, past_after, rest_of, sits_after, sitter, sitting, sitting_of, times, total, view_of, view_with, with_guest, without_first}
pub use Rattle.cap_shared.specs.declared.entry.Entry.{Entry}
pub use Rattle.cap_shared.specs.declared.entry.Receipt.{Receipt}
pub use Rattle.cap_shared.specs.declared.history.Mark.{Mark}
pub use Rattle.cap_shared.specs.declared.history.Moment.{Moment}
pub use Rattle.cap_shared.specs.declared.history.Moment.TheVariants.{Entered, Noted}
pub use Rattle.cap_shared.specs.declared.history.NotedAnswer.{NotedAnswer}
pub use Rattle.cap_shared.specs.declared.history.Sitting.{Sitting}
pub use Rattle.cap_shared.specs.declared.history.View.{View}
pub use Rattle.cap_commit.specs.declared.made.Made.{Made}
